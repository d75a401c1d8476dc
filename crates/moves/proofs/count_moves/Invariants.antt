-- `count_moves` meets its contract: the sum over the rows so far, at most 256 each.
use Rattle.moves.proofs.Rows.{Counting}
use Rattle.moves.proofs.count_moves.Given as goal

abbrev pub invariant-loop-s : goal.invariant-loop-s
invariant-loop-s l = Counting l.moves l.total l.s
