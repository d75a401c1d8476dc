-- `forward` meets its contract: the rows of the members passed so far are joined.
use Rattle.moves.proofs.Rows.{Joining}
use Rattle.moves.proofs.forward.Given as goal

abbrev pub invariant-loop-s : goal.invariant-loop-s
invariant-loop-s l = Joining l.size l.moves l.x.words l.acc.words l.s
