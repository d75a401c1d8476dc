-- `fill::fill_moves` meets its contract: the table of the moves so far.
use Rattle.tables.proofs.Filling.{Adding}
use Rattle.tables.proofs.fill.fill_moves.Given as goal

abbrev pub invariant-loop-i : goal.invariant-loop-i
invariant-loop-i l = Adding l.file l.start l.k l.moves l.i
