-- `fill::set_of` meets its contract: the set of the numbers so far.
use Rattle.tables.proofs.Filling.{Gathering}
use Rattle.tables.proofs.fill.set_of.Given as goal

abbrev pub invariant-loop-i : goal.invariant-loop-i
invariant-loop-i l = Gathering l.file l.start l.k l.x.words l.i
