-- `fill::fill_modes` meets its contract: the places so far are filled.
use Rattle.tables.specs.Format.{state}
use Rattle.tables.specs.Inner.{values}
use Rattle.tables.proofs.Filling.{FilledTo, mode_of}
use Rattle.tables.proofs.fill.fill_modes.Given as goal

abbrev pub invariant-loop-i : goal.invariant-loop-i
invariant-loop-i l = FilledTo 0 (mode_of (values state l.file 2 l.size)) l.initial.modes l.modes 256 l.i
