-- `fill::fill_angles` meets its contract: the places so far are filled.
use lib.IntN.{pos}
use Rattle.tables.specs.Format.{state}
use Rattle.tables.specs.Inner.{values}
use Rattle.tables.proofs.Filling.{FilledTo, angle_of}
use Rattle.tables.proofs.fill.fill_angles.Given as goal

abbrev pub invariant-loop-i : goal.invariant-loop-i
invariant-loop-i l = FilledTo (pos 0) (angle_of (values state l.file 2 l.size)) l.initial.angles l.angles 256 l.i
