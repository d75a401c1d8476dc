-- `is_angle` meets its contract: what the machine reads from the bits of a is a.
use mir.Syntax.{w16}
use mir.ValLaws.{to_z-of_z}
use Rattle.turns.specs.Turn.{is_angle}
use Rattle.turns.proofs.is_angle.Goals as goal

pub returns-then-a-geminus180 : goal.returns-then-a-geminus180
unfolding is_angle
returns-then-a-geminus180 c = let e = to_z-of_z w16 c.args.a c.ranges.a in rw (e, rw e at c.if-a-geminus180.true)

pub returns-else-a-geminus180 : goal.returns-else-a-geminus180
unfolding is_angle
returns-else-a-geminus180 c = let e = to_z-of_z w16 c.args.a c.ranges.a in rw (e, rw e at c.if-a-geminus180.false)
