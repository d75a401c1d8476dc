-- `turn` meets its contract: refused where a or b is no angle, else the turn between them.
use mathlib.Core.Bool.{Bool, and-false}
use mathlib.Core.Path.{◌≡◌, sym, ap, ◌∙◌}
use lib.IntN.{ℤ}
use mir.Syntax.{w16}
use mir.Val.{SFits, to_z, of_z}
use mir.ValLaws.{to_z-of_z}
use Rattle.answers.specs.Answer.{given}
use Rattle.turns.specs.Turn.{is_angle, turn_of}
use Rattle.turns.proofs.Degrees.{turn_given}
use Rattle.turns.proofs.turn.Goals as goal
use Rattle.turns.proofs.turn.Goals.{then-not-is_angle-via-then-not-is_angle, then-not-is_angle-via-else-not-is_angle+then-not-is_angle-2}

-- what the test of an angle, as the machine reads it, told of it
told : {z : ℤ} {r t : Bool} → SFits w16 z → r ≡ is_angle (to_z w16 (of_z w16 z)) → r ≡ t → is_angle z ≡ t
told {z} f e h = ap is_angle (sym (to_z-of_z w16 z f)) ∙ sym e ∙ h

-- the way to the refusal: a is no angle, or b is none
pub returns-then-not-is_angle : goal.returns-then-not-is_angle
unfolding turn_of
returns-then-not-is_angle c =
    elim c.then-not-is_angle.branch [
      | then-not-is_angle-via-then-not-is_angle w ↦ rw (told c.ranges.a c.is_angle.ensures w.if-not-is_angle.true)
      | then-not-is_angle-via-else-not-is_angle+then-not-is_angle-2 w ↦
          rw (told c.ranges.b w.is_angle-else-not-is_angle.ensures w.if-not-is_angle-2.true, and-false)
    ]

pub returns : goal.returns
returns c =
    let a = to_z-of_z w16 c.args.a c.ranges.a in
    let b = to_z-of_z w16 c.args.b c.ranges.b in
    ap given (to_z-of_z w16 _ (record { sfits = c.between.type_inv }) ∙ c.between.ensures ∙ rw (a, b))
    ∙ sym (turn_given c.args.a c.args.b (told c.ranges.a c.is_angle.ensures c.if-not-is_angle.false)
    (told c.ranges.b c.is_angle-else-not-is_angle.ensures c.if-not-is_angle-2.false))
