-- `turn_at` meets its contract: what the machine reads from the bits of an angle is the angle.
use Prim.Native.Nat.{ℕ, zero, suc, ◌-◌}
use native.Mathlib.Omega.{arith}
use mathlib.Core.Path.{◌≡◌, refl, ap, ◌∙◌}
use mathlib.Core.List.{List}
use lib.IntN.{ℤ, pos}
use mir.Syntax.{w16}
use mir.ValLaws.{to_z-of_z}
use Rattle.std.specs.Prelude.{Result, Ok, Err}
use Rattle.std.specs.Result.{result_unwrap_or}
use Rattle.answers.specs.Said.{said}
use Rattle.answers.specs.declared.Refusal.{Refusal}
use Rattle.turns.specs.Turn.{turn_of}
use Rattle.listings.specs.Listing.{angle_at, shown, turn_at}
use Rattle.listings.proofs.walk.turn_at.Goals as goal

-- the turn into a state that is not the first
turn_more :
    (walk : List ℕ) (angles : List ℤ) (i : ℕ) → (i ≡ 0 → ⊥)
    → turn_at walk angles i ≡ shown (turn_of (angle_at walk angles (i - 1)) (angle_at walk angles i))
unfolding turn_at
turn_more walk angles zero h = absurd (h refl)
turn_more walk angles (suc i) h = let e : suc i - 1 ≡ i = omega arith in rw e

-- the turn shown of what was answered
shown_said : (r : Result ℤ Refusal) → result_unwrap_or r (pos 0) ≡ shown (said r)
unfolding shown
shown_said (Ok t) = refl
shown_said (Err r) = refl

pub returns-then-i-eq0 : goal.returns-then-i-eq0
unfolding turn_at
returns-then-i-eq0 c = rw c.if-i-eq0.true

pub returns : goal.returns
returns c =
    let before = c.angle_at-before in
    let here = c.angle_at-here in
    let a = to_z-of_z w16 before.result (record { sfits = before.type_inv }) in
    let b = to_z-of_z w16 here.result (record { sfits = here.type_inv }) in
    let e = rw (a, b, before.ensures, here.ensures) at c.turn.ensures in
    rw (turn_more c.args.walk.now c.args.angles.now c.args.i c.if-i-eq0.false)
    (to_z-of_z w16 _ (record { sfits = c.unwrap_or.type_inv }) ∙ c.unwrap_or.ensures ∙ shown_said c.turn.result ∙ ap shown e)
