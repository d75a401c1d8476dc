-- The rows of documents 01 and 02 hold, an angle's bounds in naturals, and each promise allows one answer.
use native.Mathlib.Omega.{arith}
use mathlib.Core.Path.{◌≡◌, refl}
use mathlib.Core.Bool.{Bool, true, and-eq-true_iff}
use lib.IntN.{ℤ, pos, negsuc}
use lib.Signed.{le_z}
use Rattle.answers.specs.Answer.{refused, given}
use Rattle.answers.proofs.Said.{said_once}
use Rattle.answers.proofs.Unique.{only}
use Rattle.turns.specs.Turn.{is_angle, candidates, is_short, half_turn, first_that, between, turn_of}
use Rattle.std.specs.Prelude.{Result}
use Rattle.answers.specs.Said.{said}
use Rattle.answers.specs.declared.Refusal.{Refusal}
use Rattle.turns.proofs.Ints.{Bounds, le_yes, yes_le}

-- the rows of document 01, with the half turn of document 02 there and back, and numbers that are no angle
pub rows :
    (turn_of (pos 179) (negsuc 178) ≡ given (pos 2))
    × (turn_of (negsuc 178) (pos 179) ≡ given (negsuc 1))
    × (turn_of (pos 0) (negsuc 179) ≡ given (pos 180))
    × (turn_of (negsuc 179) (pos 0) ≡ given (negsuc 179))
    × (turn_of (negsuc 180) (pos 0) ≡ refused 3)
    × (turn_of (pos 0) (pos 180) ≡ refused 3)
    × (turn_of (negsuc 32767) (pos 0) ≡ refused 3)
    × (turn_of (pos 0) (pos 32767) ≡ refused 3)
unfolding turn_of between candidates first_that is_short half_turn is_angle
rows = (refl, refl, refl, refl, refl, refl, refl, refl)

-- an angle is within the bounds
pub within : (z : ℤ) → is_angle z ≡ true → Bounds 360 z
unfolding is_angle
within z e = let h = (and-eq-true_iff (le_z (negsuc 179) z) (le_z z (pos 179))).0 e in omega (arith, le_yes)

-- what is within the bounds is an angle
pub angle : (z : ℤ) → Bounds 360 z → is_angle z ≡ true
unfolding is_angle
angle z w = (and-eq-true_iff _ _).1 (yes_le (negsuc 179) z (omega arith), yes_le z (pos 179) (omega arith))

-- the promise of `turn` allows one answer
pub turn_once : (a b : ℤ) (r r' : Result ℤ Refusal) → said r ≡ turn_of a b → said r' ≡ turn_of a b → r ≡ r'
turn_once a b r r' p q = said_once r r' (only p q)

-- and so does the promise of `is_angle`
pub angle-once : (a : ℤ) {r r' : Bool} → r ≡ is_angle a → r' ≡ is_angle a → r ≡ r'
angle-once a p q = only p q
