-- What the code's tests of a number say: the machine reads the number from its bits.
use native.Mathlib.Omega.{arith}
use mathlib.Core.Bool.{Bool, true, false}
use mathlib.Core.Path.{◌≡◌, refl, sym}
use lib.IntN.{ℤ, pos, negsuc}
use lib.Signed.{le_z, lt_z}
use mir.Syntax.{w16}
use mir.Val.{SFits, to_z, of_z}
use mir.ValLaws.{to_z-of_z}
use Rattle.turns.specs.Turn.{is_short, half_turn}
use Rattle.turns.proofs.AnyTurn.{half_positive, half_negative, yes_short, not_short}
use Rattle.turns.proofs.Ints.{le_yes, le_no, lt_yes, lt_no, Inside}

-- the half turn: the test is for the sign of a
pub half_up : (a : ℤ) → SFits w16 a → le_z (pos 0) (to_z w16 (of_z w16 a)) ≡ true → half_turn 360 a ≡ pos 180
half_up a f e =
    let t = rw (to_z-of_z w16 a f) at e in
    half_positive 360 a (omega (arith, le_yes))

pub half_down : (a : ℤ) → SFits w16 a → le_z (pos 0) (to_z w16 (of_z w16 a)) ≡ false → half_turn 360 a ≡ negsuc 179
half_down a f e =
    let t = rw (to_z-of_z w16 a f) at e in
    half_negative 360 a (omega (arith, le_no))

-- a test that passes just where d lies between -180 and 180
decides : (d : ℤ) (r : Bool) → (r ≡ true → Inside 180 d) → (r ≡ false → Inside 180 d → ⊥) → r ≡ is_short 360 d
decides d true near far = sym (yes_short 360 d (near refl))
decides d false near far = sym (not_short 360 d (far refl))

-- above -180 the second test decides ..
pub short_above :
    (d : ℤ) → SFits w16 d → lt_z (negsuc 179) (to_z w16 (of_z w16 d)) ≡ true → is_short 360 d ≡ lt_z (to_z w16 (of_z w16 d)) (pos 180)
short_above d f t =
    let e = to_z-of_z w16 d f in
    let above = rw e at t in
    rw e (sym (decides d (lt_z d (pos 180)) (λ t. omega (arith, lt_yes)) (λ t i. omega (arith, lt_no))))

-- .. and from -180 down d is a half turn or more
pub short_below : (d : ℤ) → SFits w16 d → lt_z (negsuc 179) (to_z w16 (of_z w16 d)) ≡ false → is_short 360 d ≡ false
short_below d f t =
    let below = rw (to_z-of_z w16 d f) at t in
    not_short 360 d (λ i. omega (arith, lt_no))
