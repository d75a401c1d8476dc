-- The turn between two angles: document 01's candidates, and the half turn as document 02 (2/12) has it. T is the full turn, an even
-- number; of degrees it is 360.
use Rattle.std.specs.Prelude.{ℕ, ◌/◌, Bool, ◌&&◌, cond, List, [], ◌∷◌, ltb, ℤ, pos, negsuc, neg_ℤ, nat_abs, ◌+ℤ◌, ◌-ℤ◌}
use Rattle.std.specs.Int.Signed.{le_z}
use Rattle.answers.specs.Answer.{Answer, refused, given}
use Rattle.answers.specs.Refusals.{bad_label}

-- a whole number of degrees from -180 to 179
unfoldable pub is_angle : ℤ → Bool
is_angle z = le_z (negsuc 179) z && le_z z (pos 179)

-- b - a, b - a + T and b - a - T
unfoldable pub candidates : ℕ → ℤ → ℤ → List ℤ
candidates T a b = (b -ℤ a) ∷ (b -ℤ a +ℤ pos T) ∷ (b -ℤ a -ℤ pos T) ∷ []

-- less than a half turn, either way
unfoldable pub is_short : ℕ → ℤ → Bool
is_short T z = ltb (nat_abs z) (T / 2)

-- the half turn: positive from an angle of 0 or more, negative from a negative one
unfoldable pub half_turn : ℕ → ℤ → ℤ
half_turn T (pos n) = pos (T / 2)
half_turn T (negsuc n) = neg_ℤ (pos (T / 2))

-- the first of a list that passes a test, or else another number
unfoldable pub first_that : (ℤ → Bool) → List ℤ → ℤ → ℤ
first_that test [] other = other
first_that test (z ∷ zs) other = cond (test z) z (first_that test zs other)

-- the one of the candidates that is less than a half turn, or else the half turn
unfoldable pub between : ℕ → ℤ → ℤ → ℤ
between T a b = first_that (is_short T) (candidates T a b) (half_turn T a)

-- the turn from angle a to angle b, in degrees: refused where one of them is no angle
unfoldable pub turn_of : ℤ → ℤ → Answer ℤ
turn_of a b = cond (is_angle a && is_angle b) (given (between 360 a b)) (refused bad_label)
