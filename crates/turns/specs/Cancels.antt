-- There and back should cancel (document 02, 2/12): what is proved of the turn, once for any even full turn, and of degrees from that.
-- proofs/AnyTurn.antt and proofs/Degrees.antt prove it.
use Rattle.std.specs.Prelude.{ℕ, ◌/◌, ◌%◌, ◌≤◌, true, false, ◌&&◌, cond, ◌⊎◌, ◌≢◌, ◌≡◌, ℤ, pos, negsuc, neg_ℤ, nat_abs, ◌+ℤ◌, ◌-ℤ◌}
use Rattle.std.specs.Int.Signed.{le_z, lt_z}
use Rattle.answers.specs.Answer.{Answer, refused, given}
use Rattle.answers.specs.Refusals.{bad_label}
use Rattle.turns.specs.Turn.{is_angle, candidates, first_that, between, turn_of}

-- ---- for any full turn T
-- an angle: a whole number from -T/2 to T/2 - 1
pub record Angle (T : ℕ) (z : ℤ) : Type 0 where
  pub low : le_z (neg_ℤ (pos (T / 2))) z ≡ true
  pub high : lt_z z (pos (T / 2)) ≡ true

-- t is one of the candidates
abbrev pub Candidate : ℕ → ℤ → ℤ → ℤ → Type 0
Candidate T a b t = (t ≡ b -ℤ a) ⊎ ((t ≡ b -ℤ a +ℤ pos T) ⊎ (t ≡ b -ℤ a -ℤ pos T))

pub record Turning (T : ℕ) (a b : ℤ) : Type 0 where
  -- turn a to b is minus turn b to a
  pub cancels : between T a b ≡ neg_ℤ (between T b a)
  -- it lies in -T/2 to T/2
  pub range : nat_abs (between T a b) ≤ T / 2
  -- it leads from a to b: it is b - a, or a full turn more or less
  pub leads : Candidate T a b (between T a b)
  -- a half turn is positive from an angle of 0 or more, negative from a negative one
  pub half_from_0 : nat_abs (between T a b) ≡ T / 2 → le_z (pos 0) a ≡ true → between T a b ≡ pos (T / 2)
  pub half_below_0 : nat_abs (between T a b) ≡ T / 2 → le_z (pos 0) a ≡ false → between T a b ≡ neg_ℤ (pos (T / 2))

abbrev pub AnyTurn : Type 0
AnyTurn = (T : ℕ) → T % 2 ≡ 0 → (a b : ℤ) → Angle T a → Angle T b → Turning T a b

-- ---- for degrees, of any two numbers, angles or not
-- the opposite turn; a refusal stays
abbrev pub opposite : Answer ℤ → Answer ℤ
opposite (given t) = given (neg_ℤ t)
opposite (refused k) = refused k

-- the turn as document 01 had it: the one of the candidates that lies in -180 to 179
unfoldable pub former_turn : ℤ → ℤ → Answer ℤ
former_turn a b = cond (is_angle a && is_angle b) (given (first_that is_angle (candidates 360 a b) (pos 0))) (refused bad_label)

pub record InDegrees (a b : ℤ) : Type 0 where
  -- turn a to b is minus turn b to a, and refused where that is
  pub cancels : turn_of a b ≡ opposite (turn_of b a)
  -- it lies in -180 to 180
  pub range : (t : ℤ) → turn_of a b ≡ given t → nat_abs t ≤ 180
  -- only half turns change: any other turn, and a refusal, is as it was ..
  pub others : former_turn a b ≢ given (negsuc 179) → turn_of a b ≡ former_turn a b
  -- .. and what was -180 is 180 from an angle of 0 or more, -180 from a negative one
  pub half_from_0 : former_turn a b ≡ given (negsuc 179) → le_z (pos 0) a ≡ true → turn_of a b ≡ given (pos 180)
  pub half_below_0 : former_turn a b ≡ given (negsuc 179) → le_z (pos 0) a ≡ false → turn_of a b ≡ given (negsuc 179)
