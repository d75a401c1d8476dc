-- The turn in degrees is the case T = 360: there and back cancel, and only half turns differ from document 01's.
use native.Mathlib.Omega.{arith}
use mathlib.Core.Bool.{Bool, true, false, and-false}
use mathlib.Core.Logic.{◌≢◌, inl, inr}
use mathlib.Core.Path.{◌≡◌, refl, sym, ap, ◌∙◌}
use lib.IntN.{ℤ, pos, negsuc, ◌+ℤ◌, ◌-ℤ◌}
use Rattle.answers.proofs.Values.{no_value}
use Rattle.answers.specs.Answer.{refused, given}
use Rattle.turns.specs.Turn.{is_angle, candidates, half_turn, first_that, between, turn_of}
use Rattle.turns.specs.Cancels.{Angle, Candidate, opposite, former_turn, InDegrees}
use Rattle.turns.proofs.AnyTurn.{half_positive, half_negative, IsTurn, short, half, is_turn, turning}
use Rattle.turns.proofs.Ints.{add_is, sub_is, same_int, le_yes, le_no, yes_le, yes_lt}
use Rattle.turns.proofs.Laws.{within, angle}
use Rattle.turns.proofs.Picks.{only_one}

-- ---- beside the turn as document 01 had it
module _ (a b : ℤ) where
  abbrev d : ℤ
  d = b -ℤ a

  abbrev former : ℤ
  former = first_that is_angle (candidates 360 a b) (pos 0)

  -- the candidate that is an angle; there is one at most, since they lie 360 apart
  former-is : (t : ℤ) → is_angle t ≡ true → Candidate 360 a b t → t ≡ former
  unfolding candidates
  former-is t e c =
      let p = add_is d (pos 360) in
      let m = sub_is d (pos 360) in
      only_one is_angle d (d +ℤ pos 360) (d -ℤ pos 360) (pos 0) t
      (λ f g. omega (arith, within _ f, within _ g))
      (λ f g. omega (arith, within _ f, within _ g))
      (λ f g. omega (arith, within _ f, within _ g))
      e c

  -- it is the turn, but for a half turn, which was -180
  data Beside : Type 0 where
    same : between 360 a b ≡ former → former ≢ negsuc 179 → Beside
    differs : former ≡ negsuc 179 → between 360 a b ≡ half_turn 360 a → Beside

  beside : IsTurn 360 a b (between 360 a b) → Beside
  beside (short i c) =
      let e = former-is _ (angle _ (omega arith)) c in
      same e (λ q. omega (arith, rw (e ∙ q) at i))
  beside (half (inl h) e) =
      let p : negsuc 179 ≡ d -ℤ pos 360 = same_int (negsuc 179) _ (omega (arith, sub_is d (pos 360))) in
      differs (sym (former-is (negsuc 179) (angle _ (omega arith)) (inr (inr p)))) e
  beside (half (inr h) e) =
      let p : negsuc 179 ≡ d = same_int (negsuc 179) d (omega arith) in
      differs (sym (former-is (negsuc 179) (angle _ (omega arith)) (inl p))) e

-- ---- the turn of any two numbers
module _ (a b : ℤ) where
  -- either both are angles, or no turn is given
  data Seen : Type 0 where
    angles : is_angle a ≡ true → is_angle b ≡ true → Seen
    no_angle : turn_of a b ≡ refused 3 → turn_of b a ≡ refused 3 → former_turn a b ≡ refused 3 → Seen

  seen : Seen
  unfolding turn_of former_turn
  seen = go (is_angle a) (is_angle b) refl refl
    where
      go : (p q : Bool) → is_angle a ≡ p → is_angle b ≡ q → Seen
      go true true e f = angles e f
      go true false e f = no_angle (rw (e, f)) (rw f) (rw (e, f))
      go false q e f = no_angle (rw e) (rw (e, and-false)) (rw e)

  pub turn_given : is_angle a ≡ true → is_angle b ≡ true → turn_of a b ≡ given (between 360 a b)
  unfolding turn_of
  turn_given e f = rw (e, f)

-- one value
one : {t u : ℤ} → given t ≡ given u → t ≡ u
one e = cc

-- an angle in degrees is one where the full turn is 360
angle-360 : (z : ℤ) → is_angle z ≡ true → Angle 360 z
angle-360 z e =
    let w = within z e in
    record { low = yes_le (negsuc 179) z (omega arith); high = yes_lt z (pos 180) (omega arith) }

module _ (a b : ℤ) (ea : is_angle a ≡ true) (eb : is_angle b ≡ true) where
  former-given : former_turn a b ≡ given (former a b)
  unfolding former_turn
  former-given = rw (ea, eb)

  stands_beside : Beside a b
  stands_beside = beside a b (is_turn 360 refl a b (within a ea) (within b eb))

  others : Beside a b → former_turn a b ≢ given (negsuc 179) → turn_of a b ≡ former_turn a b
  others (same e n) _ = turn_given a b ea eb ∙ ap given e ∙ sym former-given
  others (differs e h) n = absurd (n (former-given ∙ ap given e))

  halves : Beside a b → former_turn a b ≡ given (negsuc 179) → turn_of a b ≡ given (half_turn 360 a)
  halves (same e n) q = absurd (n (one (sym former-given ∙ q)))
  halves (differs e h) q = turn_given a b ea eb ∙ ap given h

  of_angles : InDegrees a b
  of_angles =
      let degrees = turning 360 refl a b (angle-360 a ea) (angle-360 b eb) in
      record {
        cancels = turn_given a b ea eb ∙ ap given degrees.cancels ∙ sym (ap opposite (turn_given b a eb ea));
        range = λ t e. rw (one (sym (turn_given a b ea eb) ∙ e)) at degrees.range;
        others = others stands_beside;
        half_from_0 = λ q e. halves stands_beside q ∙ ap given (half_positive 360 a (omega (arith, le_yes (pos 0) a e)));
        half_below_0 = λ q e. halves stands_beside q ∙ ap given (half_negative 360 a (omega (arith, le_no (pos 0) a e)));
      }

pub in_degrees : (a b : ℤ) → InDegrees a b
in_degrees a b = elim (seen a b) [
  | angles ea eb ↦ of_angles a b ea eb
  | no_angle p q r ↦
      record {
        cancels = p ∙ sym (ap opposite q);
        range = λ t e. no_value (sym p ∙ e);
        others = λ n. p ∙ sym r;
        half_from_0 = λ q e. no_value (sym r ∙ q);
        half_below_0 = λ q e. no_value (sym r ∙ q);
      }
]
