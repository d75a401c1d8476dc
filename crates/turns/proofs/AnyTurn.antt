-- The turn for any even full turn T. One relation says which number is the turn (`IsTurn`): between two angles there is one and no other,
-- and its opposite is the turn back.
use Prim.Native.Nat.{ℕ, zero, suc, ◌+◌, ◌/◌, ◌%◌, ◌≤◌, ◌<◌}
use native.Mathlib.Omega.{arith}
use mathlib.Core.Bool.{Bool, true, false}
use mathlib.Core.Logic.{◌⊎◌, inl, inr}
use mathlib.Core.Path.{◌≡◌, refl, sym, ap, subst, ◌∙◌}
use mathlib.Mathlib.Data.Bool.Basic.{eq-false_of_not-eq-true}
use borrow.Author.Tests.{lt-ltb, ltb-true, ltb-false}
use lib.Dec.{ltb}
use lib.IntN.{ℤ, pos, negsuc, neg_ℤ, nat_abs, neg_ℤ-neg_ℤ, ◌+ℤ◌, ◌-ℤ◌}
use Rattle.turns.specs.Turn.{candidates, is_short, half_turn, between}
use Rattle.turns.specs.Cancels.{Angle, Candidate, AnyTurn}
use Rattle.turns.proofs.Ints.{plus, minus, add_is, sub_is, plus-neg, minus-neg, same_int, le_yes, le_no, lt_yes}
use Rattle.turns.proofs.Ints.{Inside, abs_inside, inside_abs, Bounds}
use Rattle.turns.proofs.Picks.{only_one, picks-none}

-- ---- tests and bounds, in naturals
-- less than a half turn
short_yes : (T : ℕ) (z : ℤ) → is_short T z ≡ true → Inside (T / 2) z
unfolding is_short
short_yes T z e = abs_inside (T / 2) z (omega (arith, ltb-true))

pub yes_short : (T : ℕ) (z : ℤ) → Inside (T / 2) z → is_short T z ≡ true
unfolding is_short
yes_short T z h = omega (arith, lt-ltb, inside_abs (T / 2) z h)

pub not_short : (T : ℕ) (z : ℤ) → (Inside (T / 2) z → ⊥) → is_short T z ≡ false
not_short T z far = eq-false_of_not-eq-true {b = is_short T z} (λ e. far (short_yes T z e))

-- an angle
bounds : (T : ℕ) (z : ℤ) → Angle T z → Bounds T z
bounds T z h =
    let p = plus-neg (pos (T / 2)) in
    let m = minus-neg (pos (T / 2)) in
    omega (arith, le_yes (neg_ℤ (pos (T / 2))) z h.low, lt_yes z (pos (T / 2)) h.high)

-- the half turn, by the sign of a
pub half_positive : (T : ℕ) (a : ℤ) → minus a ≤ plus a → half_turn T a ≡ pos (T / 2)
unfolding half_turn
half_positive T (pos n) h = refl
half_positive T (negsuc n) h = absurd (omega arith)

pub half_negative : (T : ℕ) (a : ℤ) → plus a < minus a → half_turn T a ≡ neg_ℤ (pos (T / 2))
unfolding half_turn
half_negative T (pos n) h = absurd (omega arith)
half_negative T (negsuc n) h = refl

half_size : (T : ℕ) (a : ℤ) → nat_abs (half_turn T a) ≡ T / 2
unfolding half_turn
half_size T (pos n) = refl
half_size T (negsuc n) = go (T / 2)
  where
    go : (n : ℕ) → nat_abs (neg_ℤ (pos n)) ≡ n
    go zero = refl
    go (suc n) = refl

-- ---- where a difference lies
-- it is T/2 or -T/2
abbrev pub Half : ℕ → ℤ → Type 0
Half T d = (plus d ≡ minus d + T / 2) ⊎ (minus d ≡ plus d + T / 2)

data Lies (T : ℕ) (d : ℤ) : Type 0 where
  inside : Inside (T / 2) d → Lies T d
  halfway : Half T d → Lies T d
  above : minus d + T / 2 < plus d → Lies T d
  below : plus d + T / 2 < minus d → Lies T d

three-way : (m n : ℕ) → (m < n) ⊎ ((m ≡ n) ⊎ (n < m))
three-way m n = go (ltb m n) (ltb n m) refl refl
  where
    go : (p q : Bool) → ltb m n ≡ p → ltb n m ≡ q → (m < n) ⊎ ((m ≡ n) ⊎ (n < m))
    go true q e f = inl (ltb-true m n e)
    go false true e f = inr (inr (ltb-true n m f))
    go false false e f = inr (inl (omega (arith, ltb-false m n e, ltb-false n m f)))

lies : (T : ℕ) (d : ℤ) → Lies T d
lies T (pos n) = elim (three-way n (T / 2)) [
  | inl h ↦ inside (omega arith)
  | inr (inl h) ↦ halfway (inl (omega arith))
  | inr (inr h) ↦ above (omega arith)
]
lies T (negsuc n) = elim (three-way (suc n) (T / 2)) [
  | inl h ↦ inside (omega arith)
  | inr (inl h) ↦ halfway (inr (omega arith))
  | inr (inr h) ↦ below (omega arith)
]

-- ---- which number is the turn
-- a candidate that is less than a half turn; or, where b lies half a turn from a, the half turn from a
pub data IsTurn (T : ℕ) (a b t : ℤ) : Type 0 where
  short : Inside (T / 2) t → Candidate T a b t → IsTurn T a b t
  half : Half T (b -ℤ a) → t ≡ half_turn T a → IsTurn T a b t

module _ (T : ℕ) (even : T % 2 ≡ 0) where
  module _ (a b : ℤ) where
    abbrev d : ℤ
    d = b -ℤ a

    abbrev more : ℤ
    more = d +ℤ pos T

    abbrev less : ℤ
    less = d -ℤ pos T

    -- T more and T less, in naturals
    record Apart : Type 0 where
      up : plus more + minus d ≡ minus more + (plus d + T)
      down : plus less + (minus d + T) ≡ minus less + plus d

    apart : Apart
    apart = omega (arith, add_is d (pos T), sub_is d (pos T))

    -- where b lies half a turn from a no candidate is less than a half turn
    none_short : (Inside (T / 2) d → ⊥) → (Inside (T / 2) more → ⊥) → (Inside (T / 2) less → ⊥) → half_turn T a ≡ between T a b
    none_short e f g = picks-none T a b (not_short T d e) (not_short T more f) (not_short T less g)

    none : Half T d → half_turn T a ≡ between T a b
    none (inl h) = let p = apart in none_short (λ i. omega arith) (λ i. omega arith) (λ i. omega arith)
    none (inr h) = let p = apart in none_short (λ i. omega arith) (λ i. omega arith) (λ i. omega arith)

    -- there is no other
    pub only : (t : ℤ) → IsTurn T a b t → t ≡ between T a b
    unfolding between candidates
    only t (short i c) =
        let p = apart in
        only_one (is_short T) d more less (half_turn T a) t
        (λ f g. omega (arith, short_yes T d f, short_yes T more g))
        (λ f g. omega (arith, short_yes T d f, short_yes T less g))
        (λ f g. omega (arith, short_yes T more f, short_yes T less g))
        (yes_short T t i) c
    only t (half h e) = e ∙ none h

    -- between two angles there is one
    pub is_turn : Bounds T a → Bounds T b → IsTurn T a b (between T a b)
    is_turn la lb = go (lies T d)
      where
        found : (t : ℤ) → IsTurn T a b t → IsTurn T a b (between T a b)
        found t i = subst (IsTurn T a b) (only t i) i

        go : Lies T d → IsTurn T a b (between T a b)
        go (inside i) = found d (short i (inl refl))
        go (halfway h) = found (half_turn T a) (half h refl)
        go (above h) = found less (short (omega (arith, apart, sub_is b a)) (inr (inr refl)))
        go (below h) = found more (short (omega (arith, apart, sub_is b a)) (inr (inl refl)))

    -- where b is half a turn more than a, a is negative and b is not
    record Crosses : Type 0 where
      starts : plus a < minus a
      ends : minus b ≤ plus b

    crosses : Bounds T a → Bounds T b → plus d ≡ minus d + T / 2 → Crosses
    crosses la lb h = omega (arith, sub_is b a)

  -- half a turn, seen from its other end
  turned : (a b : ℤ) → Half T (b -ℤ a) → Half T (a -ℤ b)
  turned a b (inl h) = inr (omega (arith, sub_is b a, sub_is a b))
  turned a b (inr h) = inl (omega (arith, sub_is b a, sub_is a b))

  -- the half turns from both ends are opposite
  half_back : (a b : ℤ) → Bounds T a → Bounds T b → Half T (b -ℤ a) → neg_ℤ (half_turn T a) ≡ half_turn T b
  half_back a b la lb (inl h) =
      let c = crosses a b la lb h in
      rw (half_negative T a c.starts, half_positive T b c.ends) (neg_ℤ-neg_ℤ (pos (T / 2)))
  half_back a b la lb (inr h) =
      let c = crosses b a lb la (omega (arith, sub_is b a, sub_is a b)) in
      rw (half_positive T a c.ends, half_negative T b c.starts)

  -- and so are the candidates
  candidate_back : (a b t : ℤ) → Candidate T a b t → Candidate T b a (neg_ℤ t)
  candidate_back a b t (inl h) =
      inl (same_int (neg_ℤ t) (a -ℤ b) (omega (arith, plus-neg t, minus-neg t, ap plus h, ap minus h, sub_is b a, sub_is a b)))
  candidate_back a b t (inr (inl h)) =
      let there = apart a b in
      let return = apart b a in
      inr (inr (same_int (neg_ℤ t) _ (omega (arith, plus-neg t, minus-neg t, ap plus h, ap minus h, sub_is b a, sub_is a b))))
  candidate_back a b t (inr (inr h)) =
      let there = apart a b in
      let return = apart b a in
      inr (inl (same_int (neg_ℤ t) _ (omega (arith, plus-neg t, minus-neg t, ap plus h, ap minus h, sub_is b a, sub_is a b))))

  -- the opposite of a turn is the turn back
  back : (a b t : ℤ) → Bounds T a → Bounds T b → IsTurn T a b t → IsTurn T b a (neg_ℤ t)
  back a b t la lb (short i c) = short (omega (arith, plus-neg t, minus-neg t)) (candidate_back a b t c)
  back a b t la lb (half h e) = half (turned a b h) (rw e (half_back a b la lb h))

  -- the half turn is a candidate: from a negative angle a full turn less than b - a, from another a full turn more
  half_leads : (a b : ℤ) → Bounds T a → Bounds T b → Half T (b -ℤ a) → Candidate T a b (half_turn T a)
  half_leads a b la lb (inl h) =
      let c = crosses a b la lb h in
      let H = pos (T / 2) in
      inr (inr (half_negative T a c.starts ∙ same_int (neg_ℤ H) (less a b) (omega (arith, plus-neg H, minus-neg H, apart a b))))
  half_leads a b la lb (inr h) =
      let c = crosses b a lb la (omega (arith, sub_is b a, sub_is a b)) in
      inr (inl (half_positive T a c.ends ∙ same_int (pos (T / 2)) (more a b) (omega (arith, apart a b))))

  -- its size
  size : (a b t : ℤ) → IsTurn T a b t → nat_abs t ≤ T / 2
  size a b t (short i c) = omega (arith, inside_abs (T / 2) t i)
  size a b t (half h e) = omega (arith, ap nat_abs e, half_size T a)

  -- a turn is a candidate
  leads : (a b t : ℤ) → Bounds T a → Bounds T b → IsTurn T a b t → Candidate T a b t
  leads a b t la lb (short i c) = c
  leads a b t la lb (half h e) = rw e (half_leads a b la lb h)

  -- a turn of half a turn is the half turn from a
  half_is : (a b t : ℤ) → IsTurn T a b t → nat_abs t ≡ T / 2 → t ≡ half_turn T a
  half_is a b t (short i c) q = absurd (omega (arith, inside_abs (T / 2) t i))
  half_is a b t (half h e) q = e

pub turning : AnyTurn
turning T even a b A B =
    let la = bounds T a A in
    let lb = bounds T b B in
    let there = is_turn T even a b la lb in
    record {
      cancels = sym (only T even a b _ (back T even b a (between T b a) lb la (is_turn T even b a lb la)));
      range = size T even a b (between T a b) there;
      leads = leads T even a b (between T a b) la lb there;
      half_from_0 = λ q e. half_is T even a b (between T a b) there q ∙ half_positive T a (omega (arith, le_yes (pos 0) a e));
      half_below_0 = λ q e. half_is T even a b (between T a b) there q ∙ half_negative T a (omega (arith, le_no (pos 0) a e));
    }
