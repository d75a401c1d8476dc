-- The least, any, all and sums: what they say of the numbers below the bound, and one number more.
use Prim.Native.Nat.{ℕ, zero, suc, ◌+◌, ◌*◌, ◌≤◌, ◌<◌}
use native.Mathlib.Nat.{eq-or-lt_of_le, add-suc, add-zero}
use native.Mathlib.Numerals.{add-one}
use native.Mathlib.Omega.{arith}
use mathlib.Core.Path.{◌≡◌, refl, sym, ap, ap₂, ◌∙◌}
use mathlib.Core.Logic.{inl, inr}
use mathlib.Core.Bool.{Bool, true, false, not, ◌&&◌, ◌||◌}
use Rattle.std.specs.Prelude.{Option, None, Some}
use Rattle.sets.specs.Search.{or_else, least, found, any, all, sum}
use Rattle.sets.proofs.Tests.{Says, pass, fail, passes, fails, clash, not-true, not-false, lt_or_ge}

-- ---- the least
pub data Least (n : ℕ) (p : ℕ → Bool) : Option ℕ → Type 0 where
  here : (i : ℕ) → i < n → p i ≡ true → ((j : ℕ) → j < i → p j ≡ false) → Least n p (Some i)
  nowhere : ((j : ℕ) → j < n → p j ≡ false) → Least n p None

below_suc : (p : ℕ → Bool) (n : ℕ) → ((j : ℕ) → j < n → p j ≡ false) → p n ≡ false → (j : ℕ) → j < suc n → p j ≡ false
below_suc p n h e j lt = elim (eq-or-lt_of_le lt) [ inl q ↦ let r : j ≡ n = omega arith in rw r e | inr l ↦ h j (omega arith) ]

pub least-is : (n : ℕ) (p : ℕ → Bool) → Least n p (least n p)
unfolding least or_else
least-is zero p = nowhere (λ j lt. absurd (omega arith))
least-is (suc n) p = go (least n p) (least-is n p) (p n) refl
  where
    go : (o : Option ℕ) → Least n p o → (b : Bool) → p n ≡ b → Least (suc n) p (or_else o b n)
    go o (here i lt e h) b q = here i (omega arith) e h
    go o (nowhere h) true q = here n (omega arith) q h
    go o (nowhere h) false q = nowhere (below_suc p n h q)

-- there is one least
pub least-only : (n : ℕ) (p : ℕ → Bool) (o o' : Option ℕ) → Least n p o → Least n p o' → o ≡ o'
least-only n p o o' (here i l e h) (here j m f k) = elim (lt_or_ge i j) [
  | inl a ↦ absurd (clash e (k i a))
  | inr a ↦ elim (lt_or_ge j i) [ inl b ↦ absurd (clash f (h j b)) | inr b ↦ let q : i ≡ j = omega arith in ap Some q ]
]
least-only n p o o' (here i l e h) (nowhere k) = absurd (clash e (k i l))
least-only n p o o' (nowhere h) (here j m f k) = absurd (clash f (h j m))
least-only n p o o' (nowhere h) (nowhere k) = refl

pub least-of : (n : ℕ) (p : ℕ → Bool) {o : Option ℕ} → Least n p o → o ≡ least n p
least-of n p w = least-only n p _ _ w (least-is n p)

-- a loop that looks for the least
pub least-none : (p : ℕ → Bool) → least 0 p ≡ None
unfolding least
least-none p = refl

pub least_more : (n : ℕ) (p : ℕ → Bool) → least n p ≡ None → p n ≡ false → least (n + 1) p ≡ None
unfolding least or_else
least_more n p h e = rw (add-one, h, e)

pub least-here : (n : ℕ) (p : ℕ → Bool) (i : ℕ) → i < n → least i p ≡ None → p i ≡ true → least n p ≡ Some i
least-here n p i l h e = sym (least-of n p (here i l e (go (least i p) (least-is i p) h)))
  where
    go : (o : Option ℕ) → Least i p o → o ≡ None → (j : ℕ) → j < i → p j ≡ false
    go o (here j m f k) z = let q : ◌≡◌ {A = ℕ} 0 1 = cc in absurd (omega arith)
    go o (nowhere k) z = k

-- ---- any and all
pub any-says : (n : ℕ) (p : ℕ → Bool) → Says ((i : ℕ) × (i < n) × (p i ≡ true)) ((i : ℕ) → i < n → p i ≡ false) (any n p)
unfolding any found
any-says n p = go (least n p) (least-is n p)
  where
    go : (o : Option ℕ) → Least n p o → Says ((i : ℕ) × (i < n) × (p i ≡ true)) ((i : ℕ) → i < n → p i ≡ false) (found o)
    go o (here i lt e h) = pass (i, lt, e)
    go o (nowhere h) = fail h

pub all-says : (n : ℕ) (p : ℕ → Bool) → Says ((i : ℕ) → i < n → p i ≡ true) ((i : ℕ) × (i < n) × (p i ≡ false)) (all n p)
unfolding all
all-says n p = go (any n (λ i. not (p i))) (any-says n (λ i. not (p i)))
  where
    go : (b : Bool) → Says ((i : ℕ) × (i < n) × (not (p i) ≡ true)) ((i : ℕ) → i < n → not (p i) ≡ false) b
        → Says ((i : ℕ) → i < n → p i ≡ true) ((i : ℕ) × (i < n) × (p i ≡ false)) (not b)
    go b (pass w) = fail (w.0, w.1, not-true (p w.0) w.2)
    go b (fail h) = pass (λ i lt. not-false (p i) (h i lt))

found-or : (n : ℕ) (o : Option ℕ) (b : Bool) → found (or_else o b n) ≡ (found o || b)
unfolding found or_else
found-or n (Some i) b = refl
found-or n None true = refl
found-or n None false = refl

pub any-suc : (n : ℕ) (p : ℕ → Bool) → any (suc n) p ≡ (any n p || p n)
unfolding any least
any-suc n p = found-or n (least n p) (p n)

not-or : (a b : Bool) → not (a || b) ≡ (not a && not b)
not-or true b = refl
not-or false b = refl

not-not : (b : Bool) → not (not b) ≡ b
not-not true = refl
not-not false = refl

pub all-suc : (n : ℕ) (p : ℕ → Bool) → all (suc n) p ≡ (all n p && p n)
unfolding all
all-suc n p = rw (any-suc n (λ i. not (p i)), not-or, not-not)

pub all_none : (p : ℕ → Bool) → all 0 p ≡ true
unfolding all any least found
all_none p = refl

pub all-stop : (n : ℕ) (p : ℕ → Bool) (i : ℕ) → i < n → p i ≡ false → all n p ≡ false
all-stop n p i l e = fails (all-says n p) (λ h. clash (h i l) e)

pub all_true : {n : ℕ} {p : ℕ → Bool} → ((i : ℕ) → i < n → p i ≡ true) → all n p ≡ true
all_true {n} {p} h = passes (all-says n p) (λ w. clash (h w.0 w.1) w.2)

pub any-ext : (n : ℕ) (p q : ℕ → Bool) → ((i : ℕ) → i < n → p i ≡ q i) → any n p ≡ any n q
unfolding any least found
any-ext zero p q h = refl
any-ext (suc n) p q h = any-suc n p ∙ ap₂ ◌||◌ (any-ext n p q (λ i l. h i (omega arith))) (h n (omega arith)) ∙ sym (any-suc n q)

pub all-ext : (n : ℕ) {p q : ℕ → Bool} → ((i : ℕ) → i < n → p i ≡ q i) → all n p ≡ all n q
all-ext zero {p} {q} h = all_none p ∙ sym (all_none q)
all-ext (suc n) {p} {q} h = all-suc n p ∙ ap₂ ◌&&◌ (all-ext n {p = p} {q = q} (λ i l. h i (omega arith))) (h n (omega arith)) ∙ sym (all-suc n q)

-- ---- sums
pub sum-ext : (n : ℕ) (h k : ℕ → ℕ) → ((i : ℕ) → i < n → h i ≡ k i) → sum n h ≡ sum n k
unfolding sum
sum-ext zero h k e = refl
sum-ext (suc n) h k e = ap₂ ◌+◌ (e n (omega arith)) (sum-ext n h k (λ i l. e i (omega arith)))

pub sum_first : (n : ℕ) (h : ℕ → ℕ) → sum (suc n) h ≡ h 0 + sum n (λ i. h (suc i))
unfolding sum
sum_first zero h = refl
sum_first (suc n) h = rw (sum_first n h) (omega arith)

pub sum-add : (a b : ℕ) (h : ℕ → ℕ) → sum (a + b) h ≡ sum a h + sum b (λ i. h (a + i))
unfolding sum
sum-add a zero h = rw add-zero (omega arith)
sum-add a (suc b) h = rw (add-suc a b, sum-add a b h) (omega arith)

pub sum-le : (n : ℕ) (h k : ℕ → ℕ) → ((i : ℕ) → i < n → h i ≤ k i) → sum n h ≤ sum n k
unfolding sum
sum-le zero h k e = omega arith
sum-le (suc n) h k e = omega (arith, e n (omega arith), sum-le n h k (λ i l. e i (omega arith)))

pub sum_lt : (n : ℕ) (h k : ℕ → ℕ) → ((i : ℕ) → i < n → h i ≤ k i) → (i : ℕ) → i < n → h i < k i → sum n h < sum n k
unfolding sum
sum_lt zero h k e i lt d = absurd (omega arith)
sum_lt (suc n) h k e i lt d =
    elim (eq-or-lt_of_le lt) [
      | inl q ↦ let r : i ≡ n = omega arith in
          omega (arith, rw r at d, sum-le n h k (λ j l. e j (omega arith)))
      | inr l ↦ omega (arith, e n (omega arith), sum_lt n h k (λ j l'. e j (omega arith)) i (omega arith) d)
    ]

pub sum-max : (n c : ℕ) (h : ℕ → ℕ) → ((i : ℕ) → i < n → h i ≤ c) → sum n h ≤ n * c
unfolding sum
sum-max zero c h e = omega arith
sum-max (suc n) c h e = omega (arith, e n (omega arith), sum-max n c h (λ i l. e i (omega arith)))
