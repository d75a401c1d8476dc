-- N from 1 to 256: the test, and the refusal of an N out of range.
use Prim.Native.Nat.{ℕ, ◌≤◌, ◌<◌}
use native.Mathlib.Omega.{arith}
use mathlib.Core.Bool.{Bool, true, false, not, ◌&&◌}
use mathlib.Core.Logic.{◌⊎◌, inl, inr}
use mathlib.Core.Path.{◌≡◌, sym, ◌∙◌}
use lib.Dec.{leb}
use Rattle.sets.proofs.Tests.{passed, passes, fails, not-false, leb-says, Says, pass, fail}
use Rattle.sets.specs.Sets.{in_range, size_refusal}

pub range_says : (N : ℕ) → Says ((1 ≤ N) × (N ≤ 256)) ((N ≡ 0) ⊎ (256 < N)) (in_range N)
unfolding in_range
range_says N = go (leb-says 1 N) (leb-says N 256)
  where
    go : {a b : Bool} → Says (1 ≤ N) (N < 1) a → Says (N ≤ 256) (256 < N) b → Says ((1 ≤ N) × (N ≤ 256)) ((N ≡ 0) ⊎ (256 < N)) (a && b)
    go (pass h) (pass k) = pass (h, k)
    go (pass h) (fail k) = fail (inr k)
    go (fail h) k = fail (inl (omega arith))

pub in-range : (N : ℕ) → 1 ≤ N → N ≤ 256 → in_range N ≡ true
in-range N h k = passes (range_says N) (λ w. elim w [ inl e ↦ omega arith | inr l ↦ omega arith ])

pub out_of_range : (N : ℕ) → (N ≡ 0) ⊎ (256 < N) → in_range N ≡ false
out_of_range N w = fails (range_says N) (λ h. elim w [ inl e ↦ omega arith | inr l ↦ omega arith ])

-- the two comparisons of the code
pub range_low : (N : ℕ) → N < 1 → false ≡ in_range N
range_low N h = sym (out_of_range N (inl (omega arith)))

pub range_high : (N : ℕ) → 1 ≤ N → leb N 256 ≡ in_range N
unfolding in_range
range_high N h = rw (passes (leb-says 1 N) (λ l. omega arith))

-- what the test passed says
pub range_high_by : (N : ℕ) (r : Bool) → r ≡ in_range N → not r ≡ false → N ≤ 256
range_high_by N r e h = (passed (range_says N) (sym e ∙ not-false r h)).1

module _ (N : ℕ) (b : Bool) (e : b ≡ in_range N) where
  pub size_taken : b ≡ true → 0 ≡ size_refusal N
  unfolding size_refusal
  size_taken h = rw (sym e ∙ h)

  pub size_refused : b ≡ false → 2 ≡ size_refusal N
  unfolding size_refusal
  size_refused h = rw (sym e ∙ h)
