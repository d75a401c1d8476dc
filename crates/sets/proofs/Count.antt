-- The number of members: it grows with the set, strictly for a proper subset.
use Prim.Native.Nat.{ℕ, ◌≤◌, ◌<◌}
use native.Mathlib.Omega.{arith}
use mathlib.Core.Path.{◌≡◌, refl}
use mathlib.Core.Bool.{Bool, true, false, false≢true}
use Rattle.sets.specs.Sets.{Set, digit, member, empty, count}
use Rattle.sets.proofs.Members.{member-empty}
use Rattle.sets.proofs.Search.{sum-le, sum_lt, sum-max}
use Rattle.sets.proofs.Tests.{clash}
use Rattle.sets.proofs.Within.{Within, Beyond}

digit-le : (a b : Bool) → (a ≡ true → b ≡ true) → digit a ≤ digit b
digit-le true true h = omega arith
digit-le true false h = absurd (false≢true (h refl))
digit-le false b h = omega arith

digit-less : (a b : Bool) → a ≡ false → b ≡ true → digit a < digit b
digit-less a b p q = rw (p, q) (omega arith)

digit-one : (a : Bool) → digit a ≤ 1
digit-one true = omega arith
digit-one false = omega arith

digit-none : (a : Bool) → (a ≡ true → ⊥) → digit a ≤ 0
digit-none true h = absurd (h refl)
digit-none false h = omega arith

module _ (N : ℕ) where
  pub count-le : {x y : Set} → Within N x y → count N x ≤ count N y
  unfolding count
  count-le {x} {y} h = sum-le N _ _ (λ s l. digit-le (member x s) (member y s) (h.at s l))

  pub count-lt : {x y : Set} → Within N x y → Beyond N y x → count N x < count N y
  unfolding count
  count-lt {x} {y} h w =
      sum_lt N _ _ (λ s l. digit-le (member x s) (member y s) (h.at s l)) w.who w.below
      (digit-less (member x w.who) (member y w.who) w.not w.is)

  pub count-max : (x : Set) → count N x ≤ N
  unfolding count
  count-max x = omega (arith, sum-max N 1 (λ s. digit (member x s)) (λ s l. digit-one (member x s)))

  pub count_none : (x : Set) → Within N x empty → count N x ≤ 0
  unfolding count
  count_none x h = omega (arith, sum-max N 0 (λ s. digit (member x s)) (λ s l. digit-none (member x s) (λ e. clash (h.at s l e) (member-empty s))))
