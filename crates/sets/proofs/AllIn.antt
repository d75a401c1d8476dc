-- What `all` answers over a range of numbers, in the words of the definitions.
--
-- t is what the code tests of each number from `from` up to m, p what the definition asks of every number below m.
use Prim.Native.Nat.{ℕ, suc, zero, ◌+◌, ◌-◌, ◌≤◌, ◌<◌}
use native.Mathlib.Nat.{eq-or-lt_of_le}
use native.Mathlib.Omega.{arith}
use mathlib.Core.Bool.{Bool, true, false}
use mathlib.Core.Logic.{inl, inr}
use mathlib.Core.Path.{◌≡◌, refl, sym, ◌∙◌}
use denote.Param.Members.{Mut}
use Rattle.std.specs.Prelude.{List, Option}
use Rattle.std.specs.declared.ops.Range.{Range}
use Rattle.std.specs.Fn.{Called}
use Rattle.std.specs.Iterator.{YieldsThen}
use Rattle.std.specs.List.{FoldsTo, list_all, range_with_len}
use Rattle.std.specs.Option.{MatchOption}
use Rattle.std.proofs.iter.Yields.{nat_range_steps}
use Rattle.std.proofs.lemmas.Iterator.{YieldsList-from_range}
use Rattle.std.proofs.lemmas.Iterator.Search.{all_from_yields_List}
use Rattle.sets.proofs.Search.{all_true, all-stop}
use Rattle.sets.proofs.Tests.{which}
use Rattle.sets.specs.Search.{all}

module _ (t p : ℕ → Bool) (m : ℕ) where
  over_list : (from d : ℕ) → m - from ≡ d → ((i : ℕ) → i < from → p i ≡ true) → ((i : ℕ) → from ≤ i → i < m → t i ≡ p i)
      → list_all t (range_with_len from d) ≡ all m p
  over_list from zero e low same = sym (all_true (λ i l. low i (omega arith)))
  over_list from (suc d) e low same =
      elim (which (p from)) [
        | inl pass ↦
            let l : (i : ℕ) → i < from + 1 → p i ≡ true =
            λ i b. elim (eq-or-lt_of_le b) [ inl q ↦ let r : i ≡ from = omega arith in rw r pass | inr c ↦ low i (omega arith) ] in
            rw (same from (omega arith) (omega arith), pass) (over_list (from + 1) d (omega arith) l (λ i a b. same i (omega arith) b))
        | inr fail ↦ rw (same from (omega arith) (omega arith), fail) (sym (all-stop m p from (omega arith) fail))
      ]

  pub all_in : {F : Type 0} {g : Mut F (ℕ × Unit {0}) Bool} {s : Range ℕ} (from : ℕ) (u : Range ℕ) (f : F) (r : Bool) → s ≡ record { start = from; end = m }
      → (xs : List ℕ) × (o : Option ℕ) × (j : F) × YieldsThen nat_range_steps s xs o u × FoldsTo (λ p x q. Called g p (x, tt) true q) f xs j
      × MatchOption o (r ≡ true) (λ x. (r ≡ false) × ((h : F) × Called g j (x, tt) false h))
      → ((x : ℕ) (b : Bool) (q : F) → Called g f (x, tt) b q → (q ≡ f) × (b ≡ t x))
      → ((i : ℕ) → i < from → p i ≡ true) → ((i : ℕ) → from ≤ i → i < m → t i ≡ p i) → r ≡ all m p
  all_in from u f r e ran calls low same =
      all_from_yields_List t u f r ran (YieldsList-from_range from m _ e refl) calls ∙ over_list from (m - from) refl low same

-- .. where the code tests what is asked, from 0 on
module _ {p : ℕ → Bool} {m : ℕ} where
  pub all_below : {F : Type 0} {g : Mut F (ℕ × Unit {0}) Bool} {s : Range ℕ} (u : Range ℕ) (f : F) (r : Bool) → s ≡ record { start = 0; end = m }
      → (xs : List ℕ) × (o : Option ℕ) × (j : F) × YieldsThen nat_range_steps s xs o u × FoldsTo (λ p x q. Called g p (x, tt) true q) f xs j
      × MatchOption o (r ≡ true) (λ x. (r ≡ false) × ((h : F) × Called g j (x, tt) false h))
      → ((x : ℕ) (b : Bool) (q : F) → Called g f (x, tt) b q → (q ≡ f) × (b ≡ p x)) → r ≡ all m p
  all_below u f r e ran calls = all_in p p m 0 u f r e ran calls (λ i l. absurd (omega arith)) (λ i a l. refl)
