-- The refusal of f and g: the first of them, and what none says.
use Prim.Native.Nat.{ℕ, ◌≤◌}
use native.Mathlib.Omega.{arith}
use mathlib.Core.Bool.{true}
use mathlib.Core.List.{List}
use mathlib.Core.Path.{◌≡◌, sym}
use lib.ListN.{length}
use Rattle.answers.proofs.Order.{none_failing, refuses_other}
use Rattle.moves.specs.Said.{move_refusal}
use Rattle.rules.specs.Table.{sound_rows}
use Rattle.sets.proofs.Range.{range_says}
use Rattle.sets.proofs.Tests.{passed}
use Rattle.sets.specs.Sets.{Set}

-- the first refusal
pub wrong_length : (N : ℕ) (rows : List ℕ) (x : Set) → (length rows ≡ 1024 → ⊥) → move_refusal N rows x ≡ 7
unfolding move_refusal
wrong_length N rows x h = sym (refuses_other _ _ _ _ h)

-- what no refusal says
pub record Sound (N : ℕ) (rows : List ℕ) : Type 0 where
  pub big : N ≤ 256
  pub rows_ok : sound_rows N rows ≡ true

pub not_refused : (N : ℕ) (rows : List ℕ) (x : Set) → move_refusal N rows x ≡ 0 → Sound N rows
unfolding move_refusal
not_refused N rows x e =
    let (_, after-7) = none_failing _ _ _ (λ q. omega arith) e in
    let (range, after-2) = none_failing _ _ _ (λ q. omega arith) after-7 in
    let (rows_ok, _) = none_failing _ _ _ (λ q. omega arith) after-2 in
    record { big = (passed (range_says N) range).1; rows_ok = rows_ok }
