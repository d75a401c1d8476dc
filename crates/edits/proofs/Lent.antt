-- The refusals after the first four tests; what no refusal says of both tables.
use Prim.Native.Nat.{ℕ, ◌≤◌}
use native.Mathlib.Omega.{arith}
use mathlib.Core.Bool.{Bool, true, false, not, beq}
use mathlib.Core.List.{List, [], ◌∷◌, ◌++◌}
use mathlib.Core.Path.{◌≡◌, refl}
use borrow.Author.Tests.{eqb-true}
use lib.ListN.{length}
use Rattle.answers.proofs.Order.{none_failing, numbers_in, passed-before}
use Rattle.answers.specs.Refusals.{Test, first_failing, one_of}
use Rattle.sets.proofs.Range.{range_says}
use Rattle.sets.proofs.Tests.{passed}
use Rattle.sets.specs.Sets.{Set, member, in_range}
use Rattle.rules.specs.Second.{alike}
use Rattle.rules.specs.Table.{row, leads, sound_rows}
use Rattle.edits.specs.Promises.{lent_tests}

-- the four passed, and m is what the rest answers
pub past-lent : (N : ℕ) (rows second : List ℕ) (us : List Test) (m : ℕ) → 0 ≡ first_failing (lent_tests N rows second) → m ≡ first_failing us
    → m ≡ first_failing (lent_tests N rows second ++ us)
unfolding lent_tests numbers_in one_of
past-lent N rows second us m e q = passed-before (7 ∷ 2 ∷ 13 ∷ []) (lent_tests N rows second) us 0 m refl refl e refl q

-- what they say where they passed
pub record Fine (N : ℕ) (rows second : List ℕ) : Type 0 where
  pub rows_long : length rows ≡ 1024
  pub second_long : length second ≡ 1024
  pub range : in_range N ≡ true
  pub big : N ≤ 256
  pub sound : sound_rows N rows ≡ true

-- a refusal of tests that begin with the four
pub fine : (N : ℕ) (rows second : List ℕ) (us : List Test) → first_failing (lent_tests N rows second ++ us) ≡ 0
    → Fine N rows second × (first_failing us ≡ 0)
unfolding lent_tests
fine N rows second us e =
    let (first, after-7) = none_failing _ _ _ (λ q. omega arith) e in
    let (other, after-7') = none_failing _ _ _ (λ q. omega arith) after-7 in
    let (range, after-2) = none_failing _ _ _ (λ q. omega arith) after-7' in
    let (sound, after-13) = none_failing _ _ _ (λ q. omega arith) after-2 in
    (record { rows_long = eqb-true _ _ first; second_long = eqb-true _ _ other; range = range; big = (passed (range_says N) range).1; sound = sound }, after-13)

fine_lent : (N : ℕ) (rows second : List ℕ) → first_failing (lent_tests N rows second) ≡ 0 → Fine N rows second
unfolding lent_tests
fine_lent N rows second e = (fine N rows second [] e).0

-- .. fact by fact
pub lent-big : (N : ℕ) (rows second : List ℕ) → first_failing (lent_tests N rows second) ≡ 0 → N ≤ 256
lent-big N rows second e = (fine_lent N rows second e).big

pub lent-sound : (N : ℕ) (rows second : List ℕ) → first_failing (lent_tests N rows second) ≡ 0 → sound_rows N rows ≡ true
lent-sound N rows second e = (fine_lent N rows second e).sound

pub lent-long : (N : ℕ) (rows second : List ℕ) → first_failing (lent_tests N rows second) ≡ 0 → length second ≡ 1024
lent-long N rows second e = (fine_lent N rows second e).second_long

-- ---- 15: is is what the code's look at row s answers
not-beq : (a there : Bool) → not (beq a there) ≡ alike a (not there)
unfolding alike
not-beq true true = refl
not-beq true false = refl
not-beq false true = refl
not-beq false false = refl

pub differs_is : (rows : List ℕ) (s t : ℕ) (there is : Bool) (x : Set) → x ≡ row rows s → is ≡ member x t
    → not (beq is there) ≡ alike (leads rows s t) (not there)
unfolding leads
differs_is rows s t there is x e f = rw (f, e) (not-beq (member (row rows s) t) there)
