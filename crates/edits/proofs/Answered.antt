-- What the public calls answer, from what their parts answered.
use Prim.Native.Nat.{ℕ, ◌≤◌, ◌<◌}
use native.Mathlib.Omega.{arith}
use mathlib.Core.Bool.{Bool}
use mathlib.Core.List.{List}
use mathlib.Core.Path.{◌≡◌, sym, ap, ◌∙◌}
use borrow.Author.Tests.{eq-eqb, ne_eqb, ltb-true}
use Rattle.answers.proofs.Order.{none_failing}
use Rattle.answers.proofs.Said.{some_number}
use Rattle.answers.specs.Refusals.{first_failing}
use Rattle.answers.specs.Said.{number_of}
use Rattle.answers.specs.declared.Refusal.{Refusal}
use Rattle.sets.proofs.Members.{set-ext}
use Rattle.sets.specs.Sets.{Set, Proper, member}
use Rattle.rules.proofs.Second.{agreed_at, second_g}
use Rattle.rules.specs.Second.{into, second_of, backward_by_second}
use Rattle.rules.specs.Table.{row, leads, with_move, backward}
use Rattle.edits.specs.Promises.{lent_tests, into_refusal, edit_refusal, g_refusal, SecondPromise, EditPromise}
use Rattle.edits.proofs.Lent.{fine}

-- ---- the second table made
module _ (N : ℕ) (rows second second' : List ℕ) where
  pub second_refused : (r : Refusal) → number_of r ≡ first_failing (lent_tests N rows second) → second' ≡ second
      → SecondPromise N rows second second' (number_of r)
  second_refused r e q =
      record { answer = e; second_is = q ∙ rw (ne_eqb (first_failing (lent_tests N rows second)) 0 (λ z. some_number r (e ∙ z))) }

  pub second_made : 0 ≡ first_failing (lent_tests N rows second) → (made : List ℕ) → made ≡ second_of rows → second' ≡ made
      → SecondPromise N rows second second' 0
  second_made e made m q = record { answer = e; second_is = q ∙ m ∙ rw (eq-eqb (first_failing (lent_tests N rows second)) 0 (sym e)) }

-- ---- the states with a move to t: row t of the second table; k is t
pub into-set : (N : ℕ) (rows second : List ℕ) (t : ℕ) → 0 ≡ into_refusal N rows second t → (k : ℕ) → k ≡ t → (x : Set) → x ≡ row second k
    → Proper 256 x → x ≡ into rows t
unfolding into_refusal into leads
into-set N rows second t e k d x is proper =
    let (lent, after-13) = fine N rows second _ (sym e) in
    let (agrees, after-14) = none_failing _ _ _ (λ q. omega arith) after-13 in
    let (low, _) = none_failing _ _ _ (λ q. omega arith) after-14 in
    let below : t < N = ltb-true t N low in
    sym proper.is ∙ set-ext 256 (member x) (λ s. member (row rows s) t) (λ s l.
    ap (λ (y : Set). member y s) (is ∙ ap (row second) d) ∙ sym (agreed_at rows second agrees s t l (omega (arith, lent.big))))

-- ---- an edit
module _ (N : ℕ) (rows rows' second second' : List ℕ) (s t : ℕ) (there : Bool) where
  pub edit_refused : (r : Refusal) → number_of r ≡ edit_refusal N rows second s t there → rows' ≡ rows → second' ≡ second
      → EditPromise N rows rows' second second' s t there (number_of r)
  edit_refused r e p q =
      let other = ne_eqb (edit_refusal N rows second s t there) 0 (λ z. some_number r (e ∙ z)) in
      record { answer = e; rows_are = p ∙ rw other; second_is = q ∙ rw other }

  pub edit_taken : 0 ≡ edit_refusal N rows second s t there → rows' ≡ with_move rows s t there → second' ≡ with_move second t s there
      → EditPromise N rows rows' second second' s t there 0
  edit_taken e p q =
      let same = eq-eqb (edit_refusal N rows second s t there) 0 (sym e) in
      record { answer = e; rows_are = p ∙ rw same; second_is = q ∙ rw same }

-- ---- g by the second table
module _ (N : ℕ) (rows second : List ℕ) (x : Set) (e : 0 ≡ g_refusal N rows second x) where
  pub g-big : N ≤ 256
  unfolding g_refusal
  g-big = (fine N rows second _ (sym e)).0.big

  pub g_set : (r : Set) → r ≡ backward_by_second N second x → r ≡ backward N rows x
  unfolding g_refusal
  g_set r q =
      let (lent, after-13) = fine N rows second _ (sym e) in
      let (_, after-set) = none_failing _ _ _ (λ q. omega arith) after-13 in
      let (agrees, _) = none_failing _ _ _ (λ q. omega arith) after-set in
      q ∙ second_g N lent.big rows second agrees x
