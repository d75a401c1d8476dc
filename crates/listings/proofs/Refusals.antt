-- The refusal of `reached`: its last test, and what none says.
use Prim.Native.Nat.{ℕ, ◌≤◌, ◌<◌}
use native.Mathlib.Omega.{arith}
use mathlib.Core.List.{List, ◌∷◌}
use mathlib.Core.Path.{◌≡◌, sym, ◌∙◌}
use lib.Dec.{leb}
use lib.IntN.{ℤ}
use lib.ListN.{length, take, length-take}
use borrow.Author.Tests.{le-leb, lt-leb, leb-true, eqb-true}
use Rattle.answers.specs.Refusals.{Test, ◌unless◌, first_failing}
use Rattle.answers.proofs.Order.{none_failing, goes_on_same}
use Rattle.listings.specs.Listing.{reached_refusal}

-- a number is too large, and it is not
module _ (n : ℕ) (ts : List Test) (a b : ℕ) where
  pub refuses_more : b < a → n ≡ first_failing (n unless leb a b ∷ ts)
  unfolding first_failing
  refuses_more h = rw (lt-leb a b h)

  pub goes_on_few : (m : ℕ) → a ≤ b → m ≡ first_failing ts → m ≡ first_failing (n unless leb a b ∷ ts)
  unfolding first_failing
  goes_on_few m h q = rw (le-leb a b h) q

-- the last refusal
pub too_many_states :
    (walk : List ℕ) (angles : List ℤ) (modes : List ℕ) (states : ℕ) → length walk ≡ 256 → length angles ≡ 256 → length modes ≡ 256 → 256 < states
    → reached_refusal walk angles modes states ≡ 2
unfolding reached_refusal
too_many_states walk angles modes states a b c h =
    sym (goes_on_same _ _ _ _ _ a (goes_on_same _ _ _ _ _ b (goes_on_same _ _ _ _ _ c (refuses_more _ _ _ _ h))))

-- no refusal: the walk holds the states that count
pub states-held :
    (walk : List ℕ) (angles : List ℤ) (modes : List ℕ) (states r : ℕ) → r ≡ reached_refusal walk angles modes states → r ≡ 0
    → states ≡ length (take states walk)
unfolding reached_refusal
states-held walk angles modes states r e z =
    let (long, after-walk) = none_failing _ _ _ (λ q. omega arith) (sym e ∙ z) in
    let (_, after-angles) = none_failing _ _ _ (λ q. omega arith) after-walk in
    let (_, after-modes) = none_failing _ _ _ (λ q. omega arith) after-angles in
    let (few, _) = none_failing _ _ _ (λ q. omega arith) after-modes in
    simp length-take (omega (arith, eqb-true (length walk) 256 long, leb-true states 256 few))
