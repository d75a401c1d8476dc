-- The first of three that passes a test: which it is where no two pass, and which the turn is, test by test, as the code tests.
use Prim.Native.Nat.{ℕ}
use mathlib.Core.Bool.{Bool, true, false}
use mathlib.Core.List.{[], ◌∷◌}
use mathlib.Core.Logic.{◌⊎◌, inl, inr}
use mathlib.Core.Path.{◌≡◌}
use mathlib.Mathlib.Data.Bool.Basic.{eq-false_of_not-eq-true}
use lib.IntN.{ℤ, pos, ◌+ℤ◌, ◌-ℤ◌}
use Rattle.turns.specs.Turn.{candidates, is_short, half_turn, first_that, between}

-- the one of three that passes a test, where no two do, is the first that passes
pub only_one :
    (test : ℤ → Bool) (x y z other t : ℤ) → (test x ≡ true → test y ≡ true → ⊥) → (test x ≡ true → test z ≡ true → ⊥)
    → (test y ≡ true → test z ≡ true → ⊥) → test t ≡ true → (t ≡ x) ⊎ ((t ≡ y) ⊎ (t ≡ z)) → t ≡ first_that test (x ∷ y ∷ z ∷ []) other
unfolding first_that
only_one test x y z other t xy xz yz e (inl h) = rw (rw h at e) h
only_one test x y z other t xy xz yz e (inr (inl h)) =
    let k = rw h at e in
    rw (eq-false_of_not-eq-true {b = test x} (λ f. xy f k), k) h
only_one test x y z other t xy xz yz e (inr (inr h)) =
    let k = rw h at e in
    rw (eq-false_of_not-eq-true {b = test x} (λ f. xz f k), eq-false_of_not-eq-true {b = test y} (λ f. yz f k), k) h

-- the turn
module _ (T : ℕ) (a b : ℤ) where
  pub picks_first : is_short T (b -ℤ a) ≡ true → b -ℤ a ≡ between T a b
  unfolding between candidates first_that
  picks_first e = rw e

  pub picks_second : is_short T (b -ℤ a) ≡ false → is_short T (b -ℤ a +ℤ pos T) ≡ true → b -ℤ a +ℤ pos T ≡ between T a b
  unfolding between candidates first_that
  picks_second e f = rw (e, f)

  pub picks-third :
      is_short T (b -ℤ a) ≡ false → is_short T (b -ℤ a +ℤ pos T) ≡ false → is_short T (b -ℤ a -ℤ pos T) ≡ true
      → b -ℤ a -ℤ pos T ≡ between T a b
  unfolding between candidates first_that
  picks-third e f g = rw (e, f, g)

  pub picks-none :
      is_short T (b -ℤ a) ≡ false → is_short T (b -ℤ a +ℤ pos T) ≡ false → is_short T (b -ℤ a -ℤ pos T) ≡ false
      → half_turn T a ≡ between T a b
  unfolding between candidates first_that
  picks-none e f g = rw (e, f, g)
