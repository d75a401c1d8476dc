-- Tests in their order with early returns, `if !a { return 7; } if !b { return 2; } .. 0`, are `first_failing (7 unless a ∷ 2 unless b ∷ .. [])`.
--
-- r is what the code's test answers, a the test that it is. `search (refuses, goes_on, ..)` goes down the list.
use Prim.Native.Nat.{ℕ, ◌≤◌, ◌<◌}
use native.Mathlib.Omega.{arith}
use mathlib.Core.Bool.{Bool, true, false, not, ◌&&◌, cond, true≢false}
use mathlib.Core.Logic.{◌≢◌}
use mathlib.Core.List.{List, [], ◌∷◌, ◌++◌}
use mathlib.Core.Path.{◌≡◌, refl, sym, ◌∙◌}
use borrow.Author.Tests.{eq-eqb, ne_eqb, lt-ltb, le-ltb}
use lib.Dec.{eqb, ltb}
use Rattle.answers.specs.Refusals.{Test, ◌unless◌, first_failing, one_of}

yes : (b : Bool) → not b ≡ false → b ≡ true
yes true e = refl
yes false e = sym e

no : (b : Bool) → not b ≡ true → b ≡ false
no true e = sym e
no false e = refl

module _ (n : ℕ) (ts : List Test) where
  -- a test fails
  pub refuses : (a r : Bool) → r ≡ a → not r ≡ true → n ≡ first_failing (n unless a ∷ ts)
  unfolding first_failing
  refuses a r e h = rw (sym e ∙ no r h)

  -- a test passes, and m is what the rest answers
  pub goes_on : (a r : Bool) (m : ℕ) → r ≡ a → not r ≡ false → m ≡ first_failing ts → m ≡ first_failing (n unless a ∷ ts)
  unfolding first_failing
  goes_on a r m e h q = rw (sym e ∙ yes r h) q

  -- the same of two numbers that the code compares
  pub refuses_other : (a b : ℕ) → (a ≡ b → ⊥) → n ≡ first_failing (n unless eqb a b ∷ ts)
  unfolding first_failing
  refuses_other a b h = rw (ne_eqb a b h)

  pub goes_on_same : (a b m : ℕ) → a ≡ b → m ≡ first_failing ts → m ≡ first_failing (n unless eqb a b ∷ ts)
  unfolding first_failing
  goes_on_same a b m e q = rw (eq-eqb a b e) q

  -- .. and of one number below another
  pub refuses_from : (a b : ℕ) → b ≤ a → n ≡ first_failing (n unless ltb a b ∷ ts)
  unfolding first_failing
  refuses_from a b h = rw (le-ltb a b h)

  pub goes_on_below : (a b m : ℕ) → a < b → m ≡ first_failing ts → m ≡ first_failing (n unless ltb a b ∷ ts)
  unfolding first_failing
  goes_on_below a b m l q = rw (lt-ltb a b l) q

  -- no refusal: the test passes, and so do the rest
  pub none_failing : (a : Bool) → (n ≡ 0 → ⊥) → first_failing (n unless a ∷ ts) ≡ 0 → (a ≡ true) × (first_failing ts ≡ 0)
  unfolding first_failing
  none_failing true h e = (refl, e)
  none_failing false h e = absurd (h e)

-- every test passes
pub accepts : 0 ≡ first_failing []
unfolding first_failing
accepts = refl

-- every number of the tests is one of a list
unfoldable pub numbers_in : List ℕ → List Test → Bool
numbers_in ns [] = true
numbers_in ns (t ∷ ts) = one_of ns t.number && numbers_in ns ts

both : (a b : Bool) → (a && b) ≡ true → (a ≡ true) × (b ≡ true)
both true b q = (refl, q)
both false b q = let z : ◌≡◌ {A = ℕ} 0 1 = cc in absurd (omega arith)

-- a refusal is one of the numbers of its tests
pub failing_in : (ns : List ℕ) (ts : List Test) → numbers_in ns ts ≡ true → first_failing ts ≢ 0 → one_of ns (first_failing ts) ≡ true
unfolding numbers_in first_failing
failing_in ns [] e h = absurd (h refl)
failing_in ns (t ∷ ts) e h =
    let (first, rest) = both (one_of ns t.number) (numbers_in ns ts) e in
    go t.passes first (failing_in ns ts rest) h
  where
    go : (b : Bool) → one_of ns t.number ≡ true → (first_failing ts ≢ 0 → one_of ns (first_failing ts) ≡ true) → cond b (first_failing ts) t.number ≢ 0
        → one_of ns (cond b (first_failing ts) t.number) ≡ true
    go true first rest h = rest h
    go false first rest h = first

-- ---- tests after tests: the first ones were asked by another call, and no is what it answers
pub refused_before : (ts us : List Test) (no : ℕ) → no ≡ first_failing ts → no ≢ 0 → no ≡ first_failing (ts ++ us)
unfolding first_failing
refused_before [] us no e h = absurd (h e)
refused_before (t ∷ ts) us no e h = go t.passes e (λ q. refused_before ts us no q h)
  where
    go : (b : Bool) → no ≡ cond b (first_failing ts) t.number → (no ≡ first_failing ts → no ≡ first_failing (ts ++ us))
        → no ≡ cond b (first_failing (ts ++ us)) t.number
    go true e rest = rest e
    go false e rest = e

-- ns are the numbers of the first tests, none of them 0
pub passed-before : (ns : List ℕ) (ts us : List Test) (no m : ℕ) → one_of ns 0 ≡ false → numbers_in ns ts ≡ true → no ≡ first_failing ts → no ≡ 0
    → m ≡ first_failing us → m ≡ first_failing (ts ++ us)
unfolding first_failing numbers_in
passed-before ns [] us no m some k e z q = q
passed-before ns (t ∷ ts) us no m some k e z q =
    let (first, rest) = both (one_of ns t.number) (numbers_in ns ts) k in
    go t.passes first e (λ d. passed-before ns ts us no m some rest d z q)
  where
    go : (b : Bool) → one_of ns t.number ≡ true → no ≡ cond b (first_failing ts) t.number → (no ≡ first_failing ts → m ≡ first_failing (ts ++ us))
        → m ≡ cond b (first_failing (ts ++ us)) t.number
    go true first e rest = rest e
    go false first e rest = absurd (true≢false (sym (rw (sym e ∙ z) at first) ∙ some))
