-- What a test says, either way, as a value that proofs take apart.
use Prim.Native.Nat.{ℕ, ◌≤◌, ◌<◌}
use mathlib.Core.Path.{◌≡◌, refl, sym, ◌∙◌}
use mathlib.Core.Logic.{◌⊎◌, inl, inr, ◌≢◌}
use mathlib.Core.Bool.{Bool, true, false, not, ◌&&◌, ◌||◌, true≢false, false≢true}
use lib.Dec.{eqb, leb}
use borrow.Author.Tests.{eqb-true, eqb-false, leb-true, leb-false}

pub data Says (A B : Type 0) : Bool → Type 0 where
  pass : A → Says A B true
  fail : B → Says A B false

pub passed : {A B : Type 0} {b : Bool} → Says A B b → b ≡ true → A
passed (pass a) e = a
passed (fail b) e = absurd (false≢true e)

pub failed : {A B : Type 0} {b : Bool} → Says A B b → b ≡ false → B
failed (pass a) e = absurd (true≢false e)
failed (fail b) e = b

pub passes : {A B : Type 0} {b : Bool} → Says A B b → (B → ⊥) → b ≡ true
passes (pass a) h = refl
passes (fail b) h = absurd (h b)

pub fails : {A B : Type 0} {b : Bool} → Says A B b → (A → ⊥) → b ≡ false
fails (pass a) h = absurd (h a)
fails (fail b) h = refl

pub clash : {b : Bool} → b ≡ true → b ≡ false → ⊥
clash p q = true≢false (sym p ∙ q)

pub which : (b : Bool) → (b ≡ true) ⊎ (b ≡ false)
which true = inl refl
which false = inr refl

-- what is never true is false
pub never : (b : Bool) → (b ≡ true → ⊥) → b ≡ false
never true h = absurd (h refl)
never false h = refl

pub and-true : (a b : Bool) → (a && b) ≡ true → (a ≡ true) × (b ≡ true)
and-true true b e = (refl, e)
and-true false b e = absurd (false≢true e)

pub and_intro : {a b : Bool} → a ≡ true → b ≡ true → (a && b) ≡ true
and_intro p q = rw (p, q)

pub not-true : (a : Bool) → not a ≡ true → a ≡ false
not-true true e = absurd (false≢true e)
not-true false e = refl

pub not-false : (a : Bool) → not a ≡ false → a ≡ true
not-false true e = refl
not-false false e = absurd (true≢false e)

-- `not a || b` is "a implies b"
pub implies : (a b : Bool) → (a ≡ true → b ≡ true) → (not a || b) ≡ true
implies true b h = h refl
implies false b h = refl

pub implied : (a b : Bool) → (not a || b) ≡ true → a ≡ true → b ≡ true
implied true b e h = e
implied false b e h = absurd (false≢true h)

pub not-implied : (a b : Bool) → (not a || b) ≡ false → (a ≡ true) × (b ≡ false)
not-implied true b e = (refl, e)
not-implied false b e = absurd (true≢false e)

-- tests on numbers
pub eqb-says : (m n : ℕ) → Says (m ≡ n) (m ≢ n) (eqb m n)
eqb-says m n = go (eqb m n) refl
  where
    go : (b : Bool) → eqb m n ≡ b → Says (m ≡ n) (m ≢ n) b
    go true e = pass (eqb-true m n e)
    go false e = fail (eqb-false m n e)

pub leb-says : (m n : ℕ) → Says (m ≤ n) (n < m) (leb m n)
leb-says m n = go (leb m n) refl
  where
    go : (b : Bool) → leb m n ≡ b → Says (m ≤ n) (n < m) b
    go true e = pass (leb-true m n e)
    go false e = fail (leb-false m n e)

pub lt_or_ge : (a b : ℕ) → (a < b) ⊎ (b ≤ a)
lt_or_ge a b = go (leb-says b a)
  where
    go : {c : Bool} → Says (b ≤ a) (a < b) c → (a < b) ⊎ (b ≤ a)
    go (pass h) = inr h
    go (fail h) = inl h

pub same_or : (a b : ℕ) → (a ≡ b) ⊎ (a ≢ b)
same_or a b = go (eqb-says a b)
  where
    go : {c : Bool} → Says (a ≡ b) (a ≢ b) c → (a ≡ b) ⊎ (a ≢ b)
    go (pass q) = inl q
    go (fail n) = inr n
