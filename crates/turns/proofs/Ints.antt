-- An integer z as two naturals, `plus z` less `minus z`, so that `omega` proves facts of integers.
use Prim.Native.Nat.{ℕ, zero, suc, ◌+◌, ◌-◌, ◌/◌, ◌≤◌, ◌<◌}
use native.Mathlib.Omega.{arith}
use mathlib.Core.Path.{◌≡◌, refl, ap}
use mathlib.Core.Bool.{Bool, true, false, cond, true≢false, false≢true}
use lib.Dec.{ltb}
use lib.IntN.{ℤ, pos, negsuc, neg_ℤ, nat_abs, sub_ℕ, ◌+ℤ◌, ◌-ℤ◌}
use lib.Signed.{le_z, lt_z}
use mir.Syntax.{w16}
use mir.Val.{SFits}
use borrow.Author.Tests.{ltb-true, ltb-false, leb-true, leb-false, lt-ltb, le-leb}

-- how far z lies above 0
abbrev pub plus : ℤ → ℕ
plus (pos n) = n
plus (negsuc n) = 0

-- how far z lies below 0
abbrev pub minus : ℤ → ℕ
minus (pos n) = 0
minus (negsuc n) = suc n

-- a difference of naturals
nat_sub_is : (a b : ℕ) → plus (sub_ℕ a b) + b ≡ minus (sub_ℕ a b) + a
nat_sub_is a b = go (ltb a b) refl
  where
    at : Bool → ℤ
    at t = cond t (negsuc (b - suc a)) (pos (a - b))

    go : (t : Bool) → ltb a b ≡ t → plus (at t) + b ≡ minus (at t) + a
    go true e = omega (arith, ltb-true a b e)
    go false e = omega (arith, ltb-false a b e)

-- a sum
pub add_is : (a b : ℤ) → plus (a +ℤ b) + (minus a + minus b) ≡ minus (a +ℤ b) + (plus a + plus b)
add_is (pos a) (pos b) = omega arith
add_is (pos a) (negsuc b) = omega (arith, nat_sub_is a (suc b))
add_is (negsuc a) (pos b) = omega (arith, nat_sub_is b (suc a))
add_is (negsuc a) (negsuc b) = omega arith

-- a difference
pub sub_is : (a b : ℤ) → plus (a -ℤ b) + (minus a + plus b) ≡ minus (a -ℤ b) + (plus a + minus b)
sub_is a (pos zero) = add_is a (pos zero)
sub_is a (pos (suc n)) = add_is a (negsuc n)
sub_is a (negsuc n) = add_is a (pos (suc n))

-- the opposite
pub plus-neg : (z : ℤ) → plus (neg_ℤ z) ≡ minus z
plus-neg (pos zero) = refl
plus-neg (pos (suc n)) = refl
plus-neg (negsuc n) = refl

pub minus-neg : (z : ℤ) → minus (neg_ℤ z) ≡ plus z
minus-neg (pos zero) = refl
minus-neg (pos (suc n)) = refl
minus-neg (negsuc n) = refl

-- an integer is known by its difference
pub same_int : (z w : ℤ) → plus z + minus w ≡ plus w + minus z → z ≡ w
same_int (pos m) (pos n) e = let q : m ≡ n = omega arith in ap pos q
same_int (pos m) (negsuc n) e = absurd (omega arith)
same_int (negsuc m) (pos n) e = absurd (omega arith)
same_int (negsuc m) (negsuc n) e = let q : m ≡ n = omega arith in ap negsuc q

-- z lies between -H and H, in naturals
pub record Inside (H : ℕ) (z : ℤ) : Type 0 where
  pub low : minus z < plus z + H
  pub high : plus z < minus z + H

-- z is an angle where the full turn is T, in naturals
pub record Bounds (T : ℕ) (z : ℤ) : Type 0 where
  pub low : minus z ≤ plus z + T / 2
  pub high : plus z < minus z + T / 2

-- z lies between -H and H where its size is below H
pub abs_inside : (H : ℕ) (z : ℤ) → nat_abs z < H → Inside H z
abs_inside H (pos n) h = omega arith
abs_inside H (negsuc n) h = omega arith

pub inside_abs : (H : ℕ) (z : ℤ) → Inside H z → nat_abs z < H
inside_abs H (pos n) h = omega arith
inside_abs H (negsuc n) h = omega arith

-- a test that passed
pub le_yes : (a b : ℤ) → le_z a b ≡ true → plus a + minus b ≤ plus b + minus a
le_yes (pos a) (pos b) e = omega (arith, leb-true a b e)
le_yes (pos a) (negsuc b) e = absurd (false≢true e)
le_yes (negsuc a) (pos b) e = omega arith
le_yes (negsuc a) (negsuc b) e = omega (arith, leb-true b a e)

-- a test that failed
pub le_no : (a b : ℤ) → le_z a b ≡ false → plus b + minus a < plus a + minus b
le_no (pos a) (pos b) e = omega (arith, leb-false a b e)
le_no (pos a) (negsuc b) e = omega arith
le_no (negsuc a) (pos b) e = absurd (true≢false e)
le_no (negsuc a) (negsuc b) e = omega (arith, leb-false b a e)

-- the same of `<`
pub lt_yes : (a b : ℤ) → lt_z a b ≡ true → plus a + minus b < plus b + minus a
lt_yes (pos a) (pos b) e = omega (arith, ltb-true a b e)
lt_yes (pos a) (negsuc b) e = absurd (false≢true e)
lt_yes (negsuc a) (pos b) e = omega arith
lt_yes (negsuc a) (negsuc b) e = omega (arith, ltb-true b a e)

pub lt_no : (a b : ℤ) → lt_z a b ≡ false → plus b + minus a ≤ plus a + minus b
lt_no (pos a) (pos b) e = omega (arith, ltb-false a b e)
lt_no (pos a) (negsuc b) e = omega arith
lt_no (negsuc a) (pos b) e = absurd (true≢false e)
lt_no (negsuc a) (negsuc b) e = omega (arith, ltb-false b a e)

-- a test that passes
pub yes_le : (a b : ℤ) → plus a + minus b ≤ plus b + minus a → le_z a b ≡ true
yes_le (pos a) (pos b) h = le-leb a b (omega arith)
yes_le (pos a) (negsuc b) h = absurd (omega arith)
yes_le (negsuc a) (pos b) h = refl
yes_le (negsuc a) (negsuc b) h = le-leb b a (omega arith)

pub yes_lt : (a b : ℤ) → plus a + minus b < plus b + minus a → lt_z a b ≡ true
yes_lt (pos a) (pos b) h = lt-ltb a b (omega arith)
yes_lt (pos a) (negsuc b) h = absurd (omega arith)
yes_lt (negsuc a) (pos b) h = refl
yes_lt (negsuc a) (negsuc b) h = lt-ltb b a (omega arith)

-- a number that an i16 holds
pub fits : (z : ℤ) → Inside 32768 z → SFits w16 z
fits (pos n) h = record { sfits = omega arith }
fits (negsuc n) h = record { sfits = omega arith }
