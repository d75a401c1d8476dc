-- Texts, numbers and fields as bytes, and as the code appends them: one turn of a loop more, one field more.
use Prim.Native.Nat.{ℕ, zero, suc, ◌+◌, ◌<◌, ◌^◌}
use Prim.Native.Char.{code}
use native.Mathlib.Nat.{pow-suc}
use native.Mathlib.Numerals.{add-one}
use native.Mathlib.Omega.{arith}
use mathlib.Core.Bool.{Bool, true, false}
use mathlib.Core.Path.{◌≡◌, refl, sym}
use mathlib.Core.List.{List, [], ◌∷◌, ◌++◌}
use lib.IntN.{ℤ, pos, negsuc}
use lib.Signed.{mag}
use borrow.Author.Rules.{rules}
use Rattle.std.specs.Fmt as std
use Rattle.std.proofs.lemmas.Fmt.{decimal_from_appends_wide, length-decimal-le_wide}
use Rattle.listings.specs.Inner.{gap}
use Rattle.listings.specs.Text.{appended, digits, decimal, signed_decimal, spaced, parted}

-- ---- a loop's turns
-- no text appended, and one more
pub appended-none : (f : ℕ → List ℕ) → appended 0 f ≡ []
unfolding appended
appended-none f = refl

pub appended-more : (n : ℕ) (f : ℕ → List ℕ) → appended (n + 1) f ≡ appended n f ++ f n
unfolding appended
appended-more n f = rw add-one

-- ---- digits: the code puts those of the library
few-digits : (n : ℕ) → n < 10 ^ suc n
few-digits zero = omega arith
few-digits (suc n) = omega (arith, few-digits n, pow-suc 10 (suc n))

pub decimal-wide : (n : ℕ) → n < 10 ^ 64 → std.decimal n ≡ decimal n
unfolding decimal digits
decimal-wide n h = sym (decimal_from_appends_wide digits (search rules) (suc n) n h (length-decimal-le_wide (suc n) n (omega arith) (few-digits n) h))

pub decimal-is : (n : ℕ) → n < 2 ^ 64 → std.decimal n ≡ decimal n
decimal-is n h = decimal-wide n (omega (arith, h))

pub signed-is : (z : ℤ) → mag z < 2 ^ 63 → std.signed_decimal z ≡ signed_decimal z
unfolding signed_decimal
signed-is (pos n) h = decimal-is n (omega (arith, h))
signed-is (negsuc n) h = rw (decimal-is (suc n) (omega (arith, h))) refl

-- ---- fields
spaced-more : (front : List ℕ) (fs : List (List ℕ)) (f : List ℕ) → spaced front (fs ++ f ∷ []) ≡ spaced front fs ++ code " " ∷ f
unfolding spaced
spaced-more front [] f = refl
spaced-more front (g ∷ fs) f = spaced-more (front ++ code " " ∷ g) fs f

-- whether there is no field yet
abbrev pub is_none : List (List ℕ) → Bool
is_none [] = true
is_none (f ∷ fs) = false

-- one field more
pub some_more : (fs : List (List ℕ)) (f : List ℕ) → is_none (fs ++ f ∷ []) ≡ false
some_more [] f = refl
some_more (g ∷ fs) f = refl

pub parted-more : (fs : List (List ℕ)) (f : List ℕ) → parted (fs ++ f ∷ []) ≡ parted fs ++ (gap (is_none fs) ++ f)
unfolding parted spaced gap
parted-more [] f = refl
parted-more (g ∷ fs) f = spaced-more g fs f
