-- Texts, numbers and lines as bytes, in ASCII.
use Rattle.std.specs.Prelude.{ℕ, zero, suc, ◌+◌, ◌/◌, ◌%◌, cond, List, [], ◌∷◌, ◌++◌, ltb, ℤ, pos, negsuc}
use Prim.Native.Char.{code}
use Prim.Native.String.{String, char_at, count}

-- f 0 ++ .. ++ f (n - 1)
unfoldable pub appended : ℕ → (ℕ → List ℕ) → List ℕ
appended zero f = []
appended (suc n) f = appended n f ++ f n

-- the bytes of a quoted text
unfoldable pub text : String → List ℕ
text t = appended (count t) (λ i. code (char_at t i) ∷ [])

-- the decimal digits of n, the last k of them where it has more
unfoldable pub digits : ℕ → ℕ → List ℕ
digits zero n = []
digits (suc k) n = cond (ltb n 10) [] (digits k (n / 10)) ++ ((code "0" + n % 10) ∷ [])

-- a natural number
unfoldable pub decimal : ℕ → List ℕ
decimal n = digits (suc n) n

-- an integer, with its sign where it is below 0
unfoldable pub signed_decimal : ℤ → List ℕ
signed_decimal (pos n) = decimal n
signed_decimal (negsuc n) = code "-" ∷ decimal (suc n)

-- what stands in front, and the fields after it, a space before each
unfoldable pub spaced : List ℕ → List (List ℕ) → List ℕ
spaced front [] = front
spaced front (f ∷ fs) = spaced (front ++ code " " ∷ f) fs

-- fields parted by one space
unfoldable pub parted : List (List ℕ) → List ℕ
parted [] = []
parted (f ∷ fs) = spaced f fs

-- a line: its fields, and a newline
unfoldable pub line : List (List ℕ) → List ℕ
line fs = parted fs ++ code "\n" ∷ []
