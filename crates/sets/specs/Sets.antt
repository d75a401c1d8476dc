-- Sets of states, as document 01 has them: four 64-bit words; state s is bit s mod 64 of word s div 64.
use Rattle.std.specs.Prelude.{ℕ, zero, suc, ◌+◌, ◌-◌, ◌*◌, ◌/◌, ◌%◌, ◌^◌, ◌<◌, min}
use Rattle.std.specs.Prelude.{Bool, true, false, not, ◌&&◌, ◌||◌, cond, List, [], ◌∷◌, ◌≡◌, eqb, leb, ltb, get_or}
use Rattle.std.specs.Prelude.{Option}
use Rattle.answers.specs.Refusals.{no_refusal, out_of_range}
use Rattle.sets.specs.Search.{least, all, sum}

-- a set's words, lowest states first
abbrev pub Set : Type 0
Set = List ℕ

-- a binary digit as a truth value, and back
abbrev pub odd : ℕ → Bool
odd zero = false
odd (suc n) = true

abbrev pub digit : Bool → ℕ
digit true = 1
digit false = 0

-- bit k of a word
unfoldable pub bit : ℕ → ℕ → Bool
bit w zero = odd (w % 2)
bit w (suc k) = bit (w / 2) k

unfoldable pub member : Set → ℕ → Bool
member x s = bit (get_or x (s / 64) 0) (s % 64)

-- the word whose d lowest bits are p 0 .. p (d - 1)
unfoldable pub pack : ℕ → (ℕ → Bool) → ℕ
pack zero p = 0
pack (suc d) p = pack d (λ k. p (suc k)) * 2 + digit (p 0)

-- word q of the set of the states below N that pass a test
unfoldable pub word_of : ℕ → (ℕ → Bool) → ℕ → ℕ
word_of N p q = pack (min (N - q * 64) 64) (λ i. p (q * 64 + i))

-- the set of the states below N that pass a test
unfoldable pub set_of : ℕ → (ℕ → Bool) → Set
set_of N p = word_of N p 0 ∷ word_of N p 1 ∷ word_of N p 2 ∷ word_of N p 3 ∷ []

unfoldable pub empty : Set
empty = 0 ∷ 0 ∷ 0 ∷ 0 ∷ []

-- the full set of N states
unfoldable pub full : ℕ → Set
full N = set_of N (λ s. true)

-- every member of x below N is a member of y
unfoldable pub within : ℕ → Set → Set → Bool
within N x y = all N (λ s. not (member x s) || member y s)

-- no member from N up
unfoldable pub sound : ℕ → Set → Bool
sound N x = all 256 (λ s. not (member x s) || ltb s N)

-- four words of 64 bits with no member from N up: the set of its own members
pub record Proper (N : ℕ) (x : Set) : Type 0 where
  pub is : set_of N (member x) ≡ x

-- the states below N in both, in either, in x and not in y
unfoldable pub meet : ℕ → Set → Set → Set
meet N x y = set_of N (λ s. member x s && member y s)

unfoldable pub join : ℕ → Set → Set → Set
join N x y = set_of N (λ s. member x s || member y s)

unfoldable pub minus : ℕ → Set → Set → Set
minus N x y = set_of N (λ s. member x s && not (member y s))

-- x and the state s; x but for the state s
unfoldable pub with : ℕ → Set → ℕ → Set
with N x s = set_of N (λ u. member x u || eqb u s)

unfoldable pub without : ℕ → Set → ℕ → Set
without N x s = set_of N (λ u. member x u && not (eqb u s))

-- the number of members below N
unfoldable pub count : ℕ → Set → ℕ
count N x = sum N (λ s. digit (member x s))

-- the smallest member, none for the empty set
unfoldable pub smallest : Set → Option ℕ
smallest x = least 256 (member x)

-- N is 1 to 256
unfoldable pub in_range : ℕ → Bool
in_range N = ltb 0 N && leb N 256

-- the refusal of an N out of range
unfoldable pub size_refusal : ℕ → ℕ
size_refusal N = cond (in_range N) no_refusal out_of_range

-- words of 64 bits, as lent ones always are
abbrev pub Words : List ℕ → Type 0
Words b = (i : ℕ) → get_or b i 0 < 2 ^ 64

-- the set that stands in a list of words at place i, its words 0 past the list's end
unfoldable pub quad : List ℕ → ℕ → Set
quad b i = get_or b i 0 ∷ get_or b (i + 1) 0 ∷ get_or b (i + 2) 0 ∷ get_or b (i + 3) 0 ∷ []
