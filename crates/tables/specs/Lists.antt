-- Lists of the numbers that pass a test, and whether a number is in a list.
use Rattle.std.specs.Prelude.{ℕ, zero, suc, Bool, false, ◌||◌, cond, List, [], ◌∷◌, eqb}

-- of the k numbers from `from` on, those that pass a test, rising
unfoldable pub passing : (ℕ → Bool) → ℕ → ℕ → List ℕ
passing p from zero = []
passing p from (suc k) = cond (p from) (from ∷ passing p (suc from) k) (passing p (suc from) k)

-- v is in the list
unfoldable pub among : List ℕ → ℕ → Bool
among [] v = false
among (w ∷ ws) v = eqb v w || among ws v
