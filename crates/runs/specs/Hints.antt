-- Hints: 64-bit words, four to a set, from number a on.
use Rattle.std.specs.Prelude.{ℕ, zero, suc, ◌-◌, ◌*◌, ◌/◌, List, [], ◌∷◌, length}
use Rattle.sets.specs.Sets.{Set, quad}
use Rattle.rules.specs.Runs.{Choice}

unfoldable pub hints_from : List ℕ → ℕ → ℕ → List Set
hints_from words zero a = []
hints_from words (suc m) a = quad words (4 * a) ∷ hints_from words m (suc a)

abbrev pub hints_at : List ℕ → ℕ → List Set
hints_at words a = hints_from words (length words / 4 - a) a

abbrev pub chosen : Set → List Set → ℕ → ℕ → Choice
chosen z left taken used = record { set = z; left = left; taken = taken; used = used }
