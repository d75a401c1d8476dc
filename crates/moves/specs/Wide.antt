-- f and g on all 256 places, for a table whose soundness is not tested; on sound rows they are f and g.
use Rattle.std.specs.Prelude.{ℕ, Bool, not, ◌&&◌, ◌||◌, List}
use Rattle.sets.specs.Search.{any, all}
use Rattle.sets.specs.Sets.{Set, member, set_of}
use Rattle.rules.specs.Table.{leads}

-- every number below 256 with a move into it from a member of x below N
unfoldable pub forward256 : ℕ → List ℕ → Set → Set
forward256 N rows x = set_of 256 (λ u. any N (λ s. member x s && leads rows s u))

-- all moves of s, to any number below 256, end in x
unfoldable pub ends_in : List ℕ → Set → ℕ → Bool
ends_in rows x s = all 256 (λ u. not (leads rows s u) || member x u)

-- every state below N all of whose moves, to any number below 256, end in x
unfoldable pub backward256 : ℕ → List ℕ → Set → Set
backward256 N rows x = set_of N (ends_in rows x)
