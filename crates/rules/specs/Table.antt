-- The table: N states, the starts I, the safe states P and the moves; f and g.
use Rattle.std.specs.Prelude.{ℕ, ◌*◌, ◌/◌, ◌%◌, Bool, not, ◌&&◌, ◌||◌, cond, List, ltb, get_or}
use Rattle.std.proofs.lemmas.List.Edits.{sets}
use Rattle.sets.specs.Lists.{tabulate}
use Rattle.sets.specs.Search.{any, all, sum}
use Rattle.sets.specs.Sets.{Set, member, set_of, sound, with, without, count, quad}

-- `size` is N, `starts` is I, `safe` is P; `rows` is the move table of 1,024 words
pub record Table : Type 0 where
  pub size : ℕ
  pub starts : Set
  pub safe : Set
  pub rows : List ℕ

abbrev pub table : ℕ → Set → Set → List ℕ → Table
table N I P rows = record { size = N; starts = I; safe = P; rows = rows }

-- row s, four words, is the set of states one move from s
abbrev pub row : List ℕ → ℕ → Set
row rows s = quad rows (4 * s)

-- there is a move from s to u
unfoldable pub leads : List ℕ → ℕ → ℕ → Bool
leads rows s u = member (row rows s) u

-- the number of moves, row by row
unfoldable pub move_count : List ℕ → ℕ
move_count rows = sum 256 (λ s. count 256 (row rows s))

-- a table of 256 rows
unfoldable pub rows_of : (ℕ → Set) → List ℕ
rows_of h = tabulate 1024 (λ i. get_or (h (i / 4)) (i % 4) 0)

-- a move table where the move from s to u is there, or is not
unfoldable pub with_move : List ℕ → ℕ → ℕ → Bool → List ℕ
with_move rows s u there = sets rows (4 * s) (cond there (with 256 (row rows s) u) (without 256 (row rows s) u))

-- row s holds no number from N up; it is empty where s is from N up
unfoldable pub sound_row : ℕ → List ℕ → ℕ → Bool
sound_row N rows s = sound (cond (ltb s N) N 0) (row rows s)

unfoldable pub sound_rows : ℕ → List ℕ → Bool
sound_rows N rows = all 256 (sound_row N rows)

-- I, P and all rows hold no number from N up, and rows from N up are empty
unfoldable pub sound_table : Table → Bool
sound_table t = sound t.size t.starts && (sound t.size t.safe && sound_rows t.size t.rows)

-- every state with a move into it from a member of x
unfoldable pub forward : ℕ → List ℕ → Set → Set
forward N rows x = set_of N (λ u. any N (λ s. member x s && leads rows s u))

-- every state all of whose moves end in x
unfoldable pub backward : ℕ → List ℕ → Set → Set
backward N rows x = set_of N (λ s. all N (λ u. not (leads rows s u) || member x u))

abbrev pub f : Table → Set → Set
f t = forward t.size t.rows

abbrev pub g : Table → Set → Set
g t = backward t.size t.rows
