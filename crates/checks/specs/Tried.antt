-- "Tried on small tables": the rows of document 01 that are marked P, "0 to -180" as document 02 (2/12) has it, and that file B gives
-- table B, as one statement.
use Rattle.std.specs.Prelude.{ℕ, List, [], ◌∷◌, ◌++◌, ◌≡◌, pos, negsuc, replicate}
use Rattle.answers.specs.Answer.{given}
use Rattle.sets.specs.Sets.{Set}
use Rattle.turns.specs.Turn.{turn_of}
use Rattle.rules.specs.Table.{Table, f, g}
use Rattle.rules.specs.Rules.{Standing, safe, reached, unfinished, no_room, fresh}
use Rattle.rules.specs.Runs.{Ran, run}
use Rattle.rules.specs.ShownWalk.{shown_walk}
use Rattle.runs.specs.Hints.{hints_at}
use Rattle.tables.specs.Control.{control_of}
use Rattle.tables.specs.Format.{Taken, taken, and_then, contents}

-- the set of states below 64 that a word holds
abbrev pub one_word : ℕ → Set
one_word w = w ∷ 0 ∷ 0 ∷ 0 ∷ []

-- three states, with the words of I and P and the first word of each row
abbrev pub three : ℕ → ℕ → ℕ → ℕ → ℕ → Table
three I P a b c = record { size = 3; starts = one_word I; safe = one_word P; rows = (one_word a ++ one_word b ++ one_word c) ++ replicate 1012 0 }

-- moves 0 to 1 and 1 to 0, I {0}, P {0,1}
abbrev pub A : Table
A = three 1 3 2 1 0

-- moves 0 to 1 and 1 to 2, I {0}, P {0,1}
abbrev pub B : Table
B = three 1 3 2 4 0

-- file B, in bytes, and the table that a file gives
abbrev pub file_b : List ℕ
file_b =
    0x03 ∷ 0x00 ∷ 0xAA ∷ 0x00 ∷ 0x00 ∷ 0xB3 ∷ 0x00 ∷ 0x00 ∷ 0x4D ∷ 0xFF ∷ 0x01 ∷ 0x01 ∷ 0x00 ∷ 0x00 ∷ 0x00 ∷ 0x02 ∷ 0x00 ∷ 0x00 ∷ 0x00
    ∷ 0x01 ∷ 0x00 ∷ 0x02 ∷ 0x00 ∷ 0x00 ∷ 0x00 ∷ 0x01 ∷ 0x00 ∷ 0x01 ∷ 0x00 ∷ 0x02 ∷ 0x00 ∷ []

unfoldable pub table_in : List ℕ → Taken Table
table_in b = and_then (contents b) (λ l. taken (control_of l).table)

-- no moves
abbrev pub still : ℕ → ℕ → Table
still I P = three I P 0 0 0

-- what a caller sees of a run: the reason where it ended, and the numbers
pub record Seen : Type 0 where
  pub standing : Standing
  pub set : Set
  pub walk : List ℕ
  pub rules : ℕ
  pub taken : ℕ
  pub used : ℕ

abbrev pub saw : Standing → Set → List ℕ → ℕ → ℕ → ℕ → Seen
saw r x w n a u = record { standing = r; set = x; walk = w; rules = n; taken = a; used = u }

unfoldable pub reason_of : Table → Ran → Standing → Seen
reason_of t o (safe j) = saw (safe j) (o.state.x j) [] o.rules o.taken o.used
reason_of t o reached = saw reached [] (shown_walk t o.state) o.rules o.taken o.used
reason_of t o unfinished = saw unfinished [] [] o.rules o.taken o.used
reason_of t o no_room = saw no_room [] [] o.rules o.taken o.used

-- a fresh run with a budget and hints
unfoldable pub seen : Table → ℕ → List Set → Seen
seen t b hints = let o : Ran = run t b hints (fresh t) in reason_of t o o.standing

-- 24 is 2·N·N + 2·N for N = 3
abbrev pub Rows : Type 0
Rows =
    (table_in file_b ≡ taken B)
    × (f B (one_word 3) ≡ one_word 6)
    × (g B (one_word 3) ≡ one_word 5)
    × (seen A 24 [] ≡ saw (safe 1) (one_word 3) [] 5 0 0)
    × (seen A 24 (hints_at (7 ∷ 0 ∷ 0 ∷ 0 ∷ 1 ∷ 0 ∷ 0 ∷ 0 ∷ []) 0) ≡ saw (safe 2) (one_word 3) [] 8 2 1)
    × (seen B 10 [] ≡ saw unfinished [] [] 10 0 0)
    × (seen B 11 [] ≡ saw reached [] (0 ∷ 1 ∷ 2 ∷ []) 11 0 0)
    × (seen (still 0 0) 24 [] ≡ saw (safe 0) (one_word 0) [] 2 0 0)
    × (seen (still 0 7) 24 [] ≡ saw (safe 1) (one_word 7) [] 1 0 0)
    × (seen (still 1 0) 24 [] ≡ saw reached [] (0 ∷ []) 1 0 0)
    × (turn_of (pos 179) (negsuc 178) ≡ given (pos 2))
    × (turn_of (negsuc 178) (pos 179) ≡ given (negsuc 1))
    × (turn_of (pos 0) (negsuc 179) ≡ given (pos 180))
