-- A control table in a file: which table a file's contents say, what a file of a table holds, and what reading and writing refuse.
use Rattle.std.specs.Prelude.{ℕ, ◌+◌, ◌*◌, ◌/◌, ◌%◌, Bool, false, ◌&&◌, ◌||◌, cond, List, [], ◌∷◌, eqb, leb, ltb, ℤ, pos, negsuc, length, get_or}
use Rattle.answers.specs.Answer.{Answer, unless_refused}
use Rattle.answers.specs.Refusals.{out_of_range, bad_label, wrong_length, short_output, not_sound, ◌unless◌, first_failing}
use Rattle.moves.specs.Models.{Control, control}
use Rattle.rules.specs.Table.{table, leads, rows_of, move_count, sound_table}
use Rattle.sets.specs.Lists.{tabulate}
use Rattle.sets.specs.Search.{all}
use Rattle.sets.specs.Sets.{Set, member, set_of, in_range}
use Rattle.turns.specs.Turn.{is_angle}
use Rattle.tables.specs.Lists.{passing, among}
use Rattle.tables.specs.Format.{Contents, Taken, refused_at, contents, signed, unsigned, file_bytes}

-- ---- from entries
-- the set of the numbers among them
unfoldable pub set_of_entries : List ℕ → Set
set_of_entries vs = set_of 256 (among vs)

-- the states that a move among them leads to from state s
unfoldable pub row_of_entries : List ℕ → ℕ → Set
row_of_entries vs s = set_of 256 (λ u. among vs (s * 65536 + u))

-- the move table: 1,024 words, four to a row
unfoldable pub rows_of_entries : List ℕ → List ℕ
rows_of_entries vs = rows_of (row_of_entries vs)

-- 256 angles and modes, 0 where there is no entry of a state
unfoldable pub angles_of_entries : List ℕ → List ℤ
angles_of_entries vs = tabulate 256 (λ s. signed (get_or vs s 0 / 256))

unfoldable pub modes_of_entries : List ℕ → List ℕ
modes_of_entries vs = tabulate 256 (λ s. get_or vs s 0 % 256)

-- the table that a file's contents say
unfoldable pub control_of : Contents → Control
control_of l =
    control (table (length l.states) (set_of_entries l.starts) (set_of_entries l.safe) (rows_of_entries l.moves))
    (angles_of_entries l.states)
    (modes_of_entries l.states)

-- ---- to entries
-- the entry of state s
unfoldable pub state_number : List ℤ → List ℕ → ℕ → ℕ
state_number angles modes s = unsigned (get_or angles s (pos 0)) * 256 + get_or modes s 0

-- whether number v is a move of the table
unfoldable pub is_move : List ℕ → ℕ → Bool
is_move rows v = leads rows (v / 65536) (v % 65536)

-- what the file of a table holds: states in their order, members and moves rising
unfoldable pub contents_of : Control → Contents
contents_of c = record {
  states = tabulate c.table.size (state_number c.angles c.modes);
  starts = passing (member c.table.starts) 0 256;
  safe = passing (member c.table.safe) 0 256;
  moves = passing (is_move c.table.rows) 0 (256 * 65536);
}

-- the bytes of a table
unfoldable pub file_of : Control → List ℕ
file_of c = file_bytes (contents_of c)

-- ---- what is refused
-- the move table, the angles and the modes have their lengths
unfoldable pub sized : List ℕ → List ℤ → List ℕ → Bool
sized rows angles modes = eqb (length rows) 1024 && (eqb (length angles) 256 && eqb (length modes) 256)

unfoldable pub is_zero : ℤ → Bool
is_zero (pos n) = eqb n 0
is_zero (negsuc n) = false

-- the angle and the mode at a place from N up are 0
unfoldable pub clear_at : ℕ → List ℤ → List ℕ → ℕ → Bool
clear_at N angles modes s = ltb s N || (is_zero (get_or angles s (pos 0)) && eqb (get_or modes s 0) 0)

-- all angles and modes from place N up are 0
unfoldable pub clear_past : ℕ → List ℤ → List ℕ → Bool
clear_past N angles modes = all 256 (clear_at N angles modes)

-- the angle and the mode of a state are in range
unfoldable pub label_at : List ℤ → List ℕ → ℕ → Bool
label_at angles modes s = is_angle (get_or angles s (pos 0)) && ltb (get_or modes s 0) 16

-- the angles and modes of all N states are in range
unfoldable pub labelled : ℕ → List ℤ → List ℕ → Bool
labelled N angles modes = all N (label_at angles modes)

-- the first refusal of writing to an output of a length, 0 for none
unfoldable pub write_refusal : Control → ℕ → ℕ
write_refusal c room =
    first_failing
    (wrong_length unless sized c.table.rows c.angles c.modes
    ∷ out_of_range unless in_range c.table.size
    ∷ not_sound unless sound_table c.table
    ∷ not_sound unless clear_past c.table.size c.angles c.modes
    ∷ bad_label unless labelled c.table.size c.angles c.modes
    ∷ out_of_range unless leb (move_count c.table.rows) 4096
    ∷ short_output unless leb (length (file_of c)) room
    ∷ [])

-- the bytes to be written, or the refusal
unfoldable pub writing : Control → ℕ → Answer (List ℕ)
writing c room = unless_refused (write_refusal c room) (file_of c)

-- the contents of a file, where the lent buffers have these lengths
unfoldable pub reading : List ℕ → List ℕ → List ℤ → List ℕ → Taken Contents
reading b rows angles modes = cond (sized rows angles modes) (contents b) (refused_at wrong_length 0)
