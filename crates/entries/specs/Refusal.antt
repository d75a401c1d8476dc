-- The refusal of a table and a run buffer.
use Rattle.std.specs.Prelude.{ℕ, List, [], ◌∷◌, eqb, length}
use Rattle.answers.specs.Refusals.{out_of_range, wrong_length, fails_entry, not_sound, Test, ◌unless◌, first_failing}
use Rattle.sets.specs.Sets.{in_range}
use Rattle.rules.specs.Table.{Table, sound_table}
use Rattle.rules.specs.Buffer.{entry_check}

-- the buffer is 2,066 words and the move table 1,024; N is in range; the table is sound; the buffer passes the entry check
abbrev pub entry_order : Table → List ℕ → List Test
entry_order t b =
    wrong_length unless eqb (length b) 2066
    ∷ wrong_length unless eqb (length t.rows) 1024
    ∷ out_of_range unless in_range t.size
    ∷ not_sound unless sound_table t
    ∷ fails_entry unless entry_check t b
    ∷ []

unfoldable pub entry_refusal : Table → List ℕ → ℕ
entry_refusal t b = first_failing (entry_order t b)
