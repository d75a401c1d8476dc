-- The refusals of f and g: 7, 2, 13 in that order.
use Rattle.std.specs.Prelude.{ℕ, List, [], ◌∷◌, eqb, length}
use Rattle.answers.specs.Refusals.{out_of_range, wrong_length, not_sound, ◌unless◌, first_failing}
use Rattle.sets.specs.Sets.{Set, sound, in_range}
use Rattle.rules.specs.Table.{sound_rows}

-- the move table is 1,024 words; N is in range; the rows, and the set, hold no number from N up
unfoldable pub move_refusal : ℕ → List ℕ → Set → ℕ
move_refusal N rows x =
    first_failing
    (wrong_length unless eqb (length rows) 1024
    ∷ out_of_range unless in_range N
    ∷ not_sound unless sound_rows N rows
    ∷ not_sound unless sound N x
    ∷ [])
