-- The rows of specs/Tried.antt compute.
use Prim.Native.Nat.{ℕ}
use mathlib.Core.Bool.{true}
use mathlib.Core.List.{List, [], ◌∷◌}
use mathlib.Core.Path.{◌≡◌, refl, sym, ap, ◌∙◌}
use Rattle.sets.specs.Search.{or_else, least, found, any, all}
use Rattle.sets.specs.Lists.{tabulate}
use Rattle.sets.specs.Sets.{bit, member, pack, word_of, set_of, empty, full, within, sound, meet, with, quad}
use Rattle.turns.specs.Turn.{is_angle, candidates, is_short, half_turn, first_that, between, turn_of}
use Rattle.rules.specs.Table.{leads, with_move, forward, backward}
use Rattle.tables.proofs.Filling.{rows_none, rows_more}
use Rattle.tables.specs.Control.{rows_of_entries, set_of_entries, control_of}
use Rattle.tables.specs.Format.{bits16, signed, state_entry, move_entry, Contents, taken, and_then, entry, entries, section, past, ending, contents}
use Rattle.tables.specs.Lists.{among}
use Rattle.runs.specs.Hints.{hints_from}
use Rattle.rules.specs.Rules.{put, cut, concludes, fresh_of, closes, conclusion_of, due, allowed, house, fire}
use Rattle.rules.specs.Runs.{asks, offered, pick, stop, after, will_do, choose, next, lacks_room_for, run}
use Rattle.rules.specs.ShownWalk.{or_zero, first_state, next_state, walk_from, shown_walk}
use Rattle.checks.specs.Tried.{one_word, B, file_b, table_in, reason_of, seen, Rows}

-- what the sections of file B hold
abbrev held_b : Contents
held_b = record { states = 43520 ∷ 45824 ∷ 16731393 ∷ []; starts = 0 ∷ []; safe = 0 ∷ 1 ∷ []; moves = 1 ∷ 65538 ∷ [] }

reads_b : contents file_b ≡ taken held_b
unfolding contents section entries entry and_then past ending bits16 state_entry move_entry signed is_angle
reads_b = refl

-- its moves, one by one, from no moves
rows_b : rows_of_entries (1 ∷ 65538 ∷ []) ≡ B.rows
unfolding with_move with quad tabulate member bit pack word_of set_of
rows_b =
    sym (rows_more (1 ∷ []) 65538)
    ∙ ap (λ (r : List ℕ). with_move r 1 2 true) (sym (rows_more [] 1) ∙ ap (λ (r : List ℕ). with_move r 0 1 true) (sym rows_none))

table-b : (control_of held_b).table ≡ B
unfolding control_of set_of_entries among set_of word_of pack
table-b = λ i. record { size = 3; starts = one_word 1; safe = one_word 3; rows = rows_b i }

file-b : table_in file_b ≡ taken B
unfolding table_in and_then
file-b = rw reads_b (ap taken table-b)

pub rows : Rows
unfolding or_else least found any all bit member pack word_of set_of empty full within sound meet quad is_angle candidates is_short half_turn
    first_that between turn_of leads forward backward put cut concludes fresh_of closes conclusion_of due allowed house fire asks offered pick stop after
    or_zero will_do choose next lacks_room_for run first_state next_state walk_from shown_walk reason_of seen hints_from
rows = (file-b, refl, refl, refl, refl, refl, refl, refl, refl, refl, refl, refl, refl)
