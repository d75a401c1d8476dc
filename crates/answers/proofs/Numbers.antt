-- The names, in the order of document 01's table of refusals and then of document 02, have their numbers.
use mathlib.Core.Path.{◌≡◌, refl}
use mathlib.Core.List.{List, [], ◌∷◌}
use Prim.Native.Nat.{ℕ}
use Rattle.answers.specs.Refusals.{cut_short, out_of_range, bad_label, no_such_state, not_rising, extra_bytes, wrong_length, fails_entry, not_allowed}
use Rattle.answers.specs.Refusals.{already_concluded, no_room, short_output, not_sound, tables_disagree, nothing_to_edit}

abbrev table : List ℕ
table =
    cut_short ∷ out_of_range ∷ bad_label ∷ no_such_state ∷ not_rising ∷ extra_bytes ∷ wrong_length
    ∷ fails_entry ∷ not_allowed ∷ already_concluded ∷ no_room ∷ short_output ∷ not_sound ∷ tables_disagree ∷ nothing_to_edit ∷ []

pub numbered : table ≡ 1 ∷ 2 ∷ 3 ∷ 4 ∷ 5 ∷ 6 ∷ 7 ∷ 8 ∷ 9 ∷ 10 ∷ 11 ∷ 12 ∷ 13 ∷ 14 ∷ 15 ∷ []
numbered = refl
