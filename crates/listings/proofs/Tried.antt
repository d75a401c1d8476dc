-- The listing of document 01's file B, a refused line, and a safe run with no members, computed from the definitions.
use mathlib.Core.Path.{◌≡◌, refl}
use mathlib.Core.List.{[], ◌∷◌}
use lib.IntN.{pos, negsuc}
use Rattle.sets.specs.Sets.{member, bit, count, quad}
use Rattle.sets.specs.Search.{sum}
use Rattle.turns.specs.Turn.{is_angle, candidates, is_short, first_that, between, turn_of}
use Rattle.rules.specs.Table.{table, move_count}
use Rattle.moves.specs.Models.{control}
use Rattle.listings.specs.Text.{appended, text, digits, decimal, signed_decimal, spaced, parted, line}
use Rattle.listings.specs.Listing.{refused_listing, model_line, safe_line, members_below, members_line, safe_listing}
use Rattle.listings.specs.Listing.{reached_line, shown, state_at, angle_at, turn_at, state_line, reached_listing}

pub refused-line : refused_listing 5 27 ≡ text "refused 5 at 27\n"
unfolding refused_listing appended text digits decimal spaced parted line
refused-line = refl

-- what is not written of the rows, the angles and the modes is 0
pub file-b :
    reached_listing
    (control (table 3 (1 ∷ 0 ∷ 0 ∷ 0 ∷ []) (3 ∷ 0 ∷ 0 ∷ 0 ∷ []) (2 ∷ 0 ∷ 0 ∷ 0 ∷ 4 ∷ 0 ∷ 0 ∷ 0 ∷ [])) (pos 170 ∷ pos 179 ∷ negsuc 178 ∷ [])
    (0 ∷ 0 ∷ 1 ∷ []))
    11
    (0 ∷ 1 ∷ 2 ∷ [])
    ≡ text "model 3 1 2 2\nreached 3 rules 11\n1 0 170 0 0\n2 1 179 0 9\n3 2 -179 1 2\n"
unfolding reached_listing model_line reached_line state_line turn_at angle_at state_at shown
    turn_of between candidates is_short first_that is_angle move_count count sum member bit quad
    appended text digits decimal signed_decimal spaced parted line
file-b = refl

pub no_members :
    safe_listing (table 3 (0 ∷ 0 ∷ 0 ∷ 0 ∷ []) (0 ∷ 0 ∷ 0 ∷ 0 ∷ []) []) 0 2 (0 ∷ 0 ∷ 0 ∷ 0 ∷ [])
    ≡ text "model 3 0 0 0\nsafe 0 rules 2 members 0\n\n"
unfolding safe_listing model_line safe_line members_line members_below move_count count sum member bit quad appended text digits decimal spaced parted line
no_members = refl
