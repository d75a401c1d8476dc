-- The listing that `check` prints, in the order of document 01: of a refused file, of a safe run, of a reached run.
use Rattle.std.specs.Prelude.{ℕ, zero, suc, ◌+◌, cond, List, [], ◌∷◌, ◌++◌, map, eqb, leb, ℤ, pos, length, get_or, take}
use Rattle.answers.specs.Answer.{Answer, refused, given, unless_refused}
use Rattle.answers.specs.Refusals.{wrong_length, out_of_range, ◌unless◌, first_failing}
use Rattle.sets.specs.Sets.{Set, member, count}
use Rattle.turns.specs.Turn.{turn_of}
use Rattle.rules.specs.Table.{Table, move_count}
use Rattle.moves.specs.Models.{Control}
use Rattle.listings.specs.Text.{appended, text, decimal, signed_decimal, line}

-- the one line of a refused file
unfoldable pub refused_listing : ℕ → ℕ → List ℕ
refused_listing number offset = line (text "refused" ∷ decimal number ∷ text "at" ∷ decimal offset ∷ [])

-- line 1: N, starts, safe, moves
unfoldable pub model_line : Table → List ℕ
model_line t =
    line
    (text "model" ∷ decimal t.size ∷ decimal (count 256 t.starts) ∷ decimal (count 256 t.safe) ∷ decimal (move_count t.rows)
    ∷ [])

-- line 2 of a safe run: j, the count of rules, the count of members
unfoldable pub safe_line : ℕ → ℕ → Set → List ℕ
safe_line j rules x = line (text "safe" ∷ decimal j ∷ text "rules" ∷ decimal rules ∷ text "members" ∷ decimal (count 256 x) ∷ [])

-- the members below m, rising
unfoldable pub members_below : ℕ → Set → List ℕ
members_below m x = appended m (λ s. cond (member x s) (s ∷ []) [])

-- the last line of a safe run: the members, rising; blank if none
unfoldable pub members_line : Set → List ℕ
members_line x = line (map decimal (members_below 256 x))

-- the listing of a safe run
unfoldable pub safe_listing : Table → ℕ → ℕ → Set → List ℕ
safe_listing t j rules x = model_line t ++ safe_line j rules x ++ members_line x

-- line 2 of a reached run: the states in the walk, the count of rules
unfoldable pub reached_line : ℕ → ℕ → List ℕ
reached_line states rules = line (text "reached" ∷ decimal states ∷ text "rules" ∷ decimal rules ∷ [])

-- the turn shown between two angles: 0 where one of them is no angle
unfoldable pub shown : Answer ℤ → ℤ
shown (given t) = t
shown (refused n) = pos 0

-- state i of the walk, from 0
unfoldable pub state_at : List ℕ → ℕ → ℕ
state_at walk i = get_or walk i 0

-- the angle of state i of the walk: 0 for a number that is no state
unfoldable pub angle_at : List ℕ → List ℤ → ℕ → ℤ
angle_at walk angles i = get_or angles (state_at walk i) (pos 0)

-- the turn from the state before, 0 for the first
unfoldable pub turn_at : List ℕ → List ℤ → ℕ → ℤ
turn_at walk angles zero = pos 0
turn_at walk angles (suc i) = shown (turn_of (angle_at walk angles i) (angle_at walk angles (suc i)))

-- the line of state i of the walk: position from 1, state, angle, mode, turn
unfoldable pub state_line : List ℕ → List ℤ → List ℕ → ℕ → List ℕ
state_line walk angles modes i =
    line
    (decimal (i + 1) ∷ decimal (state_at walk i) ∷ signed_decimal (angle_at walk angles i) ∷ decimal (get_or modes (state_at walk i) 0)
    ∷ signed_decimal (turn_at walk angles i) ∷ [])

-- the listing of a reached run: a line for each state of the walk after the first two
unfoldable pub reached_listing : Control → ℕ → List ℕ → List ℕ
reached_listing c rules walk =
    model_line c.table ++ reached_line (length walk) rules ++ appended (length walk) (state_line walk c.angles c.modes)

-- the lent walk, angles and modes are 256, and at most 256 states of the walk count
unfoldable pub reached_refusal : List ℕ → List ℤ → List ℕ → ℕ → ℕ
reached_refusal walk angles modes states =
    first_failing
    (wrong_length unless eqb (length walk) 256
    ∷ wrong_length unless eqb (length angles) 256
    ∷ wrong_length unless eqb (length modes) 256
    ∷ out_of_range unless leb states 256
    ∷ [])

-- what there is to list of a reached run whose walk is the first `states` of a lent walk
unfoldable pub reached_wanted : Control → ℕ → List ℕ → ℕ → Answer (List ℕ)
reached_wanted c rules walk states =
    unless_refused (reached_refusal walk c.angles c.modes states) (reached_listing c rules (take states walk))
