-- The walk that a reached run shows: by its y sets, the smallest start and each time the smallest next state.
use Rattle.std.specs.Prelude.{ℕ, zero, suc, ◌-◌, not, ◌&&◌, List, [], ◌∷◌}
use Rattle.std.specs.Prelude.{Option, None, Some}
use Rattle.rules.specs.Rules.{State}
use Rattle.rules.specs.Table.{Table, leads}
use Rattle.sets.specs.Search.{least}
use Rattle.sets.specs.Sets.{Set, member}

-- what was found, or 0
unfoldable pub or_zero : Option ℕ → ℕ
or_zero (Some s) = s
or_zero None = 0

module _ (t : Table) where
  -- the smallest start outside y
  unfoldable pub first_state : Set → ℕ
  first_state y = or_zero (least t.size (λ u. member t.starts u && not (member y u)))

  -- the smallest next state by a move that lies outside y
  unfoldable pub next_state : ℕ → Set → ℕ
  next_state s y = or_zero (least t.size (λ u. leads t.rows s u && not (member y u)))

  -- m states from s on, whose place in the walk is j
  unfoldable pub walk_from : ℕ → ℕ → ℕ → (ℕ → Set) → List ℕ
  walk_from zero s j y = []
  walk_from (suc m) s j y = s ∷ walk_from m (next_state s (y (suc j))) (suc j) y

  -- n-1 states: the smallest start outside y_1, then each time the smallest next state outside the next y
  unfoldable pub shown_walk : State → List ℕ
  shown_walk s = walk_from (s.n - 1) (first_state (s.y 1)) 1 s.y
