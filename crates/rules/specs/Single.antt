-- A single rule, asked for with one proposed set: 10, 11, 9, or the rule fired and the state after it.
use Rattle.std.specs.Prelude.{Bool, true, false, not, ◌||◌}
use Rattle.answers.specs.Answer.{Answer, refused, given}
use Rattle.answers.specs.Refusals.{already_concluded, no_room, not_allowed}
use Rattle.sets.specs.Sets.{Set}
use Rattle.rules.specs.Table.{Table}
use Rattle.rules.specs.Rules as rules
use Rattle.rules.specs.Rules.{State, Rule, safe, reached, unfinished, conclusion, due, fire}
use Rattle.rules.specs.Runs.{asks, will_do, lacks_room}

-- the rule fired, and the state after it
pub record Fired : Type 0 where
  pub rule : Rule
  pub state : State

module _ (t : Table) where
  -- Unfold ignores the proposal
  unfoldable pub takes : State → Set → Bool
  takes s z = not (asks (due t s)) || will_do t s z

  unfoldable pub single : State → Set → Answer Fired
  single s z =
      elim (conclusion t s) [
        | safe j ↦ refused already_concluded
        | reached ↦ refused already_concluded
        | rules.no_room ↦ refused already_concluded
        | unfinished ↦ elim (lacks_room t s) [
          | true ↦ refused no_room
          | false ↦ elim (takes s z) [
            | true ↦ given (record { rule = due t s; state = fire t.size (due t s) s z })
            | false ↦ refused not_allowed
          ]
        ]
      ]
