-- `test` meets its contract: test by test, in the order of the definition.
use borrow.Author.Rules.{rules}
use Rattle.answers.proofs.Order.{refuses, goes_on, goes_on_same, accepts}
use Rattle.moves.specs.Said.{move_refusal}
use Rattle.moves.proofs.test.Goals as goal
use Rattle.moves.proofs.test.Goals.{then-not-sound_rows-via-then-not-sound_rows, then-not-sound_rows-via-else-not-sound_rows+then-not-sound}

pub returns-then-not-in_range : goal.returns-then-not-in_range
unfolding move_refusal
returns-then-not-in_range c = search (goes_on_same, refuses, rules)

pub returns-then-not-sound_rows : goal.returns-then-not-sound_rows
unfolding move_refusal
returns-then-not-sound_rows c =
    elim c.then-not-sound_rows.branch [
      | then-not-sound_rows-via-then-not-sound_rows w ↦ search (goes_on_same, goes_on, refuses, rules)
      | then-not-sound_rows-via-else-not-sound_rows+then-not-sound w ↦ search (goes_on_same, goes_on, refuses, rules)
    ]

pub returns : goal.returns
unfolding move_refusal
returns c = search (goes_on_same, goes_on, accepts, rules)
