-- `Reader::number` meets its contract: cut short, no such state, not rising, or the number.
use borrow.Author.Rules.{rules}
use Rattle.tables.proofs.Taking.{number_short, number-no_state, number-falls, number-taken}
use Rattle.tables.proofs.Reader.number.Goals as goal

pub returns-then-not-has : goal.returns-then-not-has
returns-then-not-has c = search (number_short, rules)

pub returns-then-size-state : goal.returns-then-size-state
returns-then-size-state c = search (number-no_state, rules)

pub returns-then-state-low : goal.returns-then-state-low
returns-then-state-low c = search (number-falls, rules)

pub returns : goal.returns
returns c = search (number-taken, rules)
