-- `Reader::pair` meets its contract: cut short, no such state, not rising, or the move.
use borrow.Author.Rules.{rules}
use Rattle.tables.proofs.Taking.{move-short, move-no_state, move-falls, move_taken}
use Rattle.tables.proofs.Reader.pair.Goals as goal

pub returns-then-not-has : goal.returns-then-not-has
returns-then-not-has c = search (move-short, rules)

pub returns-then-size-from : goal.returns-then-size-from
returns-then-size-from c = search (move-no_state, rules)

pub returns-then-number-low : goal.returns-then-number-low
returns-then-number-low c = search (move-falls, rules)

pub returns : goal.returns
returns c = search (move_taken, rules)
