-- `Reader::labels` meets its contract: cut short, no angle or no mode, or the state.
use borrow.Author.Rules.{rules}
use Rattle.tables.proofs.Taking.{state-short, state-out, state-taken}
use Rattle.tables.proofs.Reader.labels.Goals as goal

pub returns-then-not-has : goal.returns-then-not-has
returns-then-not-has c = search (state-short, rules)

pub returns-then-not-is_angle : goal.returns-then-not-is_angle
returns-then-not-is_angle c = search (state-out, rules)

pub returns : goal.returns
returns c = search (state-taken, rules)
