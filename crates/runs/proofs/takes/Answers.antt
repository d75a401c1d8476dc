-- `takes` meets its contract: Unfold ignores the proposal; another rule asks whether it will do.
use borrow.Author.Rules.{rules}
use Rattle.runs.proofs.Choices.{takes-any, takes-is}
use Rattle.runs.proofs.takes.Goals as goal

pub returns-then-not-asks : goal.returns-then-not-asks
returns-then-not-asks c = search (takes-any, rules)

pub returns-else-not-asks : goal.returns-else-not-asks
returns-else-not-asks c = search (takes-is, rules)
