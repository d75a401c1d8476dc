-- `untouched` meets its contract: the chain rises, so what x_(k-1) is within holds the x below it.
use borrow.Author.Rules.{rules}
use Rattle.runs.proofs.Closing.{untouched_by}
use Rattle.runs.proofs.firing.untouched.Goals as goal

pub returns-then-within : goal.returns-then-within
returns-then-within c = search (untouched_by, rules)
