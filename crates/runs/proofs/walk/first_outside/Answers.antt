-- `first_outside` meets its contract: what `smallest` found, or 0.
use borrow.Author.Rules.{rules}
use Rattle.runs.proofs.Walks.{outside_by}
use Rattle.runs.proofs.walk.first_outside.Goals as goal

pub returns : goal.returns
returns c = search (outside_by, rules)
