-- `due` meets its contract: the definition's tests, on the sets read, the last of them by g instead of f.
use borrow.Author.Rules.{rules}
use Rattle.runs.proofs.Tested.{ruled-unfold, ruled-candidate, ruled-conflict, ruled-decide}
use Rattle.runs.proofs.firing.due.Goals as goal

pub returns-then-within : goal.returns-then-within
returns-then-within c = search (ruled-unfold, rules)

pub returns-then-k-n : goal.returns-then-k-n
returns-then-k-n c = search (ruled-candidate, rules)

pub returns-then-within-2 : goal.returns-then-within-2
returns-then-within-2 c = search (ruled-conflict, rules)

pub returns : goal.returns
returns c = search (ruled-decide, rules)
