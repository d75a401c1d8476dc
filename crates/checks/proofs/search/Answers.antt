-- `search` meets its contract: a fresh run buffer, the run, and the listing of its answer.
use borrow.Author.Rules.{rules}
use Rattle.checks.proofs.Verdicts.{searched-lists}
use Rattle.checks.proofs.search.Goals as goal

pub returns : goal.returns
returns c = search (searched-lists, rules)
