-- `closing` meets its contract: one arm for each rule, two for Conflict.
use borrow.Author.Rules.{rules}
use Rattle.runs.proofs.Closing.{closing_unfold, closing_candidate, closing_decide, closing_conflict}
use Rattle.runs.proofs.firing.closing.Goals as goal

pub returns-in-Unfold : goal.returns-in-Unfold
returns-in-Unfold c = search (closing_unfold, rules)

pub returns-in-Candidate : goal.returns-in-Candidate
returns-in-Candidate c = search (closing_candidate, closing_decide, rules)

pub returns-in-Conflict : goal.returns-in-Conflict
returns-in-Conflict c = search (closing_conflict, rules)
