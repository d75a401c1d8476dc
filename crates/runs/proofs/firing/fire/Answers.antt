-- `fire` meets its contract: one arm for each rule.
use borrow.Author.Rules.{rules}
use Rattle.runs.proofs.Steps.{fire-unfold, fire-candidate, fire-decide, fire-conflict}
use Rattle.runs.proofs.firing.fire.Goals as goal

pub fire_conflict-requires : goal.fire_conflict-requires
fire_conflict-requires c = (c.requires.holds, c.requires.held c.in-Conflict.is, c.requires.climbs)

pub returns-in-Unfold : goal.returns-in-Unfold
returns-in-Unfold c = search (fire-unfold, rules)

pub returns-in-Candidate : goal.returns-in-Candidate
returns-in-Candidate c = search (fire-candidate, rules)

pub returns-in-Decide : goal.returns-in-Decide
returns-in-Decide c = search (fire-decide, rules)

pub returns-in-Conflict : goal.returns-in-Conflict
returns-in-Conflict c = search (fire-conflict, rules)
