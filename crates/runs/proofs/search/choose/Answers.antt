-- `choose` meets its contract: no hint is asked for, none is left, the hint will do, or it will not.
use borrow.Author.Rules.{rules}
use Rattle.runs.proofs.Choices.{chose_calm, chose_dry, chose_hint, chose_house}
use Rattle.runs.proofs.search.choose.Goals as goal
use Rattle.runs.proofs.search.choose.Goals.{then-not-asks-via-then-not-asks, then-not-asks-via-else-not-asks+then-hints-at}

pub returns-then-not-asks : goal.returns-then-not-asks
returns-then-not-asks c =
    elim c.then-not-asks.branch [
      | then-not-asks-via-then-not-asks w ↦ search (chose_calm, rules)
      | then-not-asks-via-else-not-asks+then-hints-at w ↦ search (chose_dry, rules)
    ]

pub returns-then-will_do : goal.returns-then-will_do
returns-then-will_do c = search (chose_hint, rules)

pub returns : goal.returns
returns c = search (chose_house, rules)
