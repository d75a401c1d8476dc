-- `step` meets its contract: the set is chosen, and the rule due fired with it.
use borrow.Author.Rules.{rules}
use Rattle.runs.proofs.Closing.{parted-by}
use Rattle.runs.proofs.Steps.{fireable, stepped_by}
use Rattle.runs.proofs.search.step.Goals as goal

pub closing-span-requires : goal.closing-span-requires
closing-span-requires c = search (fireable, parted-by, rules)

pub fire-requires : goal.fire-requires
fire-requires c = search (fireable, rules)

pub returns : goal.returns
returns c = search (stepped_by, rules)
