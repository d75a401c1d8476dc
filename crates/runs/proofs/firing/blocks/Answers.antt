-- `blocks` meets its contract: the definition's three tests.
use borrow.Author.Rules.{rules}
use Rattle.runs.proofs.Tested.{blocks-1, blocks-2, blocks-3}
use Rattle.runs.proofs.firing.blocks.Goals as goal
use Rattle.runs.proofs.firing.blocks.Goals.{then-not-within-via-then-not-within, then-not-within-via-else-not-within+then-not-within-2}

pub returns-then-not-within : goal.returns-then-not-within
returns-then-not-within c =
    elim c.then-not-within.branch [
      | then-not-within-via-then-not-within w ↦ search (blocks-1, rules)
      | then-not-within-via-else-not-within+then-not-within-2 w ↦ search (blocks-2, rules)
    ]

pub returns : goal.returns
returns c = search (blocks-3, rules)
