-- `parts` meets its contract: every number below the bound is tested.
use Rattle.std.proofs.Common.{rules}
use borrow.Author.Tests.{tests}
use Rattle.sets.proofs.AllIn.{all_below}
use Rattle.entries.proofs.order.parts.Goals as goal

pub returns : goal.returns
returns c = all_below _ _ _ (search rules) c.all.ensures.ran (λ x b q k. search (rules, tests))
