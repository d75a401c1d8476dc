-- `refusals::Measured::clear_past` meets its contract: every place is tested.
use Rattle.std.proofs.Common.{rules}
use borrow.Author.Tests.{tests}
use Rattle.sets.proofs.AllIn.{all_below}
use Rattle.tables.specs.Control.{clear_past}
use Rattle.tables.proofs.refusals.Measured.clear_past.Goals as goal

pub returns : goal.returns
unfolding clear_past
returns c = all_below _ _ _ (search rules) c.all.ensures.ran (λ x b q k. search (rules, tests))
