-- `sound_rows` meets its contract: every row is tested.
use Rattle.std.proofs.Common.{rules}
use borrow.Author.Tests.{tests}
use Rattle.rules.specs.Table.{sound_rows}
use Rattle.sets.proofs.AllIn.{all_below}
use Rattle.moves.proofs.sound_rows.Goals as goal

pub returns : goal.returns
unfolding sound_rows
returns c = all_below _ _ _ (search rules) c.all.ensures.ran (λ x b q k. search (rules, tests))
