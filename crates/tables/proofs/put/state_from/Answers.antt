-- `put::state_from` meets its contract: the bits of the angle, then the mode.
use borrow.Author.Rules.{rules}
use Rattle.tables.proofs.Putting.{state-is}
use Rattle.tables.proofs.put.state_from.Goals as goal

pub returns : goal.returns
returns c = search (state-is, rules)
