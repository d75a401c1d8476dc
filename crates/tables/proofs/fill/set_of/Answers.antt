-- `fill::set_of` meets its contract: the set of the numbers so far.
use borrow.Author.Rules.{rules}
use Rattle.tables.proofs.Filling.{gather_begins, gather_goes, gather_ends}
use Rattle.tables.proofs.fill.set_of.Goals as goal

pub loop-i-init : goal.loop-i-init
loop-i-init c = search (gather_begins, rules)

pub loop-i-preserved : goal.loop-i-preserved
loop-i-preserved c = search (gather_goes, rules)

pub returns : goal.returns
returns c = search (gather_ends, rules)
