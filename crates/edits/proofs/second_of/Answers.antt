-- `second_of` meets its contract: the moves of the states before s are turned.
use borrow.Author.Rules.{rules}
use Rattle.edits.proofs.Turning.{turn_begins, turn_goes, turn_ends}
use Rattle.edits.proofs.second_of.Goals as goal

pub loop-s-init : goal.loop-s-init
loop-s-init c = search (turn_begins, rules)

pub loop-s-preserved : goal.loop-s-preserved
loop-s-preserved c = search (turn_goes, rules)

pub returns : goal.returns
returns c = search (turn_ends, rules)
