-- `backward` meets its contract: the rows of the states outside x are joined, the smallest first.
use borrow.Author.Rules.{rules}
use Rattle.edits.proofs.Leaving.{leave_begins, leave_goes, leave_fewer, leave_ends}
use Rattle.edits.proofs.backward.Goals as goal

pub loop-t-init : goal.loop-t-init
loop-t-init c = search (leave_begins, rules)

pub loop-t-smaller : goal.loop-t-smaller
loop-t-smaller c = search (leave_fewer, rules)

pub loop-t-preserved : goal.loop-t-preserved
loop-t-preserved c = search (leave_goes, rules)

pub returns : goal.returns
returns c = search (leave_ends, rules)
