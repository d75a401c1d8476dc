-- `count_moves` meets its contract: the sum over the rows so far, at most 256 each.
use borrow.Author.Rules.{rules}
use Rattle.moves.proofs.Rows.{count-begins, count-goes, count-ends, count_room}
use Rattle.moves.proofs.count_moves.Goals as goal

pub loop-s-init : goal.loop-s-init
loop-s-init c = search (count-begins, rules)

pub overflow_add-total : goal.overflow_add-total
overflow_add-total c = search (count_room, rules)

pub loop-s-preserved : goal.loop-s-preserved
loop-s-preserved c = search (count-goes, rules)

pub returns : goal.returns
returns c = search (count-ends, rules)
