-- `text` meets its contract. The invariant: the first bytes of the text are appended.
use borrow.Author.Rules.{rules}
use Rattle.outputs.proofs.Puts.{appends_none, appends_then, take_more, take_whole}
use Rattle.outputs.proofs.Output.text.Goals as goal

pub loop-b-init : goal.loop-b-init
loop-b-init c = appends_none _

pub loop-b-preserved : goal.loop-b-preserved
loop-b-preserved c = rw (take_more c.args.t.now c.loop-b.b-index c.loop-b-test.true) (appends_then c.loop-b.invariant c.byte.ensures)

pub returns : goal.returns
returns c = search (take_whole, rules)
