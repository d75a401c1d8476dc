-- `lead_all` meets its contract: the words of the row before q are done.
use borrow.Author.Rules.{rules}
use Rattle.edits.proofs.Turning.{all_go}
use Rattle.edits.proofs.lead_all.Goals as goal

pub loop-q-preserved : goal.loop-q-preserved
loop-q-preserved c = search (all_go, rules)
