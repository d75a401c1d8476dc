-- `below` meets its contract: each word has its ones.
use Rattle.sets.proofs.Words.{full-words}
use Rattle.sets.proofs.StateSet.below.Goals as goal

pub returns : goal.returns
returns c = full-words _ _ _ _ _ c.ones.ensures c.ones-2.ensures c.ones-3.ensures c.ones-4.ensures
