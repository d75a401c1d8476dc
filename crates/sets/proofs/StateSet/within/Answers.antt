-- `within` meets its contract: nothing is left of the set without the other.
use Rattle.sets.proofs.Words.{within-minus}
use Rattle.sets.proofs.StateSet.within.Goals as goal

pub returns : goal.returns
returns c = within-minus _ _ _ c.minus-out.ensures
