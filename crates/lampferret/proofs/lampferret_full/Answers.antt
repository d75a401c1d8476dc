-- `lampferret_full` meets its contract: what `full` promises.
use Rattle.lampferret.proofs.Giving.{set_given}
use Rattle.lampferret.proofs.lampferret_full.Goals as goal

pub returns : goal.returns
returns c = set_given c.full.ensures c.give_set.ensures
