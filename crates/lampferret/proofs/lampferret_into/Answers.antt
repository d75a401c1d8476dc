-- `lampferret_into` meets its contract: what `into` promises.
use Rattle.lampferret.proofs.Giving.{set_given}
use Rattle.lampferret.proofs.lampferret_into.Goals as goal

pub returns : goal.returns
returns c = set_given c.into.ensures c.give_set.ensures
