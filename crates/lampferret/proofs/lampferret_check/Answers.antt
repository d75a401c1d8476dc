-- `lampferret_check` meets its contract: what `check` promises.
use Rattle.lampferret.proofs.Giving.{list-given}
use Rattle.lampferret.proofs.lampferret_check.Goals as goal

pub returns : goal.returns
returns c = list-given c.check.ensures c.give.ensures
