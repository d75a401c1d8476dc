-- `asks` meets its contract: the definition's own cases.
use Rattle.runs.proofs.Enums.{asks-is}
use Rattle.runs.proofs.Rule.asks.Goals as goal

pub returns : goal.returns
returns c = asks-is _ _ c.ne.ensures
