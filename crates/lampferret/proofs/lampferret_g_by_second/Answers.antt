-- `lampferret_g_by_second` meets its contract: what `g_by_second` promises of the lent words.
use Rattle.rules.specs.Table.{backward}
use Rattle.edits.specs.Promises.{g_refusal}
use Rattle.lampferret.proofs.Giving.{given-of}
use Rattle.lampferret.proofs.lampferret_g_by_second.Goals as goal

pub returns : goal.returns
returns c = given-of (g_refusal _ _ _) (backward _ _) c.set_of.ensures c.g_by_second.ensures c.give_set.ensures
