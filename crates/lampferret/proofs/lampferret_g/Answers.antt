-- `lampferret_g` meets its contract: what `g` promises of the lent words.
use Rattle.rules.specs.Table.{backward}
use Rattle.moves.specs.Said.{move_refusal}
use Rattle.lampferret.proofs.Giving.{given-of}
use Rattle.lampferret.proofs.lampferret_g.Goals as goal

pub returns : goal.returns
returns c = given-of (move_refusal _ _) (backward _ _) c.set_of.ensures c.g.ensures c.give_set.ensures
