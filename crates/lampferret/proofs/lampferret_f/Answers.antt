-- `lampferret_f` meets its contract: what `f` promises of the lent words.
use Rattle.rules.specs.Table.{forward}
use Rattle.moves.specs.Said.{move_refusal}
use Rattle.lampferret.proofs.Giving.{given-of}
use Rattle.lampferret.proofs.lampferret_f.Goals as goal

pub returns : goal.returns
returns c = given-of (move_refusal _ _) (forward _ _) c.set_of.ensures c.f.ensures c.give_set.ensures
