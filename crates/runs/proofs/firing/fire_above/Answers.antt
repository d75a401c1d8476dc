-- `fire_above` meets its contract: two stores make the words of the next state.
use borrow.Author.Rules.{rules}
use Rattle.runs.proofs.Stores.{fired_above}
use Rattle.runs.proofs.firing.fire_above.Goals as goal

pub returns : goal.returns
returns c = search (fired_above, rules)
