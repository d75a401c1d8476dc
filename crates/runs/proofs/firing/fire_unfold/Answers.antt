-- `fire_unfold` meets its contract: three stores make the words of the next state.
use borrow.Author.Rules.{rules}
use Rattle.runs.proofs.Stores.{fired_unfold}
use Rattle.runs.proofs.firing.fire_unfold.Goals as goal

pub returns : goal.returns
returns c = search (fired_unfold, rules)
