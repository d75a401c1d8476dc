-- `write` meets its contract: four stores where they fit, else word by word as far as the list goes.
use Rattle.sets.proofs.Words.{Writing}
use Rattle.sets.proofs.StateSet.write.Given as goal

abbrev pub invariant-loop-k : goal.invariant-loop-k
invariant-loop-k l = Writing l.initial.b l.at l.self.words l.b l.k
