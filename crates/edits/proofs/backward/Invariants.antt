-- `backward` meets its contract: the rows of the states outside x are joined, the smallest first.
use Rattle.sets.specs.Sets.{count}
use Rattle.edits.proofs.Leaving.{Leaving}
use Rattle.edits.proofs.backward.Given as goal

abbrev pub invariant-loop-t : goal.invariant-loop-t
invariant-loop-t l = Leaving l.second l.initial.rest.words l.out.words l.rest.words

abbrev pub decreases-loop-t : goal.decreases-loop-t
decreases-loop-t l = count 256 l.rest.words
