-- `second_of` meets its contract: the moves of the states before s are turned.
use Prim.Native.Nat.{◌-◌}
use Rattle.edits.proofs.Turning.{Turning}
use Rattle.edits.proofs.second_of.Given as goal

abbrev pub invariant-loop-s : goal.invariant-loop-s
invariant-loop-s l = Turning l.moves l.second l.size l.s

abbrev pub decreases-loop-s : goal.decreases-loop-s
decreases-loop-s l = l.size - l.s
