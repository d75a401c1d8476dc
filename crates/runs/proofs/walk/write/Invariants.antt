-- `write` meets its contract. The loop: what is left of the walk, written on what is there, is the whole walk written.
use Prim.Native.Nat.{◌-◌}
use Rattle.runs.proofs.Walks.{Walking}
use Rattle.runs.proofs.walk.write.Given as goal

abbrev pub invariant-loop-j : goal.invariant-loop-j
invariant-loop-j l = Walking l.table.moves.now l.buf l.initial.walk l.m l.initial.at l.walk l.at l.j

abbrev pub decreases-loop-j : goal.decreases-loop-j
decreases-loop-j l = l.m - l.j
