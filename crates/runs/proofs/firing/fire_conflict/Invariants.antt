-- `fire_conflict` meets its contract. The loop meets the sets one by one; two more stores drop y_k.
use Prim.Native.Nat.{◌-◌}
use Rattle.runs.proofs.Stores.{Cutting}
use Rattle.runs.proofs.firing.fire_conflict.Given as goal

abbrev pub invariant-loop-j : goal.invariant-loop-j
invariant-loop-j l = Cutting l.initial.buf l.z.words l.m l.buf l.j

abbrev pub decreases-loop-j : goal.decreases-loop-j
decreases-loop-j l = l.m - l.j
