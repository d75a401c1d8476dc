-- `conclusion` meets its contract. The loop looks for the first j that closes; then k and y_1 decide.
use Prim.Native.Nat.{◌-◌}
use Rattle.runs.proofs.Tested.{Looking}
use Rattle.runs.proofs.firing.conclusion.Given as goal

abbrev pub invariant-loop-j : goal.invariant-loop-j
invariant-loop-j l = Looking l.buf l.j-end l.x.words l.j

abbrev pub decreases-loop-j : goal.decreases-loop-j
decreases-loop-j l = l.j-end - l.j
