-- The script is read until its buffer is full, so each read leaves less room.
use Rattle.std.proofs.Common.{◌-◌, ◌≤◌}
use Rattle.tried.proofs.main.Given as goal

abbrev pub invariant-loop-n : goal.invariant-loop-n
invariant-loop-n l = l.done ≤ 32768

abbrev pub decreases-loop-n : goal.decreases-loop-n
decreases-loop-n l = 32768 - l.done
