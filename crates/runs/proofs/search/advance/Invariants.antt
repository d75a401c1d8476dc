-- `advance` meets its contract. The loop: the whole run is the run from here, with what it has done already.
use Prim.Native.Nat.{◌-◌}
use Rattle.moves.specs.Models.{as_table}
use Rattle.rules.specs.Buffer.{decode}
use Rattle.rules.specs.Runs.{run}
use Rattle.runs.proofs.Runs.{Going}
use Rattle.runs.specs.Hints.{hints_at}
use Rattle.runs.proofs.search.advance.Given as goal

abbrev pub invariant-loop-fired : goal.invariant-loop-fired
invariant-loop-fired l =
    Going (as_table l.table) l.hints l.budget (run (as_table l.table) l.budget (hints_at l.hints 0) (decode l.initial.buf)) l.buf
    l.memo l.fired l.taken l.used l.span.from l.span.to

abbrev pub decreases-loop-fired : goal.decreases-loop-fired
decreases-loop-fired l = l.budget - l.fired
