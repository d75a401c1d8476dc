-- `lead_in` meets its contract: the bits of w, lowest first, until none is left.
use Rattle.edits.proofs.Turning.{Leading}
use Rattle.edits.proofs.lead_in.Given as goal

abbrev pub invariant-loop-rest : goal.invariant-loop-rest
invariant-loop-rest l = Leading l.initial.second l.second l.w l.q l.s l.rest

abbrev pub decreases-loop-rest : goal.decreases-loop-rest
decreases-loop-rest l = l.rest
