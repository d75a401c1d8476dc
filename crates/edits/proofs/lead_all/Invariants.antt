-- `lead_all` meets its contract: the words of the row before q are done.
use Prim.Native.Nat.{◌-◌}
use Rattle.edits.proofs.Turning.{LeadingAll}
use Rattle.edits.proofs.lead_all.Given as goal

abbrev pub invariant-loop-q : goal.invariant-loop-q
invariant-loop-q l = LeadingAll l.initial.second l.second l.row.words l.s l.q

abbrev pub decreases-loop-q : goal.decreases-loop-q
decreases-loop-q l = 4 - l.q
