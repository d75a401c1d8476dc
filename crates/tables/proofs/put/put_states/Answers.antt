-- `put::put_states` meets its contract. The invariant: the entries of the states below s are appended.
use Rattle.sets.proofs.Lists.{tabulate-none, tabulate-more}
use Rattle.tables.proofs.Putting.{enter_none, enter_one}
use Rattle.tables.proofs.put.put_states.Goals as goal

pub loop-s-init : goal.loop-s-init
loop-s-init c = rw (tabulate-none) (enter_none _ _)

pub loop-s-preserved : goal.loop-s-preserved
loop-s-preserved c = rw (tabulate-more, ← c.state_from.ensures) (enter_one _ _ _ c.loop-s.invariant _ c.put_entry.ensures)
