-- `put::put_states` meets its contract. The invariant: the entries of the states below s are appended.
use Rattle.outputs.specs.Appends.{Appends}
use Rattle.sets.specs.Lists.{tabulate}
use Rattle.tables.specs.Format.{state, entries_bytes}
use Rattle.tables.specs.Control.{state_number}
use Rattle.tables.proofs.put.put_states.Given as goal

abbrev pub invariant-loop-s : goal.invariant-loop-s
invariant-loop-s l = Appends l.initial.out (entries_bytes state (tabulate l.s (state_number l.control.angles.now l.control.modes.now))) l.out
