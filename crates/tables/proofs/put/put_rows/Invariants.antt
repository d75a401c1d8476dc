-- `put::put_rows` meets its contract. The invariant: the moves of the rows below `from` are appended.
use Rattle.outputs.specs.Appends.{Appends}
use Rattle.tables.specs.Format.{move, entries_bytes}
use Rattle.tables.proofs.Putting.{before}
use Rattle.tables.proofs.put.put_rows.Given as goal

abbrev pub invariant-loop-from : goal.invariant-loop-from
invariant-loop-from l = Appends l.initial.out (entries_bytes (move 0) (before l.moves l.from)) l.out
