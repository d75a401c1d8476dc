-- `put::put_rows` meets its contract. The invariant: the moves of the rows below `from` are appended.
use mathlib.Core.Path.{◌≡◌, ap, ◌∙◌}
use Rattle.rules.specs.Table.{row}
use Rattle.tables.proofs.Lists.{passing-none}
use Rattle.tables.proofs.Putting.{enter_none, enter_more, rows_more}
use Rattle.tables.proofs.put.put_rows.Goals as goal

pub loop-from-init : goal.loop-from-init
loop-from-init c = rw (passing-none) (enter_none _ _)

pub loop-from-preserved : goal.loop-from-preserved
loop-from-preserved c =
    let row_is : c.read-row.result.words ≡ row c.args.moves.now c.loop-from.from = c.read-row.ensures ∙ ap (row c.args.moves.now) c.from.ensures in
    rw (rows_more c.args.moves.now c.loop-from.from, ← row_is) (enter_more _ _ _ c.loop-from.invariant _ c.put_members.ensures)
