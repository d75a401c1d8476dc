-- `fill::fill_modes` meets its contract: the places so far are filled.
use borrow.Author.Rules.{rules}
use native.Mathlib.Omega.{arith}
use mathlib.Core.Path.{◌∙◌}
use Rattle.tables.specs.Control.{modes_of_entries}
use Rattle.tables.proofs.Filling.{fill_begins, fill_goes, fill_ends, mode_in, mode-out}
use Rattle.tables.proofs.fill.fill_modes.Goals as goal
use Rattle.tables.proofs.fill.fill_modes.Goals.{then-i-size, else-i-size}

pub loop-i-init : goal.loop-i-init
loop-i-init c = search (fill_begins, rules)

pub loop-i-preserved : goal.loop-i-preserved
loop-i-preserved c =
    fill_goes _ _ _ _ _ _ c.loop-i.invariant c.requires.long _ (omega arith) (elim c.if-i-size.branch [
      | then-i-size w ↦ w.mode-is ∙ mode_in _ _ _ (c.type_inv.file _).fits w.if-i-size.true
      | else-i-size w ↦ w.mode-is ∙ mode-out _ _ _ w.if-i-size.false
    ])

pub returns : goal.returns
unfolding modes_of_entries
returns c = fill_ends _ _ _ _ _ _ c.loop-i.invariant c.requires.long (omega arith)
