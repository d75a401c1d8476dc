-- `fill::fill_moves` meets its contract: the table of the moves so far.
use borrow.Author.Rules.{rules}
use mathlib.Core.Path.{◌∙◌}
use Rattle.tables.proofs.Filling.{zeros-none, add_begins, add_goes, add_ends}
use Rattle.tables.proofs.fill.fill_moves.Goals as goal

pub loop-i-init : goal.loop-i-init
loop-i-init c = add_begins _ _ _ _ (c.fill.ensures.after (λ y e. e) ∙ zeros-none _ c.requires.long)

pub loop-i-preserved : goal.loop-i-preserved
loop-i-preserved c = search (add_goes, rules)

pub returns : goal.returns
returns c = search (add_ends, rules)
