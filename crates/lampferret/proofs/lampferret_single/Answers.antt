-- `lampferret_single` meets its contract: what `single` promises, of the table made of what is lent.
use mathlib.Core.Path.{◌∙◌}
use borrow.Author.Rules.{rules}
use Rattle.runs.specs.Said.{as_rule}
use Rattle.lampferret.specs.Boundary.{rule_number}
use Rattle.lampferret.proofs.Giving.{mapped, passed, rule-said, single-given}
use Rattle.lampferret.proofs.lampferret_single.Goals as goal

pub returns : goal.returns
returns c =
    single-given c.table_of-table.ensures c.set_of.ensures c.single-a.ensures
    (passed c.give.ensures (mapped (λ r. rule_number (as_rule r)) _ _ _ (λ x y k. search rules) c.map.ensures.cases ∙ rule-said _))
