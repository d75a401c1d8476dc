-- `lampferret_run` meets its contract: what `run` promises, of the table made of what is lent.
use mathlib.Core.Path.{◌∙◌}
use borrow.Author.Rules.{rules}
use Rattle.runs.specs.Said.{as_outcome}
use Rattle.lampferret.specs.Boundary.{outcome_words}
use Rattle.lampferret.proofs.Giving.{mapped, passed, run-said, run-given}
use Rattle.lampferret.proofs.lampferret_run.Goals as goal

pub returns : goal.returns
returns c =
    run-given c.table_of-table.ensures c.run-a.ensures
    (passed c.give.ensures
    (mapped (λ r. outcome_words (as_outcome r.outcome) r.rules r.taken r.used) _ _ _ (λ x y k. search rules) c.map.ensures.cases ∙ run-said _))
