-- `run` meets its contract: a length is wrong, the entry check refuses, or the rules are run.
use mathlib.Core.Path.{refl, sym, ◌∙◌}
use Rattle.answers.specs.declared.Refusal.TheVariants.{WrongLength}
use Rattle.runs.proofs.Answers.{run-refused, run-given, run-wrong, run-right, lengths_set, lengths_walk}
use Rattle.runs.proofs.run.Goals as goal

pub returns-then-not-lengths : goal.returns-then-not-lengths
returns-then-not-lengths c =
    run-refused _ _ _ _ _ _ WrongLength _ (refl, refl) (run-wrong _ _ _ _ _ _ c.lengths.ensures c.if-not-lengths.true)

pub returns-in_err-enter : goal.returns-in_err-enter
returns-in_err-enter c =
    run-refused _ _ _ _ _ _ _ _ c.from_residual.ensures
    (run-right _ _ _ _ _ _ c.lengths.ensures c.if-not-lengths.false _ c.in_err-enter.ensures.answer)

-- nothing is refused: the lengths are right
pub go-requires : goal.go-requires
go-requires c =
    let fit = sym c.lengths.ensures ∙ c.if-not-lengths.false in
    (c.in_ok-enter.ensures.ready, lengths_set _ _ _ fit, lengths_walk _ _ _ fit)

pub returns : goal.returns
returns c =
    run-given _ _ _ _ _ _ _ _ _ _ (run-right _ _ _ _ _ _ c.lengths.ensures c.if-not-lengths.false _ c.in_ok-enter.ensures.answer) c.go.ensures
