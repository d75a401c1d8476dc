-- `single` meets its contract: the entry check refuses, or `ask` answers.
use Rattle.runs.proofs.Answers.{single-refused, single-given}
use Rattle.runs.proofs.single.Goals as goal

pub returns-in_err-enter : goal.returns-in_err-enter
returns-in_err-enter c = single-refused _ _ _ _ _ _ c.from_residual.ensures c.in_err-enter.ensures.answer

pub returns : goal.returns
returns c = single-given _ _ _ _ _ _ c.in_ok-enter.ensures.answer c.ask.ensures
