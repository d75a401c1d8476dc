-- `full` meets its contract: an N out of range is refused; else each word has its ones.
use Rattle.sets.proofs.Answers.{answers_err, answers_ok}
use Rattle.sets.proofs.Range.{size_refused, size_taken}
use Rattle.sets.proofs.StateSet.full.Goals as goal

pub returns-then-not-in_range : goal.returns-then-not-in_range
returns-then-not-in_range c = answers_err _ _ _ (size_refused _ _ c.in_range.ensures c.if-not-in_range.true)

pub returns : goal.returns
returns c = answers_ok _ _ _ (size_taken _ _ c.in_range.ensures c.if-not-in_range.false) c.below.ensures
