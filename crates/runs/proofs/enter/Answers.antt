-- `enter` meets its contract: where nothing is refused, the buffer is ready.
use borrow.Author.Rules.{rules}
use Rattle.runs.proofs.Answers.{entered_ready}
use Rattle.sets.proofs.Words.{proper_words}
use Rattle.runs.proofs.enter.Goals as goal

pub returns-clause-ready : goal.returns-clause-ready
returns-clause-ready c =
    entered_ready _ _ _ (λ i. search rules)
    (proper_words _ (search rules) (λ j. search rules)) (proper_words _ (search rules) (λ j. search rules)) c.check.ensures
