-- `into` meets its contract: refused, or row t of a second table that agrees.
use borrow.Author.Rules.{rules}
use Rattle.sets.proofs.Answers.{answers_err, answers_ok}
use Rattle.sets.proofs.Words.{proper_words}
use Rattle.edits.proofs.Answered.{into-set}
use Rattle.edits.proofs.into.Goals as goal

pub returns-in_err-test_into : goal.returns-in_err-test_into
returns-in_err-test_into c = search (answers_err, rules)

pub returns : goal.returns
returns c =
    answers_ok _ _ _ c.in_ok-test_into.ensures
    (into-set _ _ _ _ c.in_ok-test_into.ensures _ c.from.ensures _ c.read.ensures (proper_words _ (search rules) (λ j. search rules)))
