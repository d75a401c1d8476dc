-- `test_into` meets its contract: test by test, in the order of the definition.
use borrow.Author.Rules.{rules}
use Rattle.answers.proofs.Order.{refuses, goes_on, refuses_from, goes_on_below, refused_before, accepts}
use Rattle.answers.proofs.Said.{some_number}
use Rattle.edits.specs.Promises.{into_refusal}
use Rattle.edits.proofs.Lent.{past-lent}
use Rattle.edits.proofs.Pair.test_into.Goals as goal

pub returns-in_err-test_lent : goal.returns-in_err-test_lent
unfolding into_refusal
returns-in_err-test_lent c = search (refused_before, some_number, rules)

pub returns-then-not-agree : goal.returns-then-not-agree
unfolding into_refusal
returns-then-not-agree c = search (past-lent, refuses, rules)

pub returns-then-self-t : goal.returns-then-self-t
unfolding into_refusal
returns-then-self-t c = search (past-lent, goes_on, refuses_from, rules)

pub returns : goal.returns
unfolding into_refusal
returns c = search (past-lent, goes_on, goes_on_below, accepts, rules)
