-- `test_edit` meets its contract: test by test, in the order of the definition.
use borrow.Author.Rules.{rules}
use Rattle.answers.proofs.Order.{refuses, goes_on, refuses_from, goes_on_below, refused_before, accepts}
use Rattle.answers.proofs.Said.{some_number}
use Rattle.edits.specs.Promises.{edit_refusal}
use Rattle.edits.proofs.Lent.{past-lent}
use Rattle.edits.proofs.Pair.test_edit.Goals as goal

pub returns-in_err-test_lent : goal.returns-in_err-test_lent
unfolding edit_refusal
returns-in_err-test_lent c = search (refused_before, some_number, rules)

pub returns-then-not-agree : goal.returns-then-not-agree
unfolding edit_refusal
returns-then-not-agree c = search (past-lent, refuses, rules)

pub returns-then-self-s : goal.returns-then-self-s
unfolding edit_refusal
returns-then-self-s c = search (past-lent, goes_on, refuses_from, rules)

pub returns-then-self-t : goal.returns-then-self-t
unfolding edit_refusal
returns-then-self-t c = search (past-lent, goes_on, goes_on_below, refuses_from, rules)

pub returns-then-not-differs : goal.returns-then-not-differs
unfolding edit_refusal
returns-then-not-differs c = search (past-lent, goes_on, goes_on_below, refuses, rules) depth 9

pub returns : goal.returns
unfolding edit_refusal
returns c = search (past-lent, goes_on, goes_on_below, accepts, rules) depth 9
