-- `test_g` meets its contract: test by test, in the order of the definition.
use borrow.Author.Rules.{rules}
use Rattle.answers.proofs.Order.{refuses, goes_on, refused_before, accepts}
use Rattle.answers.proofs.Said.{some_number}
use Rattle.edits.specs.Promises.{g_refusal}
use Rattle.edits.proofs.Lent.{past-lent}
use Rattle.edits.proofs.Pair.test_g.Goals as goal

pub returns-in_err-test_lent : goal.returns-in_err-test_lent
unfolding g_refusal
returns-in_err-test_lent c = search (refused_before, some_number, rules)

pub returns-then-not-sound : goal.returns-then-not-sound
unfolding g_refusal
returns-then-not-sound c = search (past-lent, refuses, rules)

pub returns-then-not-agree : goal.returns-then-not-agree
unfolding g_refusal
returns-then-not-agree c = search (past-lent, goes_on, refuses, rules)

pub returns : goal.returns
unfolding g_refusal
returns c = search (past-lent, goes_on, accepts, rules)
