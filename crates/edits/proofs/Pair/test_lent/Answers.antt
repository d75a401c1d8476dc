-- `test_lent` meets its contract: test by test, in the order of the definition.
use borrow.Author.Rules.{rules}
use Rattle.answers.proofs.Order.{refuses, goes_on, refuses_other, goes_on_same, accepts}
use Rattle.edits.specs.Promises.{lent_tests}
use Rattle.edits.proofs.Pair.test_lent.Goals as goal

pub returns-then-moves-ne1024 : goal.returns-then-moves-ne1024
unfolding lent_tests
returns-then-moves-ne1024 c = search (refuses_other, rules)

pub returns-then-second-ne1024 : goal.returns-then-second-ne1024
unfolding lent_tests
returns-then-second-ne1024 c = search (goes_on_same, refuses_other, rules)

pub returns-then-not-in_range : goal.returns-then-not-in_range
unfolding lent_tests
returns-then-not-in_range c = search (goes_on_same, refuses, rules)

pub returns-then-not-sound_rows : goal.returns-then-not-sound_rows
unfolding lent_tests
returns-then-not-sound_rows c = search (goes_on_same, goes_on, refuses, rules)

pub returns : goal.returns
unfolding lent_tests
returns c = search (goes_on_same, goes_on, accepts, rules)
