-- `test` meets its contract: test by test, in the order of the definition.
use borrow.Author.Rules.{rules}
use Rattle.answers.proofs.Order.{refuses_other, goes_on_same, accepts}
use Rattle.listings.specs.Listing.{reached_refusal}
use Rattle.listings.proofs.Refusals.{goes_on_few}
use Rattle.listings.proofs.test.Goals as goal
use Rattle.listings.proofs.test.Goals.{then-walk-ne256-via-then-walk-ne256, then-walk-ne256-via-else-walk-ne256+then-control-ne256}
use Rattle.listings.proofs.test.Goals.{then-walk-ne256-via-else-walk-ne256+else-control-ne256+then-control-ne256-2}

pub returns-then-walk-ne256 : goal.returns-then-walk-ne256
unfolding reached_refusal
returns-then-walk-ne256 c = elim c.then-walk-ne256.branch [
  | then-walk-ne256-via-then-walk-ne256 w ↦ search (refuses_other, rules)
  | then-walk-ne256-via-else-walk-ne256+then-control-ne256 w ↦ search (goes_on_same, refuses_other, rules)
  | then-walk-ne256-via-else-walk-ne256+else-control-ne256+then-control-ne256-2 w ↦ search (goes_on_same, refuses_other, rules)
]

pub returns : goal.returns
unfolding reached_refusal
returns c = search (goes_on_same, goes_on_few, accepts, rules)
