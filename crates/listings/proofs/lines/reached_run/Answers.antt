-- `reached_run` meets its contract: the lines are appended one after another.
use borrow.Author.Rules.{rules}
use Rattle.listings.specs.Listing.{reached_listing}
use Rattle.outputs.proofs.Puts.{appends_then}
use Rattle.listings.proofs.lines.reached_run.Goals as goal

pub returns : goal.returns
unfolding reached_listing
returns c = search (appends_then, rules)
