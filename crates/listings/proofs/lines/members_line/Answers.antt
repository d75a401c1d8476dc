-- `members_line` meets its contract: the newline is appended after the members.
use borrow.Author.Rules.{rules}
use Rattle.listings.specs.Text.{line}
use Rattle.listings.specs.Listing.{members_line}
use Rattle.outputs.proofs.Puts.{appends_then}
use Rattle.listings.proofs.lines.members_line.Goals as goal

pub returns : goal.returns
unfolding members_line line
returns c = search (appends_then, rules)
