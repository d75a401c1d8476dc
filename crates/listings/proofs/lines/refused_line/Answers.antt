-- `refused_line` meets its contract: the fields are appended one after another.
use borrow.Author.Rules.{rules}
use Rattle.listings.specs.Text.{appended, text, spaced, parted, line}
use Rattle.listings.specs.Listing.{refused_listing}
use Rattle.outputs.proofs.Puts.{appends_then}
use Rattle.listings.proofs.Text.{decimal-is}
use Rattle.listings.proofs.lines.refused_line.Goals as goal

pub returns : goal.returns
unfolding refused_listing appended text spaced parted line
returns c =
    let p = appends_then (rw (decimal-is c.args.number (search rules)) at c.number.ensures) c.text.ensures in
    appends_then (appends_then p (rw (decimal-is c.args.offset (search rules)) at c.number-2.ensures)) c.text-2.ensures
