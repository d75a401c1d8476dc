-- `model_line` meets its contract: the fields are appended one after another.
use borrow.Author.Rules.{rules}
use Rattle.listings.specs.Text.{appended, text, spaced, parted, line}
use Rattle.listings.specs.Listing.{model_line}
use Rattle.outputs.proofs.Puts.{appends_then}
use Rattle.listings.proofs.Text.{decimal-is}
use Rattle.listings.proofs.lines.model_line.Goals as goal

pub returns : goal.returns
unfolding model_line appended text spaced parted line
returns c =
    let p = rw (decimal-is c.args.table.now.model.size (search rules)) at c.number.ensures in
    let p = appends_then p (rw (decimal-is c.count.result (search rules), c.count.ensures) at c.number-2.ensures) in
    let p = appends_then p (rw (decimal-is c.count-2.result (search rules), c.count-2.ensures) at c.number-3.ensures) in
    let p = appends_then p (rw (decimal-is c.count_moves.result (search rules), c.count_moves.ensures) at c.number-4.ensures) in
    appends_then p c.text.ensures
