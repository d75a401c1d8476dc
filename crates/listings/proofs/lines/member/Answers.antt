-- `member` meets its contract: the first member has no space before it.
use borrow.Author.Rules.{rules}
use Rattle.listings.specs.Inner.{gap}
use Rattle.listings.proofs.Text.{decimal-is}
use Rattle.listings.proofs.lines.member.Goals as goal
use Rattle.listings.proofs.lines.member.Goals.{then-first, else-first}

pub returns : goal.returns
unfolding gap
returns c = elim c.if-first.branch [
  | then-first w ↦ rw w.if-first.true (rw (w.space-is, decimal-is c.args.s (search rules)) at c.number.ensures)
  | else-first w ↦ rw w.if-first.false (rw (w.space-is, decimal-is c.args.s (search rules)) at c.number.ensures)
]
