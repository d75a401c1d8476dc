-- `members` meets its contract. The invariant: the members below s are appended.
use borrow.Author.Rules.{rules}
use Rattle.listings.proofs.Members.{below_none, below_in, below_out, below_all}
use Rattle.listings.proofs.lines.members.Goals as goal
use Rattle.listings.proofs.lines.members.Goals.{then-member, else-member}

pub loop-s-init : goal.loop-s-init
loop-s-init c = below_none _ _

-- state s is a member, or it is none
pub loop-s-preserved : goal.loop-s-preserved
loop-s-preserved c =
    elim c.if-member.branch [
      | then-member w ↦ rw (w.out-is, w.first-is) (search (below_in, rules))
      | else-member w ↦ rw (w.out-is, w.first-is) (search (below_out, rules))
    ]

pub returns : goal.returns
returns c = search (below_all, rules)
