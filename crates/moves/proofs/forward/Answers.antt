-- `forward` meets its contract: the rows of the members passed so far are joined.
use borrow.Author.Rules.{rules}
use Rattle.moves.proofs.Rows.{join-begins, join-in, join-out, join-ends}
use Rattle.moves.proofs.forward.Goals as goal
use Rattle.moves.proofs.forward.Goals.{then-member, else-member}

pub loop-s-init : goal.loop-s-init
loop-s-init c = search (join-begins, rules)

pub loop-s-preserved : goal.loop-s-preserved
loop-s-preserved c =
    elim c.if-member.branch [
      | then-member w ↦ join-in _ _ _ _ _ _ c.loop-s.invariant (search rules) c.member.ensures _ _ w.if-member.true w.read.ensures (cc)
      | else-member w ↦ join-out _ _ _ _ _ _ c.loop-s.invariant (search rules) c.member.ensures _ w.if-member.false (cc)
    ]

pub returns : goal.returns
returns c = search (join-ends, rules)
