-- `put::put_members` meets its contract. The invariant: the entries of the members below s are appended.
use native.Mathlib.Omega.{arith}
use Rattle.tables.proofs.Lists.{passing-none}
use Rattle.tables.proofs.Putting.{enter_none, member-in, member-out}
use Rattle.tables.proofs.put.put_members.Goals as goal
use Rattle.tables.proofs.put.put_members.Goals.{then-member, else-member}

pub loop-s-init : goal.loop-s-init
loop-s-init c = rw (passing-none) (enter_none _ _)

pub loop-s-preserved : goal.loop-s-preserved
loop-s-preserved c =
    let going = c.loop-s.invariant in
    elim c.if-member.branch [
      | then-member w ↦ rw w.out-is (member-in _ _ _ _ going _ c.member.ensures w.if-member.true _ (omega arith) w.put_entry.ensures)
      | else-member w ↦ rw w.out-is (member-out _ _ _ _ going _ c.member.ensures w.if-member.false)
    ]
