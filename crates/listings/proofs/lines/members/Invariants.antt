-- `members` meets its contract. The invariant: the members below s are appended.
use Rattle.listings.proofs.Members.{Below}
use Rattle.listings.proofs.lines.members.Given as goal

abbrev pub invariant-loop-s : goal.invariant-loop-s
invariant-loop-s l = Below l.x.words l.initial.out l.s l.out l.first
