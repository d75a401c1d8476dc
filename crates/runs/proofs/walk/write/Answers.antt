-- `write` meets its contract. The loop: what is left of the walk, written on what is there, is the whole walk written.
use borrow.Author.Rules.{rules}
use mathlib.Core.Path.{refl}
use Rattle.runs.proofs.Walks.{walk_begins, walk_on, walk_last, walk_ends}
use Rattle.runs.proofs.walk.write.Goals as goal
use Rattle.runs.proofs.walk.write.Goals.{then-j-m, else-j-m}

pub loop-j-init : goal.loop-j-init
loop-j-init c = search (walk_begins, rules)

-- the next state was looked for, in w, or there is none
pub loop-j-preserved : goal.loop-j-preserved
loop-j-preserved c =
    elim c.if-j-m.branch [
      | then-j-m w ↦ walk_on _ _ _ _ _ _ _ _ c.loop-j.invariant c.loop-j-test.true _ _ _ _ w.at-is c.requires.2 refl w.if-j-m.true
          w.read-row.ensures w.y-then-j-m.ensures w.first_outside-at-then-j-m.ensures
      | else-j-m w ↦ search (walk_last, rules)
    ]

pub returns : goal.returns
returns c = search (walk_ends, rules)
