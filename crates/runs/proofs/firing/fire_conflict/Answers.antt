-- `fire_conflict` meets its contract. The loop meets the sets one by one; two more stores drop y_k.
use borrow.Author.Rules.{rules}
use native.Mathlib.Omega.{arith}
use Rattle.runs.proofs.Stores.{cut-begins, cut-goes, cut-ends}
use Rattle.runs.proofs.firing.fire_conflict.Goals as goal

pub loop-j-init : goal.loop-j-init
loop-j-init c = search (cut-begins, rules)

pub loop-j-preserved : goal.loop-j-preserved
loop-j-preserved c =
    cut-goes _ c.requires.0 _ _ _ _ _ _ _ c.loop-j.invariant (search rules) (omega (arith, c.requires.1))
    c.x-x.ensures c.meet.ensures c.write_x.ensures

pub returns : goal.returns
returns c = search (cut-ends, rules)
