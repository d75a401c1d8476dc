-- `write` meets its contract: four stores where they fit, else word by word as far as the list goes.
use borrow.Author.Rules.{rules}
use native.Mathlib.Omega.{arith}
use lib.ListN.{length-set}
use Rattle.sets.proofs.Words.{sets_four, write_begins, write_off, write_out, write_goes, write_ends}
use Rattle.sets.proofs.StateSet.write.Goals as goal
use Rattle.sets.proofs.StateSet.write.Goals.{then-b-at-via-then-b-at, then-b-at-via-else-b-at+then-b-at-2}

pub bounds-b-at-then-at-b : goal.bounds-b-at-then-at-b
bounds-b-at-then-at-b c = simp length-set (omega arith)

pub bounds-b-at-then-at-b-2 : goal.bounds-b-at-then-at-b-2
bounds-b-at-then-at-b-2 c = simp length-set (omega arith)

pub bounds-b-at-then-at-b-3 : goal.bounds-b-at-then-at-b-3
bounds-b-at-then-at-b-3 c = simp length-set (omega arith)

pub shape_of-b-then-at-b : goal.shape_of-b-then-at-b
shape_of-b-then-at-b c = simp length-set

pub returns-then-at-b : goal.returns-then-at-b
returns-then-at-b c = search (sets_four, rules)

pub loop-k-init : goal.loop-k-init
loop-k-init c = search (write_begins, rules)

pub returns-then-b-at : goal.returns-then-b-at
returns-then-b-at c =
    elim c.then-b-at.branch [
      | then-b-at-via-then-b-at w ↦ search (write_off, rules)
      | then-b-at-via-else-b-at+then-b-at-2 w ↦ search (write_out, rules)
    ]

pub loop-k-preserved : goal.loop-k-preserved
loop-k-preserved c = search (write_goes, rules)

pub returns : goal.returns
returns c = search (write_ends, rules)
