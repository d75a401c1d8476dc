-- `backward_word` meets its contract. The loop adds one bit for each state of the word.
use borrow.Author.Rules.{rules}
use native.Mathlib.Omega.{arith}
use Rattle.moves.proofs.Rows.{pack-begins, pack-goes, pack-ends}
use Rattle.moves.proofs.backward_word.Goals as goal

pub loop-k-init : goal.loop-k-init
loop-k-init c = search (pack-begins, rules)

pub loop-k-preserved : goal.loop-k-preserved
loop-k-preserved c =
    pack-goes _ _ _ _ c.loop-k.invariant (omega arith) (omega arith) (omega arith) c.read-row.ensures c.within.ensures c.from.ensures

pub returns : goal.returns
returns c = pack-ends _ _ _ _ _ _ _ c.loop-k.invariant (omega arith) (omega arith)
