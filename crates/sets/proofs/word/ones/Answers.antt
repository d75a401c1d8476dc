-- `ones` meets its contract: 2 to the number of states that fall into the word, less 1.
use Prim.Native.Nat.{◌-◌, min}
use mathlib.Core.Path.{◌≡◌}
use native.Mathlib.Nat.{min-eq_left, min-eq_right, le_of_lt}
use native.Mathlib.Omega.{arith}
use lib.Pow.{pow_pos}
use Rattle.sets.proofs.Words.{one_shl}
use Rattle.sets.proofs.word.ones.Goals as goal

pub returns-then-size-from : goal.returns-then-size-from
returns-then-size-from c = let e : min (c.args.size - c.args.from) 64 ≡ 0 = omega arith in rw e

pub overflow_sub-result : goal.overflow_sub-result
overflow_sub-result c = rw (one_shl _ c.if-d-lt64.true) (pow_pos (c.args.size - c.args.from))

pub returns-then-d-lt64 : goal.returns-then-d-lt64
returns-then-d-lt64 c = rw (one_shl _ c.if-d-lt64.true, min-eq_left (le_of_lt c.if-d-lt64.true))

pub returns-else-d-lt64 : goal.returns-else-d-lt64
returns-else-d-lt64 c = rw (min-eq_right c.if-d-lt64.false)
