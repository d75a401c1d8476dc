-- `at` meets its contract: the word at the place, 0 past the end.
use Prim.Native.Nat.{◌+◌}
use mathlib.Core.Path.{sym}
use native.Mathlib.Omega.{arith}
use lib.ListN.{get_or-eq_default}
use Rattle.sets.proofs.word.at.Goals as goal

pub returns-else-k-b : goal.returns-else-k-b
returns-else-k-b c = sym (get_or-eq_default c.args.b.now 0 {n = c.args.at + c.args.k} (omega arith))

pub returns-else-at-b : goal.returns-else-at-b
returns-else-at-b c = sym (get_or-eq_default c.args.b.now 0 {n = c.args.at + c.args.k} (omega arith))
