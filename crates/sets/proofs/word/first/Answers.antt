-- `first` meets its contract: the trailing zeros of a word are at most 64.
use native.Mathlib.Omega.{arith}
use lib.Count.{trailing_le}
use Rattle.sets.proofs.word.first.Goals as goal

pub overflow_cast-result : goal.overflow_cast-result
overflow_cast-result c = omega (arith, trailing_le 64 c.args.w)
