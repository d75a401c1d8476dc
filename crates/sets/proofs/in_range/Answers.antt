-- `in_range` meets its contract: N is neither below 1 nor above 256.
use borrow.Author.Rules.{rules}
use Rattle.sets.proofs.Range.{range_low, range_high}
use Rattle.sets.proofs.in_range.Goals as goal

pub returns-then-size-ge1 : goal.returns-then-size-ge1
returns-then-size-ge1 c = search (range_high, rules)

pub returns-else-size-ge1 : goal.returns-else-size-ge1
returns-else-size-ge1 c = search (range_low, rules)
