-- `Reader::count` meets its contract: cut short, out of range, or the count.
use borrow.Author.Rules.{rules}
use Rattle.tables.proofs.Taking.{count-short, count-out, count-taken}
use Rattle.tables.proofs.Reader.count.Goals as goal

pub returns-then-not-has : goal.returns-then-not-has
returns-then-not-has c = search (count-short, rules)

pub returns-then-number-low : goal.returns-then-number-low
returns-then-number-low c = search (count-out, rules)

pub returns : goal.returns
returns c = search (count-taken, rules)
