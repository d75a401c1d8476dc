-- `smallest` meets its contract: word by word, the lowest bit of the first word that has one.
use borrow.Author.Rules.{rules}
use Rattle.sets.proofs.Words.{smallest-0, smallest-1, smallest-2, smallest-3, smallest-nothing}
use Rattle.sets.proofs.StateSet.smallest.Goals as goal

pub returns-then-a-lt64 : goal.returns-then-a-lt64
returns-then-a-lt64 c = search (smallest-0, rules)

pub returns-then-b-lt64 : goal.returns-then-b-lt64
returns-then-b-lt64 c = search (smallest-1, rules)

pub returns-then-c-lt64 : goal.returns-then-c-lt64
returns-then-c-lt64 c = search (smallest-2, rules)

pub returns-then-d-lt64 : goal.returns-then-d-lt64
returns-then-d-lt64 c = search (smallest-3, rules)

pub returns : goal.returns
returns c = search (smallest-nothing, rules)
