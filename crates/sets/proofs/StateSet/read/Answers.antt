-- `read` meets its contract: four words in one go where they are all there, else word by word, 0 past the end.
use borrow.Author.Rules.{rules}
use native.Mathlib.Nat.{add-zero}
use Rattle.sets.specs.Sets.{quad}
use Rattle.sets.proofs.StateSet.read.Goals as goal

pub returns-then-at-b : goal.returns-then-at-b
unfolding quad
returns-then-at-b c = search rules

pub returns : goal.returns
unfolding quad
returns c = rw (c.at.ensures, c.at-2.ensures, c.at-3.ensures, c.at-4.ensures, add-zero)
