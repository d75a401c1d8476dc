-- `minus` meets its contract: word by word, `& !` goes bit by bit, so the words are those of the set.
use borrow.Author.Rules.{rules}
use Rattle.sets.proofs.Words.{proper_words, minus-words}
use Rattle.sets.proofs.StateSet.minus.Goals as goal

pub returns : goal.returns
returns c = minus-words _ _ (proper_words _ (search rules) (λ j. search rules)) (proper_words _ (search rules) (λ j. search rules))
