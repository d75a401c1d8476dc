-- `meet` meets its contract: word by word, `&` goes bit by bit, so the words are those of the set.
use borrow.Author.Rules.{rules}
use Rattle.sets.proofs.Words.{proper_words, meet-words}
use Rattle.sets.proofs.StateSet.meet.Goals as goal

pub returns : goal.returns
returns c = meet-words _ _ (proper_words _ (search rules) (λ j. search rules)) (proper_words _ (search rules) (λ j. search rules))
