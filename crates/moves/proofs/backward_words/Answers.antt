-- `backward_words` meets its contract: its four words.
use borrow.Author.Rules.{rules}
use Rattle.moves.proofs.Rows.{four_words}
use Rattle.moves.proofs.backward_words.Goals as goal

pub returns : goal.returns
returns c = search (four_words, rules)
