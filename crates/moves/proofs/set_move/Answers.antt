-- `set_move` meets its contract: the row of s, with u or without it, is put back.
use borrow.Author.Rules.{rules}
use Rattle.moves.proofs.Rows.{move-there, move-gone}
use Rattle.moves.proofs.set_move.Goals as goal

pub returns-then-there : goal.returns-then-there
returns-then-there c = search (move-there, rules)

pub returns-else-there : goal.returns-else-there
returns-else-there c = search (move-gone, rules)
