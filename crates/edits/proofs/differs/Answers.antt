-- `differs` meets its contract: the move is looked for in row s.
use borrow.Author.Rules.{rules}
use Rattle.edits.proofs.Lent.{differs_is}
use Rattle.edits.proofs.differs.Goals as goal

pub returns : goal.returns
returns c = search (differs_is, rules)
