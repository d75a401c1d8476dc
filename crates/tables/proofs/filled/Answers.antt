-- `filled` meets its contract: the parts of the file fill the parts of the table.
use borrow.Author.Rules.{rules}
use Rattle.tables.proofs.Files.{read-filled}
use Rattle.tables.proofs.filled.Goals as goal

pub returns : goal.returns
returns c = search (read-filled, rules)
