-- `lacks_room` meets its contract: the definition's two tests.
use borrow.Author.Rules.{rules}
use Rattle.runs.proofs.Enums.{room-no, room-is}
use Rattle.runs.proofs.search.lacks_room.Goals as goal

pub returns-then-not-asks : goal.returns-then-not-asks
returns-then-not-asks c = search (room-is, rules)

pub returns-else-not-asks : goal.returns-else-not-asks
returns-else-not-asks c = search (room-no, rules)
