-- `ask` meets its contract: the run has concluded, there is no room, the proposal will not do, or the rule is fired.
use borrow.Author.Rules.{rules}
use Rattle.moves.specs.Models.{as_table}
use Rattle.runs.proofs.Answers.{ask_concluded, ask_full, ask_no, ask_fires, fireable_now}
use Rattle.runs.proofs.Closing.{looks_all}
use Rattle.runs.proofs.ask.Goals as goal

pub conclusion-standing-requires : goal.conclusion-standing-requires
conclusion-standing-requires c = search (looks_all, rules)

pub due-due-requires : goal.due-due-requires
due-due-requires c = (c.requires, c.new-memo.ensures (as_table c.args.table.now))

pub returns-then-not-is_open : goal.returns-then-not-is_open
returns-then-not-is_open c = search (ask_concluded, rules)

pub returns-then-lacks_room : goal.returns-then-lacks_room
returns-then-lacks_room c = search (ask_full, rules)

pub returns-then-not-takes : goal.returns-then-not-takes
returns-then-not-takes c = search (ask_no, rules)

-- the run is open, and the rule due is known
pub fire-requires : goal.fire-requires
fire-requires c = search (fireable_now, rules)

pub returns : goal.returns
returns c = search (ask_fires, rules)
