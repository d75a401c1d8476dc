-- `list` meets its contract: each answer of a run has its own call.
use borrow.Author.Rules.{rules}
use Rattle.checks.proofs.Verdicts.{safe_lists, reached_lists, unfinished_lists, refused_lists}
use Rattle.checks.proofs.list.Goals as goal

pub returns-in-Safe : goal.returns-in-Safe
returns-in-Safe c = search (safe_lists, rules)

pub returns-in-Reached : goal.returns-in-Reached
returns-in-Reached c = search (reached_lists, rules)

pub returns-in-Unfinished : goal.returns-in-Unfinished
returns-in-Unfinished c = search (unfinished_lists, rules)

pub returns-in-Err : goal.returns-in-Err
returns-in-Err c = search (refused_lists, rules)
