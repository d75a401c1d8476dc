-- `finish` meets its contract: one arm for each way that the run stands.
use borrow.Author.Rules.{rules}
use native.Mathlib.Omega.{arith}
use Rattle.runs.proofs.Answers.{safe_below, reached_few, reached_held, finish_safe, finish_reached, finish_open}
use Rattle.runs.proofs.finish.Goals as goal

pub x-requires : goal.x-requires
x-requires c = omega (arith, safe_below _ _ _ c.requires.ready c.requires.stands _ c.in-Safe.is, c.requires.ready.spans.room)

pub write-requires-in-Reached : goal.write-requires-in-Reached
write-requires-in-Reached c = search (reached_few, reached_held, rules)

pub returns-in-Safe : goal.returns-in-Safe
returns-in-Safe c = search (finish_safe, rules)

pub returns-in-Reached : goal.returns-in-Reached
returns-in-Reached c = search (finish_reached, rules)

pub returns-in-Unfinished : goal.returns-in-Unfinished
returns-in-Unfinished c = search (finish_open, rules)
