-- `entry::Section::entries` meets its contract: what is left to take, after the entries so far, comes to what the whole does.
use borrow.Author.Rules.{rules}
use native.Mathlib.Omega.{arith}
use Rattle.tables.proofs.Taking.{enter_begins, enter_goes, enter_stops, enter_ends, found-room}
use Rattle.tables.proofs.entry.Section.entries.Goals as goal

pub loop-i-init : goal.loop-i-init
loop-i-init c = search (enter_begins, rules)

pub returns-in_err-low : goal.returns-in_err-low
returns-in_err-low c = search (enter_stops, rules)

pub overflow_add-at : goal.overflow_add-at
overflow_add-at c = let h = found-room _ _ _ _ _ c.entry.ensures _ c.in_ok-low.was in omega arith

pub loop-i-preserved : goal.loop-i-preserved
loop-i-preserved c = search (enter_goes, rules)

pub returns : goal.returns
returns c = search (enter_ends, rules)
