-- `entry::Section::taken` meets its contract: the count, then as many entries.
use borrow.Author.Rules.{rules}
use native.Mathlib.Omega.{arith}
use mathlib.Core.Path.{◌∙◌}
use Rattle.tables.proofs.Taking.{section-stops, section-goes, found-room}
use Rattle.tables.proofs.entry.Section.taken.Goals as goal

pub returns-in_err-k : goal.returns-in_err-k
returns-in_err-k c = search (section-stops, rules)

pub overflow_add-first : goal.overflow_add-first
overflow_add-first c = let h = found-room _ _ _ _ _ (c.placed.ensures ∙ c.count.ensures) _ c.in_ok-k.was in omega arith

pub returns : goal.returns
returns c = search (section-goes, rules)
