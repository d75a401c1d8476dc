-- The section of a number is that of the definition, case by case.
use borrow.Author.Rules.{rules}
use Rattle.tables.specs.Format.{section_number}
use Rattle.tables.proofs.Taking.{number_other}
use Rattle.tables.proofs.entry.SectionFromUsize.from.Goals as goal

pub returns-in-1 : goal.returns-in-1
unfolding section_number
returns-in-1 c size = rw c.in-1.is

pub returns-in-3 : goal.returns-in-3
unfolding section_number
returns-in-3 c size = rw c.in-3.is

pub returns-in-4 : goal.returns-in-4
unfolding section_number
returns-in-4 c size = rw c.in-4.is

pub returns-in_default : goal.returns-in_default
returns-in_default c = search (number_other, rules)
