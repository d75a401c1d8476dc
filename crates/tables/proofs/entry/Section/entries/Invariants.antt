-- `entry::Section::entries` meets its contract: what is left to take, after the entries so far, comes to what the whole does.
use Rattle.tables.specs.Inner.{section_named}
use Rattle.tables.proofs.Taking.{Entering}
use Rattle.tables.proofs.entry.Section.entries.Given as goal

abbrev pub invariant-loop-i : goal.invariant-loop-i
invariant-loop-i l = Entering (section_named l.self l.size).kind l.file l.start.at l.k l.at l.low l.i
