-- `refusals::Measured::clear_at` meets its contract: below N nothing is asked; from N up the angle, then the mode.
use borrow.Author.Rules.{rules}
use Rattle.tables.proofs.Writing.{clear_below, clear_angle, clear_mode}
use Rattle.tables.proofs.refusals.Measured.clear_at.Goals as goal

pub returns-then-s-from : goal.returns-then-s-from
returns-then-s-from c = search (clear_below, rules)

pub returns-then-control-s-eq0 : goal.returns-then-control-s-eq0
returns-then-control-s-eq0 c = search (clear_mode, rules)

pub returns-else-control-s-eq0 : goal.returns-else-control-s-eq0
returns-else-control-s-eq0 c = search (clear_angle, rules)
