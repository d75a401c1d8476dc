-- `refusals::Measured::label_at` meets its contract: the angle, then the mode.
use borrow.Author.Rules.{rules}
use Rattle.tables.proofs.Writing.{label_angle, label_mode}
use Rattle.tables.proofs.refusals.Measured.label_at.Goals as goal

pub returns-then-is_angle : goal.returns-then-is_angle
returns-then-is_angle c = search (label_mode, rules)

pub returns-else-is_angle : goal.returns-else-is_angle
returns-else-is_angle c = search (label_angle, rules)
