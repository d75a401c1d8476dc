-- `sound_row` meets its contract: nothing from N up in a row below N, nothing at all in one from N up.
use mathlib.Core.Path.{◌∙◌}
use borrow.Author.Tests.{lt-ltb, le-ltb}
use Rattle.rules.specs.Table.{sound_row}
use Rattle.moves.proofs.sound_row.Goals as goal

pub returns-then-s-size : goal.returns-then-s-size
unfolding sound_row
returns-then-s-size c = c.sound.ensures ∙ rw (lt-ltb _ _ c.if-s-size.true, c.read-row.ensures)

pub returns-else-s-size : goal.returns-else-s-size
unfolding sound_row
returns-else-s-size c = c.sound-else-s-size.ensures ∙ rw (le-ltb _ _ c.if-s-size.false, c.read-row.ensures)
