-- `is_sound` meets its contract: the starts, the safe states, then the rows.
use borrow.Author.Rules.{rules}
use Rattle.moves.proofs.Rows.{unsound_starts, unsound_safe, sound-rest}
use Rattle.moves.proofs.Table.is_sound.Goals as goal

pub returns-then-not-sound : goal.returns-then-not-sound
returns-then-not-sound c = search (unsound_starts, rules)

pub returns-then-not-sound-2 : goal.returns-then-not-sound-2
returns-then-not-sound-2 c = search (unsound_safe, rules)

pub returns : goal.returns
returns c = search (sound-rest, rules)
