-- `put_state` meets its contract: one bit set in the word of row t that holds s.
use borrow.Author.Rules.{rules}
use mathlib.Core.Path.{refl}
use Rattle.edits.proofs.Turning.{state-put}
use Rattle.edits.proofs.put_state.Goals as goal

pub returns : goal.returns
returns c = state-put _ _ _ _ (search rules) (search rules) (search rules) refl
