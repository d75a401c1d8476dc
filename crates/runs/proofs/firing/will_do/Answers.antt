-- `will_do` meets its contract: z is sound, and one arm for each rule.
use borrow.Author.Rules.{rules}
use mathlib.Core.Path.{sym, ◌∙◌}
use Rattle.runs.proofs.Tested.{will_not, will_unfold, will_candidate, will_decide, will_conflict, proper_prev}
use Rattle.sets.proofs.Members.{proper_sound}
use Rattle.sets.proofs.Words.{proper_words}
use Rattle.runs.proofs.firing.will_do.Goals as goal

pub returns-then-not-sound : goal.returns-then-not-sound
returns-then-not-sound c = search (will_not, rules)

-- past the soundness test: z has no members from N up
pub blocks-requires : goal.blocks-requires
blocks-requires c = (
  c.requires.ready.good,
  search (proper_prev, rules),
  proper_sound _ c.requires.ready.good.big _ (proper_words _ (search rules) (λ j. search rules)) (sym c.sound.ensures ∙ c.if-not-sound.false),
)

pub returns-in-Unfold : goal.returns-in-Unfold
returns-in-Unfold c = search (will_unfold, rules)

pub returns-in-Candidate : goal.returns-in-Candidate
returns-in-Candidate c = search (will_candidate, will_decide, rules)

pub returns-in-Conflict : goal.returns-in-Conflict
returns-in-Conflict c = search (will_conflict, rules)
