-- What a call says that answers a set.
use Rattle.std.specs.Prelude.{ℕ, Result, ◌≡◌}
use Rattle.answers.specs.Answer.{Answer, unless_refused}
use Rattle.answers.specs.Said.{said_as}
use Rattle.answers.specs.declared.Refusal.{Refusal}
use Rattle.sets.specs.Sets.{Set}
use Rattle.sets.specs.declared.StateSet.{StateSet}

-- the set's words, or the refusal's number
abbrev pub said_set : Result StateSet Refusal → Answer Set
said_set = said_as (λ x. x.words)

-- a set, unless there is a refusal, 0 for none
pub record Answers (refusal_is : ℕ) (set_is : Set) (r : Result StateSet Refusal) : Type 0 where
  pub answer : said_set r ≡ unless_refused refusal_is set_is
