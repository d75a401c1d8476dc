-- The code's enums and answers in the numbers and names of the definitions.
use Rattle.std.specs.Prelude.{ℕ, Bool, true, false, Result, Ok, Err}
use Rattle.answers.specs.Answer.{Answer}
use Rattle.answers.specs.Said.{said_as}
use Rattle.answers.specs.declared.Refusal.{Refusal}
use Rattle.rules.specs.Rules as rules
use Rattle.rules.specs.Rules.{safe, reached, unfinished}
use Rattle.runs.specs.declared.Outcome as outcome
use Rattle.runs.specs.declared.Rule.{Rule}
use Rattle.runs.specs.declared.Rule.TheVariants.{Unfold, Candidate, Decide, Conflict}
use Rattle.runs.specs.declared.RunAnswer.{RunAnswer}
use Rattle.runs.specs.declared.Standing as standing
use Rattle.runs.specs.declared.Standing.{Standing}

-- the published rule of each name, and back
unfoldable pub as_rule : Rule → rules.Rule
as_rule Unfold = rules.Unfold
as_rule Candidate = rules.Candidate
as_rule Decide = rules.Decide
as_rule Conflict = rules.Conflict

unfoldable pub rule_of : rules.Rule → Rule
rule_of rules.Unfold = Unfold
rule_of rules.Candidate = Candidate
rule_of rules.Decide = Decide
rule_of rules.Conflict = Conflict

-- how a run stands
abbrev pub as_standing : Standing → rules.Standing
as_standing (standing.TheVariants.Safe j) = safe j
as_standing standing.TheVariants.Reached = reached
as_standing standing.TheVariants.Unfinished = unfinished

unfoldable pub is_open : Standing → Bool
is_open (standing.TheVariants.Safe j) = false
is_open standing.TheVariants.Reached = false
is_open standing.TheVariants.Unfinished = true

-- a single rule: the rule fired, or the refusal's number
abbrev pub said_one : Result Rule Refusal → Answer rules.Rule
said_one r = said_as as_rule r

-- what a run says: safe with j, reached with the number of states, unfinished
pub data Outcome : Type 0 where
  safe_with : ℕ → Outcome
  reached_with : ℕ → Outcome
  not_ended : Outcome

abbrev pub as_outcome : outcome.Outcome → Outcome
as_outcome (outcome.TheVariants.Safe j) = safe_with j
as_outcome (outcome.TheVariants.Reached m) = reached_with m
as_outcome outcome.TheVariants.Unfinished = not_ended

-- a run: what it says, or the refusal's number
abbrev pub said : Result RunAnswer Refusal → Answer Outcome
said r = said_as (λ a. as_outcome a.outcome) r

-- .. and the numbers of rules fired, hints taken and hints used that it reports, 0 where it is refused
abbrev pub rules_of : Result RunAnswer Refusal → ℕ
rules_of (Ok a) = a.rules
rules_of (Err e) = 0

abbrev pub taken_of : Result RunAnswer Refusal → ℕ
taken_of (Ok a) = a.taken
taken_of (Err e) = 0

abbrev pub used_of : Result RunAnswer Refusal → ℕ
used_of (Ok a) = a.used
used_of (Err e) = 0
