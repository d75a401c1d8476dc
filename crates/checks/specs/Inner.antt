-- For the crate's own private functions, and no part of what a reader must believe: what they ask for and promise.
use Rattle.std.specs.Prelude.{ℕ, true, List, Result, Ok, Err, ◌≡◌, length}
use Rattle.answers.specs.Answer.{Answer, given}
use Rattle.answers.specs.Refusals.{no_refusal}
use Rattle.answers.specs.Said.{number_of}
use Rattle.answers.specs.declared.Refusal.{Refusal}
use Rattle.sets.specs.Sets.{Set, in_range}
use Rattle.rules.specs.Table.{sound_table}
use Rattle.moves.specs.Models.{Control}
use Rattle.runs.specs.declared.Outcome.{Outcome}
use Rattle.runs.specs.declared.Outcome.TheVariants.{Safe, Reached, Unfinished}
use Rattle.runs.specs.declared.RunAnswer.{RunAnswer}
use Rattle.listings.specs.Listing.{refused_listing, safe_listing, reached_wanted}

-- a table that was read
pub record Sought (c : Control) : Type 0 where
  pub range : in_range c.table.size ≡ true
  pub rows : length c.table.rows ≡ 1024
  pub sound : sound_table c.table ≡ true
  pub angles : length c.angles ≡ 256
  pub modes : length c.modes ≡ 256

-- what there is to list of a run that was not refused, whatever it says: the outcome, the rules fired, the set and the walk
unfoldable pub ended_wanted : Control → Outcome → ℕ → Set → List ℕ → Answer (List ℕ)
ended_wanted c (Safe j) rules set walk = given (safe_listing c.table j rules set)
ended_wanted c (Reached states) rules set walk = reached_wanted c rules walk states
ended_wanted c Unfinished rules set walk = given (refused_listing no_refusal 0)

-- .. and of any answer of `run`
unfoldable pub answer_wanted : Control → Result RunAnswer Refusal → Set → List ℕ → Answer (List ℕ)
answer_wanted c (Ok a) set walk = ended_wanted c a.outcome a.rules set walk
answer_wanted c (Err e) set walk = given (refused_listing (number_of e) 0)
