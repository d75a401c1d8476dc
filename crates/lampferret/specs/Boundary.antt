-- What the calls for C and Rust promise: the refusal's number, 0 for none, and what each lent place holds then.
use Rattle.std.specs.Prelude.{ℕ, zero, suc, Option, None, Some, Result, Ok, Err, List, [], ◌∷◌, ◌≡◌, ℤ, length}
use Rattle.answers.specs.Answer.{Answer, refused, given}
use Rattle.answers.specs.Refusals.{no_refusal}
use Rattle.answers.specs.Said.{number_of}
use Rattle.answers.specs.declared.Refusal.{Refusal}
use Rattle.sets.specs.Sets.{Set}
use Rattle.rules.specs.Table.{Table}
use Rattle.rules.specs.Rules.{Rule, Unfold, Candidate, Decide, Conflict}
use Rattle.rules.specs.Single.{single}
use Rattle.rules.specs.Buffer.{decode}
use Rattle.runs.specs.declared.RunAnswer.{RunAnswer}
use Rattle.runs.specs.Said.{Outcome, safe_with, reached_with, not_ended, said, rules_of, taken_of, used_of}
use Rattle.entries.specs.Refusal.{entry_refusal}
use Rattle.runs.specs.Promises.{RunPromise, single_answer, single_buffer}
use Rattle.tables.specs.declared.Fault.{Fault}
use Rattle.tables.specs.declared.Reading.{Reading}
use Rattle.moves.specs.Models.{Control}
use Rattle.tables.specs.Control.{writing}
use Rattle.tables.specs.Said.{Read, length_of, put_in}
use Rattle.listings.specs.Said.{answered, written}

-- a smallest member; 256, which is no state, for the empty set
abbrev pub number : Option ℕ → ℕ
number None = 256
number (Some s) = s

-- what a lent place holds after a refusal's number: the new words for 0, else what it held
abbrev pub kept : {A : Type 0} → ℕ → A → A → A
kept zero new old = new
kept (suc k) new old = old

-- an answer's number, and what a lent place holds after it
abbrev pub refusal_of : {A : Type 0} → Answer A → ℕ
refusal_of (refused k) = k
refusal_of (given a) = no_refusal

abbrev pub placed : {A : Type 0} → Answer A → A → A
placed (refused k) old = old
placed (given a) old = a

-- an answer in a lent place
pub record Gives {A : Type 0} (a : Answer A) (old new : A) (r : ℕ) : Type 0 where
  pub refusal : r ≡ refusal_of a
  pub place : new ≡ placed a old

-- a set in a lent place
pub record SetGiven (refusal : ℕ) (set old new : Set) (r : ℕ) : Type 0 where
  pub answer : r ≡ refusal
  pub place : new ≡ kept refusal set old

-- ---- a single rule: the number of the rule fired, as document 01 numbers the rules
unfoldable pub rule_number : Rule → ℕ
rule_number Unfold = 2
rule_number Candidate = 3
rule_number Decide = 4
rule_number Conflict = 5

-- an answer's value in other words
abbrev pub in_words : {A B : Type 0} → (A → B) → Answer A → Answer B
in_words h (refused k) = refused k
in_words h (given a) = given (h a)

pub record SingleGiven (t : Table) (z : Set) (b b' : List ℕ) (old new r : ℕ) : Type 0 where
  pub answer : Gives (in_words rule_number (single_answer (entry_refusal t b) (single t (decode b) z))) old new r
  pub buffer : b' ≡ single_buffer (entry_refusal t b) (single t (decode b) z) b

-- ---- a run: 0 unfinished, 1 safe with j, 2 reached with the number of states; rules fired, hints taken, hints used
unfoldable pub outcome_words : Outcome → ℕ → ℕ → ℕ → List ℕ
outcome_words not_ended rules taken used = 0 ∷ 0 ∷ rules ∷ taken ∷ used ∷ []
outcome_words (safe_with j) rules taken used = 1 ∷ j ∷ rules ∷ taken ∷ used ∷ []
outcome_words (reached_with states) rules taken used = 2 ∷ states ∷ rules ∷ taken ∷ used ∷ []

abbrev pub answer_words : Result RunAnswer Refusal → Answer (List ℕ)
answer_words r = in_words (λ s. outcome_words s (rules_of r) (taken_of r) (used_of r)) (said r)

-- what `runs::run` answers, in words
pub record RunGiven (t : Table) (hints : List ℕ) (budget : ℕ) (b b' set set' walk walk' old new : List ℕ) (r : ℕ) : Type 0 where
  pub run : Result RunAnswer Refusal
  pub promised : RunPromise t hints budget b b' set set' walk walk' run
  pub answer : Gives (answer_words run) old new r

-- ---- what `tables::read` answers, in words: the refusal's number, 0 for none, and the byte offset, 0 for none
abbrev pub read_number : Result Reading Fault → ℕ
read_number (Ok a) = no_refusal
read_number (Err e) = number_of e.refusal

abbrev pub read_offset : Result Reading Fault → ℕ
read_offset (Ok a) = 0
read_offset (Err e) = e.offset

-- what a lent place holds after it: a part of what was read, else what it held
abbrev pub read_into : {A : Type 0} → (Reading → A) → Result Reading Fault → A → A
read_into part (Ok a) old = part a
read_into part (Err e) old = old

pub record ReadGiven (file rows rows' : List ℕ) (angles angles' : List ℤ) (modes modes' starts starts' safe safe' counts counts' : List ℕ)
    (offset' r : ℕ) : Type 0 where
  pub reading : Result Reading Fault
  pub promised : Read file rows angles modes reading rows' angles' modes'
  pub answer : r ≡ read_number reading
  pub starts_are : starts' ≡ read_into (λ a. a.model.starts.words) reading starts
  pub safe_are : safe' ≡ read_into (λ a. a.model.safe.words) reading safe
  pub counts_are : counts' ≡ read_into (λ a. a.model.size ∷ a.moves ∷ []) reading counts
  pub offset_is : offset' ≡ read_offset reading

-- ---- a file's length
pub record WriteGiven (c : Control) (out out' : List ℕ) (old new r : ℕ) : Type 0 where
  pub answer : Gives (length_of (writing c (length out))) old new r
  pub output : out' ≡ put_in (writing c (length out)) out

-- ---- a listing's length
pub record ListGiven (wanted : Answer (List ℕ)) (out out' : List ℕ) (old new r : ℕ) : Type 0 where
  pub answer : Gives (answered wanted out) old new r
  pub output : out' ≡ written wanted out
