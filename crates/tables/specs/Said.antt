-- What the code's answers say, in document 01's numbers and values, and the promises of the public calls.
use Rattle.std.specs.Prelude.{ℕ, List, ◌≡◌, ℤ, length, Result, Ok, Err}
use Rattle.std.proofs.lemmas.List.Edits.{sets}
use Rattle.answers.specs.Answer.{Answer, refused, given}
use Rattle.answers.specs.Said as answer
use Rattle.answers.specs.declared.Refusal.{Refusal}
use Rattle.sets.specs.Sets.{Set}
use Rattle.tables.specs.Format.{Section, Contents, Taken, refused_at, taken, and_then, section, past}
use Rattle.moves.specs.Models.{Control}
use Rattle.tables.specs.Control.{control_of, reading, writing}
use Rattle.tables.specs.declared.Taken as took
use Rattle.tables.specs.declared.Fault.{Fault}
use Rattle.tables.specs.declared.Reading.{Reading}

-- ---- taking
-- the value in the words of a definition; a refusal's number and the byte offset
abbrev pub said_as : {A B : Type 0} → (A → B) → Result A Fault → Taken B
said_as f (Ok a) = taken (f a)
said_as f (Err e) = refused_at (answer.number_of e.refusal) e.offset

-- a number and the place past it
abbrev pub said : Result took.Taken Fault → Taken (ℕ × ℕ)
said = said_as (λ t. (t.number, t.next))

-- how many entries a section has, and the place past it
unfoldable pub section_step : Section → List ℕ → ℕ → Taken (ℕ × ℕ)
section_step S b at = and_then (section S b at) (λ vs. taken (length vs, past S.kind at vs))

-- ---- reading
-- N, the starts, the safe states and the number of moves of a table that was read, and of a file's contents
abbrev pub said_reading : Result Reading Fault → Taken (ℕ × Set × Set × ℕ)
said_reading = said_as (λ r. (r.model.size, r.model.starts.words, r.model.safe.words, r.moves))

abbrev pub read_of : Contents → ℕ × Set × Set × ℕ
read_of l = ((control_of l).table.size, (control_of l).table.starts, (control_of l).table.safe, length l.moves)

-- what was taken, or something else where it was refused
abbrev pub if_taken : {A B : Type 0} → Taken A → (A → B) → B → B
if_taken (refused_at k at) h other = other
if_taken (taken a) h other = h a

-- the promise of `read`: of a file and three buffers, what it answers and what they hold then
pub record Read (file rows : List ℕ) (angles : List ℤ) (modes : List ℕ) (r : Result Reading Fault) (rows' : List ℕ) (angles' : List ℤ) (modes' : List ℕ)
    : Type 0 where
  pub answer : said_reading r ≡ and_then (reading file rows angles modes) (λ l. taken (read_of l))
  pub filled_rows : rows' ≡ if_taken (reading file rows angles modes) (λ l. (control_of l).table.rows) rows
  pub filled_angles : angles' ≡ if_taken (reading file rows angles modes) (λ l. (control_of l).angles) angles
  pub filled_modes : modes' ≡ if_taken (reading file rows angles modes) (λ l. (control_of l).modes) modes

-- ---- writing
-- the file's length, or a refusal's number
abbrev pub said_written : Result ℕ Refusal → Answer ℕ
said_written = answer.said

abbrev pub length_of : Answer (List ℕ) → Answer ℕ
length_of (refused k) = refused k
length_of (given b) = given (length b)

-- the output with the file at its front; a refused writing changes nothing
abbrev pub put_in : Answer (List ℕ) → List ℕ → List ℕ
put_in (refused k) out = out
put_in (given b) out = sets out 0 b

-- the promise of `write`
pub record Wrote (c : Control) (out : List ℕ) (r : Result ℕ Refusal) (out' : List ℕ) : Type 0 where
  pub answer : said_written r ≡ length_of (writing c (length out))
  pub output : out' ≡ put_in (writing c (length out)) out
