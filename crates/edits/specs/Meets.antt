-- What is proved of the promises on two tables. proofs/Meets.antt proves it.
use Rattle.std.specs.Prelude.{ℕ, Bool, true, false, not, List, Result, ◌≡◌, length}
use Rattle.answers.specs.Answer.{refused}
use Rattle.answers.specs.declared.Refusal.{Refusal}
use Rattle.sets.specs.Sets.{Proper, Words}
use Rattle.rules.specs.Buffer.{entry_check}
use Rattle.rules.specs.Second.{agree, Agreed, Edited}
use Rattle.rules.specs.Table.{Table, table, sound_table, with_move}
use Rattle.runs.specs.Demands.{RunDemand2, RunDemand3, SameVerdict}
use Rattle.runs.specs.Promises.{lengths_ok, FreshPromise, RunPromise}
use Rattle.runs.specs.Said.{said}
use Rattle.runs.specs.declared.RunAnswer.{RunAnswer}
use Rattle.edits.specs.Promises.{SecondPromise, EditPromise}

pub record Meets (N : ℕ) (rows second : List ℕ) : Type 0 where
  -- a second table that was made agrees, and so is the one of the move table, sound, and g from it is g
  pub made : (second' : List ℕ) → SecondPromise N rows second second' 0 → (agree rows second' ≡ true) × Agreed rows second'
  -- an edit that is taken leaves the edited tables, in step and sound, every other bit the same
  pub edited : (rows' second' : List ℕ) (s t : ℕ) (there : Bool) → Words rows → Words second → EditPromise N rows rows' second second' s t there 0
      → (rows' ≡ with_move rows s t there) × (second' ≡ with_move second t s there) × Edited N rows second s t there
  -- adding and then removing, or removing and then adding, is taken and gives back both tables
  pub there_and_back : (rows₁ rows₂ second₁ second₂ : List ℕ) (s t : ℕ) (there : Bool) (r : ℕ) → Words rows → Words second
      → EditPromise N rows rows₁ second second₁ s t there 0
      → EditPromise N rows₁ rows₂ second₁ second₂ s t (not there) r → (r ≡ 0) × (rows₂ ≡ rows) × (second₂ ≡ second)

-- ---- run buffers kept across an edit
-- a table with another move table
abbrev pub after : Table → List ℕ → Table
after t rows' = table t.size t.starts t.safe rows'

-- what a run is lent beside the table: a run buffer of 2,066 words, hints a multiple of 4, a set of 4, a walk of 256
pub record Sized (hints b set walk : List ℕ) : Type 0 where
  pub buffer : length b ≡ 2066
  pub others : lengths_ok hints set walk ≡ true

-- any run over the edited table, from any buffer, a kept one or another
pub record KeptRuns (t : Table) (rows' : List ℕ) : Type 0 where
  -- 8 where the buffer now fails the entry check
  pub refused_with_8 : (hints : List ℕ) (budget : ℕ) (b b' set set' walk walk' : List ℕ) (r : Result RunAnswer Refusal)
      → RunPromise (after t rows') hints budget b b' set set' walk walk' r → Sized hints b set walk → entry_check (after t rows') b ≡ false
      → said r ≡ refused 8
  -- where it passes, demands 2 and 3, read over the edited table
  pub demands : (hints : List ℕ) (budget : ℕ) (b b' set set' walk walk' : List ℕ) (r : Result RunAnswer Refusal)
      → RunPromise (after t rows') hints budget b b' set set' walk walk' r → Sized hints b set walk → entry_check (after t rows') b ≡ true → Words b
      → Words hints
      → RunDemand2 (after t rows') hints budget b b' set' walk' r × RunDemand3 (after t rows') hints budget b r
  -- a fresh run buffer passes it
  pub fresh : (b₀ b : List ℕ) → FreshPromise t.size b₀ b 0 → (length b ≡ 2066) × (entry_check (after t rows') b ≡ true) × Words b
  -- two runs over the edited table, from kept buffers or fresh ones, have one verdict
  pub same_verdict : (hints₁ hints₂ : List ℕ) (budget₁ budget₂ : ℕ) (b₁ b₁' set₁ set₁' walk₁ walk₁' b₂ b₂' set₂ set₂' walk₂ walk₂' : List ℕ)
      (r₁ r₂ : Result RunAnswer Refusal) → RunPromise (after t rows') hints₁ budget₁ b₁ b₁' set₁ set₁' walk₁ walk₁' r₁ → Sized hints₁ b₁ set₁ walk₁
      → entry_check (after t rows') b₁ ≡ true → Words b₁ → Words hints₁ → RunPromise (after t rows') hints₂ budget₂ b₂ b₂' set₂ set₂' walk₂ walk₂' r₂
      → Sized hints₂ b₂ set₂ walk₂ → entry_check (after t rows') b₂ ≡ true → Words b₂ → Words hints₂ → SameVerdict r₁ r₂

-- .. after an edit that was taken, of a sound table
pub record MeetsRuns (t : Table) (second : List ℕ) : Type 0 where
  pub kept : (rows' second' : List ℕ) (s u : ℕ) (there : Bool) → Words t.rows → Words second
      → EditPromise t.size t.rows rows' second second' s u there 0 → sound_table t ≡ true → Proper 256 t.starts → Proper 256 t.safe
      → KeptRuns t rows'
