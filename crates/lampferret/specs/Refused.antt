-- Demand 1 of the letter, call by call: each refusal has its number, and a refused call changes no lent buffer. proofs/Refused.antt
-- proves it from the promises. That every call ends and that nothing goes out of range is what the check of the code itself shows.
use Rattle.std.specs.Prelude.{ℕ, Bool, true, List, [], ◌∷◌, Result, ◌≢◌, ◌≡◌, ℤ}
use Rattle.answers.specs.Answer.{refused, given}
use Rattle.answers.specs.Refusals.{one_of}
use Rattle.answers.specs.Said as answer
use Rattle.answers.specs.declared.Refusal.{Refusal}
use Rattle.sets.specs.Said.{said_set, Answers}
use Rattle.sets.specs.Sets.{Set, full as full_set, size_refusal}
use Rattle.sets.specs.declared.StateSet.{StateSet}
use Rattle.turns.specs.Turn.{turn_of}
use Rattle.rules.specs.Table.{Table}
use Rattle.moves.specs.Models.{Control}
use Rattle.moves.specs.Said.{move_refusal}
use Rattle.entries.specs.Refusal.{entry_refusal}
use Rattle.edits.specs.Promises.{into_refusal, g_refusal, SecondPromise, EditPromise}
use Rattle.runs.specs.Promises.{FreshPromise, SinglePromise, RunPromise}
use Rattle.runs.specs.Said.{said, said_one}
use Rattle.runs.specs.declared.Rule.{Rule}
use Rattle.runs.specs.declared.RunAnswer.{RunAnswer}
use Rattle.tables.specs.Format.{section_number, refused_at}
use Rattle.tables.specs.Said.{section_step, said_reading, Read, said_written, Wrote}
use Rattle.tables.specs.declared.Fault.{Fault}
use Rattle.tables.specs.declared.Reading.{Reading}
use Rattle.listings.specs.Listing.{reached_wanted}
use Rattle.listings.specs.Said.{Lists}
use Rattle.lampferret.specs.Boundary.{Gives, SetGiven, SingleGiven, RunGiven, ReadGiven, WriteGiven, ListGiven}

-- ---- the calls that refuse
pub record Demand1 : Type 0 where
  -- `full`: 2
  pub full : (N : ℕ) (r : Result StateSet Refusal) (k : ℕ) → Answers (size_refusal N) (full_set N) r → said_set r ≡ refused k
      → one_of (2 ∷ []) k ≡ true
  -- `turn`: 3
  pub turn : (a b : ℤ) (k : ℕ) → turn_of a b ≡ refused k → one_of (3 ∷ []) k ≡ true
  -- `f` and `g`: 7, 2, 13
  pub f_and_g : (N : ℕ) (rows : List ℕ) (x result : Set) (r : Result StateSet Refusal) (k : ℕ) → Answers (move_refusal N rows x) result r
      → said_set r ≡ refused k → one_of (7 ∷ 2 ∷ 13 ∷ []) k ≡ true
  -- `make_second`, and `lampferret_second` with the same promise: 7, 2, 13
  pub second : (N : ℕ) (rows second second' : List ℕ) (r : ℕ) → SecondPromise N rows second second' r → r ≢ 0
      → (one_of (7 ∷ 2 ∷ 13 ∷ []) r ≡ true) × (second' ≡ second)
  -- `into`: 7, 2, 13, 14, 4
  pub into : (N : ℕ) (rows second : List ℕ) (t : ℕ) (result : Set) (r : Result StateSet Refusal) (k : ℕ)
      → Answers (into_refusal N rows second t) result r → said_set r ≡ refused k → one_of (7 ∷ 2 ∷ 13 ∷ 14 ∷ 4 ∷ []) k ≡ true
  -- `add` and `remove`, and `lampferret_add` and `lampferret_remove` with the same promise: 7, 2, 13, 14, 4, 15
  pub edit : (N : ℕ) (rows rows' second second' : List ℕ) (s t : ℕ) (there : Bool) (r : ℕ) → EditPromise N rows rows' second second' s t there r → r ≢ 0
      → (one_of (7 ∷ 2 ∷ 13 ∷ 14 ∷ 4 ∷ 15 ∷ []) r ≡ true) × (rows' ≡ rows) × (second' ≡ second)
  -- `g_by_second`: 7, 2, 13, 14
  pub g_by_second : (N : ℕ) (rows second : List ℕ) (x result : Set) (r : Result StateSet Refusal) (k : ℕ)
      → Answers (g_refusal N rows second x) result r → said_set r ≡ refused k → one_of (7 ∷ 2 ∷ 13 ∷ 14 ∷ []) k ≡ true
  -- the entry check: 7, 2, 13, 8
  pub entry : (t : Table) (b : List ℕ) → entry_refusal t b ≢ 0 → one_of (7 ∷ 2 ∷ 13 ∷ 8 ∷ []) (entry_refusal t b) ≡ true
  -- `fresh`, and `lampferret_fresh` with the same promise: 7, 2
  pub fresh : (N : ℕ) (b b' : List ℕ) (r : ℕ) → FreshPromise N b b' r → r ≢ 0 → (one_of (7 ∷ 2 ∷ []) r ≡ true) × (b' ≡ b)
  -- `single`: 7, 2, 13, 8, 10, 11, 9
  pub single : (t : Table) (z : Set) (b b' : List ℕ) (r : Result Rule Refusal) (k : ℕ) → SinglePromise t z b b' r → said_one r ≡ refused k
      → (one_of (7 ∷ 2 ∷ 13 ∷ 8 ∷ 10 ∷ 11 ∷ 9 ∷ []) k ≡ true) × (b' ≡ b)
  -- `run`: 7, 2, 13, 8, 11
  pub run : (t : Table) (hints : List ℕ) (budget : ℕ) (b b' set set' walk walk' : List ℕ) (r : Result RunAnswer Refusal) (k : ℕ)
      → RunPromise t hints budget b b' set set' walk walk' r → said r ≡ refused k
      → (one_of (7 ∷ 2 ∷ 13 ∷ 8 ∷ 11 ∷ []) k ≡ true) × (b' ≡ b) × (set' ≡ set) × (walk' ≡ walk)
  -- a section, by `take` or `section_of`: 1, 2, 3, 4, 5
  pub section : (i N : ℕ) (b : List ℕ) (at k place : ℕ) → section_step (section_number i N) b at ≡ refused_at k place
      → one_of (1 ∷ 2 ∷ 3 ∷ 4 ∷ 5 ∷ []) k ≡ true
  -- `read`: 7, and 1 to 6
  pub read : (file rows : List ℕ) (angles : List ℤ) (modes : List ℕ) (r : Result Reading Fault) (rows' : List ℕ) (angles' : List ℤ) (modes' : List ℕ)
      (k place : ℕ) → Read file rows angles modes r rows' angles' modes' → said_reading r ≡ refused_at k place
      → (one_of (7 ∷ 1 ∷ 2 ∷ 3 ∷ 4 ∷ 5 ∷ 6 ∷ []) k ≡ true) × (rows' ≡ rows) × (angles' ≡ angles) × (modes' ≡ modes)
  -- `write`: 7, 2, 13, 3, 12
  pub write : (c : Control) (out out' : List ℕ) (r : Result ℕ Refusal) (k : ℕ) → Wrote c out r out' → said_written r ≡ refused k
      → (one_of (7 ∷ 2 ∷ 13 ∷ 3 ∷ 12 ∷ []) k ≡ true) × (out' ≡ out)
  -- a listing of a refused file, a safe run or a file: 12
  pub list : (bytes out out' : List ℕ) (r : Result ℕ Refusal) (k : ℕ) → Lists (given bytes) out r out' → answer.said r ≡ refused k
      → (one_of (12 ∷ []) k ≡ true) × (out' ≡ out)
  -- a listing of a reached run: 7, 2, 12
  pub list_reached : (c : Control) (rules : ℕ) (walk : List ℕ) (states : ℕ) (out out' : List ℕ) (r : Result ℕ Refusal) (k : ℕ)
      → Lists (reached_wanted c rules walk states) out r out' → answer.said r ≡ refused k → (one_of (7 ∷ 2 ∷ 12 ∷ []) k ≡ true) × (out' ≡ out)

-- ---- over the boundary: the same numbers, and every lent place as it was, but for the offset of a reading
pub record Demand1Boundary : Type 0 where
  -- `lampferret_full`: 2
  pub full : (N : ℕ) (x old new : Set) (r : ℕ) → SetGiven (size_refusal N) x old new r → r ≢ 0 → (one_of (2 ∷ []) r ≡ true) × (new ≡ old)
  -- `lampferret_f` and `lampferret_g`: 7, 2, 13
  pub f_and_g : (N : ℕ) (rows : List ℕ) (x result old new : Set) (r : ℕ) → SetGiven (move_refusal N rows x) result old new r → r ≢ 0
      → (one_of (7 ∷ 2 ∷ 13 ∷ []) r ≡ true) × (new ≡ old)
  -- `lampferret_into`: 7, 2, 13, 14, 4
  pub into : (N : ℕ) (rows second : List ℕ) (t : ℕ) (result old new : Set) (r : ℕ) → SetGiven (into_refusal N rows second t) result old new r → r ≢ 0
      → (one_of (7 ∷ 2 ∷ 13 ∷ 14 ∷ 4 ∷ []) r ≡ true) × (new ≡ old)
  -- `lampferret_g_by_second`: 7, 2, 13, 14
  pub g_by_second : (N : ℕ) (rows second : List ℕ) (x result old new : Set) (r : ℕ) → SetGiven (g_refusal N rows second x) result old new r → r ≢ 0
      → (one_of (7 ∷ 2 ∷ 13 ∷ 14 ∷ []) r ≡ true) × (new ≡ old)
  -- `lampferret_turn`: 3
  pub turn : (a b old new : ℤ) (r : ℕ) → Gives (turn_of a b) old new r → r ≢ 0 → (one_of (3 ∷ []) r ≡ true) × (new ≡ old)
  -- `lampferret_single`: 7, 2, 13, 8, 10, 11, 9
  pub single : (t : Table) (z : Set) (b b' : List ℕ) (old new r : ℕ) → SingleGiven t z b b' old new r → r ≢ 0
      → (one_of (7 ∷ 2 ∷ 13 ∷ 8 ∷ 10 ∷ 11 ∷ 9 ∷ []) r ≡ true) × (b' ≡ b) × (new ≡ old)
  -- `lampferret_run`: 7, 2, 13, 8, 11
  pub run : (t : Table) (hints : List ℕ) (budget : ℕ) (b b' set set' walk walk' old new : List ℕ) (r : ℕ)
      → RunGiven t hints budget b b' set set' walk walk' old new r → r ≢ 0
      → (one_of (7 ∷ 2 ∷ 13 ∷ 8 ∷ 11 ∷ []) r ≡ true) × (b' ≡ b) × (set' ≡ set) × (walk' ≡ walk) × (new ≡ old)
  -- `lampferret_read`: 7, and 1 to 6
  pub read : (file rows rows' : List ℕ) (angles angles' : List ℤ) (modes modes' starts starts' safe safe' counts counts' : List ℕ) (offset' r : ℕ)
      → ReadGiven file rows rows' angles angles' modes modes' starts starts' safe safe' counts counts' offset' r → r ≢ 0
      → (one_of (7 ∷ 1 ∷ 2 ∷ 3 ∷ 4 ∷ 5 ∷ 6 ∷ []) r ≡ true) × (rows' ≡ rows) × (angles' ≡ angles) × (modes' ≡ modes)
      × (starts' ≡ starts) × (safe' ≡ safe) × (counts' ≡ counts)
  -- `lampferret_write`: 7, 2, 13, 3, 12
  pub write : (c : Control) (out out' : List ℕ) (old new r : ℕ) → WriteGiven c out out' old new r → r ≢ 0
      → (one_of (7 ∷ 2 ∷ 13 ∷ 3 ∷ 12 ∷ []) r ≡ true) × (out' ≡ out) × (new ≡ old)
  -- `lampferret_check`: 12
  pub check : (bytes out out' : List ℕ) (old new r : ℕ) → ListGiven (given bytes) out out' old new r → r ≢ 0
      → (one_of (12 ∷ []) r ≡ true) × (out' ≡ out) × (new ≡ old)
