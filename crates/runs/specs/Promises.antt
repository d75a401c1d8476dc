-- What the public calls promise: the answer and the later contents of each lent buffer, for all inputs.
use Rattle.std.specs.Prelude.{ℕ, zero, suc, ◌-◌, ◌%◌, Bool, true, false, ◌&&◌, cond, List, [], ◌∷◌, Result, ◌≡◌, eqb, length}
use Rattle.std.proofs.lemmas.List.Edits.{sets}
use Rattle.answers.specs.Answer.{Answer, refused, given}
use Rattle.answers.specs.Refusals as refusals
use Rattle.answers.specs.Refusals.{no_refusal, out_of_range, wrong_length, ◌unless◌, first_failing}
use Rattle.answers.specs.declared.Refusal.{Refusal}
use Rattle.sets.specs.Sets.{Set, in_range}
use Rattle.rules.specs.Table.{Table}
use Rattle.rules.specs.Rules.{State, Standing, safe, reached, unfinished, no_room, Rule, fresh_of}
use Rattle.rules.specs.Runs as runs
use Rattle.rules.specs.Runs.{run}
use Rattle.rules.specs.ShownWalk.{shown_walk}
use Rattle.rules.specs.Single.{Fired, single}
use Rattle.rules.specs.Buffer.{encode, decode}
use Rattle.entries.specs.Refusal.{entry_order, entry_refusal}
use Rattle.runs.specs.declared.Rule as code
use Rattle.runs.specs.declared.RunAnswer.{RunAnswer}
use Rattle.runs.specs.Said.{Outcome, safe_with, reached_with, not_ended, said, said_one, rules_of, taken_of, used_of}
use Rattle.runs.specs.Hints.{hints_at}

-- ---- a fresh run buffer: 7, 2
unfoldable pub fresh_refusal : ℕ → List ℕ → ℕ
fresh_refusal N b = first_failing (wrong_length unless eqb (length b) 2066 ∷ out_of_range unless in_range N ∷ [])

pub record FreshPromise (N : ℕ) (b b' : List ℕ) (r : ℕ) : Type 0 where
  pub answer : r ≡ fresh_refusal N b
  pub buffer : b' ≡ cond (eqb (fresh_refusal N b) no_refusal) (encode (fresh_of N)) b

-- ---- a single rule
unfoldable pub single_answer : ℕ → Answer Fired → Answer Rule
single_answer (suc n) a = refused (suc n)
single_answer zero (refused n) = refused n
single_answer zero (given f) = given f.rule

unfoldable pub single_buffer : ℕ → Answer Fired → List ℕ → List ℕ
single_buffer (suc n) a b = b
single_buffer zero (refused n) b = b
single_buffer zero (given f) b = encode f.state

-- an answer and a buffer, from a refusal and what the rules say
pub record SingleAnswered (t : Table) (z : Set) (refusal : ℕ) (b b' : List ℕ) (r : Result code.Rule Refusal) : Type 0 where
  pub answer : said_one r ≡ single_answer refusal (single t (decode b) z)
  pub buffer : b' ≡ single_buffer refusal (single t (decode b) z) b

abbrev pub SinglePromise : Table → Set → List ℕ → List ℕ → Result code.Rule Refusal → Type 0
SinglePromise t z b b' r = SingleAnswered t z (entry_refusal t b) b b' r

-- ---- a run: hints a multiple of 4, set 4, walk 256
unfoldable pub lengths_ok : List ℕ → List ℕ → List ℕ → Bool
lengths_ok hints set walk = eqb (length hints % 4) 0 && (eqb (length set) 4 && eqb (length walk) 256)

-- 7, and what the entry check refuses
unfoldable pub run_refusal : Table → List ℕ → List ℕ → List ℕ → List ℕ → ℕ
run_refusal t hints b set walk = first_failing (wrong_length unless lengths_ok hints set walk ∷ entry_order t b)

-- after a refusal, 0 for none, and how the rules left the run: 11 when that Unfold comes
unfoldable pub run_answer : ℕ → Standing → State → Answer Outcome
run_answer (suc n) r s = refused (suc n)
run_answer zero (safe j) s = given (safe_with j)
run_answer zero reached s = given (reached_with (s.n - 1))
run_answer zero unfinished s = given not_ended
run_answer zero no_room s = refused refusals.no_room

-- whether the rules were run and none was refused
unfoldable pub ran : ℕ → Standing → Bool
ran (suc n) r = false
ran zero (safe j) = true
ran zero reached = true
ran zero unfinished = true
ran zero no_room = false

-- a safe run writes its set
unfoldable pub set_after : ℕ → Standing → State → List ℕ → List ℕ
set_after (suc n) r s l = l
set_after zero (safe j) s l = s.x j
set_after zero reached s l = l
set_after zero unfinished s l = l
set_after zero no_room s l = l

-- a reached run writes its walk to the first n-1 places, the rest unchanged
unfoldable pub walk_after : Table → ℕ → Standing → State → List ℕ → List ℕ
walk_after t (suc n) r s l = l
walk_after t zero (safe j) s l = l
walk_after t zero reached s l = sets l 0 (shown_walk t s)
walk_after t zero unfinished s l = l
walk_after t zero no_room s l = l

-- an answer and three buffers, from a refusal and an outcome of the rules
pub record Answered (t : Table) (refusal : ℕ) (o : runs.Ran) (b b' set set' walk walk' : List ℕ) (r : Result RunAnswer Refusal) : Type 0 where
  pub outcome : said r ≡ run_answer refusal o.standing o.state
  pub rules : rules_of r ≡ cond (ran refusal o.standing) o.rules 0
  pub taken : taken_of r ≡ cond (ran refusal o.standing) o.taken 0
  pub used : used_of r ≡ cond (ran refusal o.standing) o.used 0
  pub buffer : b' ≡ cond (ran refusal o.standing) (encode o.state) b
  pub set_is : set' ≡ set_after refusal o.standing o.state set
  pub walk_is : walk' ≡ walk_after t refusal o.standing o.state walk

abbrev pub RunPromise : Table → List ℕ → ℕ → List ℕ → List ℕ → List ℕ → List ℕ → List ℕ → List ℕ → Result RunAnswer Refusal → Type 0
RunPromise t hints budget b b' set set' walk walk' r =
    Answered t (run_refusal t hints b set walk) (run t budget (hints_at hints 0) (decode b)) b b' set set' walk walk' r
