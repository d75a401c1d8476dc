-- From what the private functions hand on to what the public calls promise.
use Prim.Native.Nat.{ℕ, zero, suc, ◌+◌, ◌-◌, ◌*◌, ◌≤◌, ◌<◌, ◌%◌}
use native.Mathlib.Nat.{zero-add}
use native.Mathlib.Omega.{arith}
use mathlib.Core.Bool.{Bool, true, false, not, ◌&&◌}
use mathlib.Core.List.{List}
use mathlib.Core.Path.{◌≡◌, refl, sym, ap, ◌∙◌}
use lib.Dec.{eqb}
use lib.ListN.{length, get_or}
use lib.Seq.{sets, length-sets, ext_get_or}
use Rattle.std.specs.Prelude.{Result, Ok, Err, IsErr, IsErrAnd, OnOk}
use Rattle.answers.proofs.Order.{refuses, goes_on}
use Rattle.answers.proofs.Said.{some_number}
use Rattle.answers.specs.Answer.{given, refused}
use Rattle.answers.specs.Refusals.{not_allowed, already_concluded}
use Rattle.answers.specs.Said.{number_of, refusal_of}
use Rattle.answers.specs.declared.Refusal.{Refusal}
use Rattle.answers.specs.declared.Refusal.TheVariants.{NotAllowed, AlreadyConcluded}
use Rattle.entries.proofs.Entered.{enters}
use Rattle.entries.specs.Refusal.{entry_refusal}
use Rattle.rules.proofs.Budget.{run-standing, run-keeps}
use Rattle.rules.proofs.Ends.{has_room}
use Rattle.rules.proofs.Held.{held_back, fit_of}
use Rattle.rules.proofs.Invariant.{Open, Invariant}
use Rattle.rules.proofs.Meaning.{safe_at, never_no_room, reached_at}
use Rattle.rules.proofs.Normal.{run_normal}
use Rattle.rules.proofs.Reading.{x_is, k_is}
use Rattle.rules.proofs.Ready.{Ready, ready_by}
use Rattle.rules.specs.Buffer.{encode, decode, Normal}
use Rattle.rules.specs.Rules.{no_room, conclusion, conclusion_of, due, fire, State, Standing, safe, reached, unfinished}
use Rattle.rules.specs.Runs as runs
use Rattle.rules.specs.Runs.{lacks_room, lacks_room_for, run}
use Rattle.rules.specs.ShownWalk.{shown_walk}
use Rattle.rules.specs.Single.{takes, single}
use Rattle.rules.specs.Table.{Table}
use Rattle.runs.proofs.Choices.{hints_words}
use Rattle.runs.proofs.Enums.{due-as, stands_by, concluded, still_open}
use Rattle.runs.proofs.Steps.{lacks_none, fireable}
use Rattle.runs.proofs.Stores.{get_or-sets_in}
use Rattle.runs.proofs.Walks.{reached_short}
use Rattle.runs.specs.Hints.{hints_at}
use Rattle.runs.specs.Inner.{Stands, IsDue, Fireable, RanTo, Finished}
use Rattle.runs.specs.Promises.{run_refusal, single_answer, single_buffer, lengths_ok, run_answer, ran, set_after, walk_after, SingleAnswered, Answered}
use Rattle.runs.specs.Said.{is_open, as_rule, as_standing}
use Rattle.runs.specs.declared.Outcome as outcome
use Rattle.runs.specs.declared.Rule as code
use Rattle.runs.specs.declared.RunAnswer as answer
use Rattle.runs.specs.declared.Standing as standing
use Rattle.runs.specs.declared.search.Ran.{Ran}
use Rattle.sets.proofs.Tests.{passed, clash, and-true, eqb-says}
use Rattle.sets.specs.Sets.{Set, Proper, quad, Words}

-- what is lent is words, and the entry check says Ok
pub entered_ready : (t : Table) (b : List ℕ) (r : Result (Unit {0}) Refusal) → Words b → Proper 256 t.starts → Proper 256 t.safe
    → refusal_of r ≡ entry_refusal t b → OnOk r (Ready t b)
entered_ready t b (Ok u) words is ps e = enters t b words is ps (sym e)
entered_ready t b (Err x) words is ps e = tt

-- ---- a single rule
pub single-refused : (t : Table) (z : Set) (b : List ℕ) (m : ℕ) (e : Refusal) (r : Result code.Rule Refusal) → IsErr r × IsErrAnd r (λ e'. e' ≡ e)
    → number_of e ≡ m → SingleAnswered t z m b b r
unfolding single_answer single_buffer
single-refused t z b zero e r h q = absurd (some_number e q)
single-refused t z b (suc n) e r h q = go r h.0 h.1
  where
    go : (r : Result code.Rule Refusal) → IsErr r → IsErrAnd r (λ e'. e' ≡ e) → SingleAnswered t z (suc n) b b r
    go (Ok a) h is = absurd (clash h refl)
    go (Err e') h is = record { answer = ap refused (ap number_of is ∙ q); buffer = refl }

-- nothing was refused
pub single-given : (t : Table) (z : Set) (b b' : List ℕ) (r : Result code.Rule Refusal) (m : ℕ) → 0 ≡ m
    → SingleAnswered t z 0 b b' r → SingleAnswered t z m b b' r
single-given t z b b' r m e a = rw (← e) a

-- w is how the run stands, r what `is_open` answered
module _ (t : Table) (z : Set) (b : List ℕ) (v : Ready t b) (w : standing.Standing) (ew : as_standing w ≡ conclusion_of 256 t.starts (decode b))
    (r : Bool) (e : r ≡ is_open w) where
  stands : Stands t b w
  stands = stands_by t b w v ew

  pub ask_concluded : r ≡ false → SingleAnswered t z 0 b b (Err AlreadyConcluded)
  unfolding single_answer single_buffer single
  ask_concluded n = record { answer = rw done; buffer = rw done }
    where
      done : single t (decode b) z ≡ refused already_concluded
      done = go (conclusion t (decode b)) refl
        where
          go : (c : Standing) → conclusion t (decode b) ≡ c → single t (decode b) z ≡ refused already_concluded
          go (safe j) q = rw (q, single)
          go reached q = rw (q, single)
          go no_room q = rw (q, single)
          go unfinished q = absurd (concluded t b w stands r e n q)

  module _ (n : r ≡ true) (rule : code.Rule) (d : IsDue t b rule) where
    open_now : Open t (decode b)
    open_now = still_open t b w stands r e n

    pub ask_full : (q : Bool) (a : Result code.Rule Refusal) → q ≡ lacks_room_for (as_rule rule) (get_or b 0 0) → q ≡ true → SingleAnswered t z 0 b b a
    ask_full q a eq y = absurd (clash y (lacks_none t b rule q v d open_now eq))

    pub fireable_now : (N : ℕ) → N ≡ t.size → Fireable N b rule
    fireable_now N eN = fireable t b rule N v eN d open_now

    room_left : lacks_room t (decode b) ≡ false
    room_left = has_room t v.good.big (decode b) v.fit.inv open_now

    module _ (q : Bool) (eq : q ≡ takes t (decode b) z) where
      pub ask_no : q ≡ false → SingleAnswered t z 0 b b (Err NotAllowed)
      unfolding single_answer single_buffer single
      ask_no y = record { answer = rw no; buffer = rw no }
        where
          no : single t (decode b) z ≡ refused not_allowed
          no = rw (open_now, room_left, sym eq ∙ y, single)

      pub ask_fires : (b' : List ℕ) → q ≡ true → b' ≡ encode (fire t.size (as_rule rule) (decode b) z)
          → SingleAnswered t z 0 b b' (Ok rule)
      unfolding single_answer single_buffer single
      ask_fires b' y eb = record { answer = rw yes (ap given (sym (due-as t b rule d))); buffer = rw yes (rw (due-as t b rule d) eb) }
        where
          yes : single t (decode b) z ≡ given (record { rule = due t (decode b); state = fire t.size (due t (decode b)) (decode b) z })
          yes = rw (open_now, room_left, sym eq ∙ y, single)

-- ---- the end of a run
module _ (t : Table) (b : List ℕ) (w : standing.Standing) (v : Ready t b) (s : Stands t b w) where
  -- safe: x_j has its place
  pub safe_below : (j : ℕ) → w ≡ standing.TheVariants.Safe j → j + 1 < get_or b 0 0
  unfolding decode
  safe_below j e = omega (arith, (safe_at t (decode b) j (sym s ∙ ap as_standing e)).lt)

  -- reached: the walk has its place, and y_1 is held
  pub reached_few : w ≡ standing.TheVariants.Reached → get_or b 0 0 ≤ 257
  reached_few e = reached_short t v.good b v.fit (sym s ∙ ap as_standing e)

  pub reached_held : w ≡ standing.TheVariants.Reached → get_or b 1 0 ≤ 1
  reached_held e = omega (arith, k_is b, (reached_at t (decode b) (sym s ∙ ap as_standing e)).0)

-- one arm for each way that the run stands
module _ (t : Table) (b : List ℕ) (r : Ran) (set walk : List ℕ) (v : Ready t b) (s : Stands t b r.standing) where
  abbrev ans : outcome.Outcome → answer.RunAnswer
  ans o = record { outcome = o; rules = r.rules; taken = r.taken; used = r.used }

  pub finish_safe : (j : ℕ) (x : Set) (set' : List ℕ) → r.standing ≡ standing.TheVariants.Safe j → x ≡ quad b (2 + 4 * j) → length x ≡ 4 → length set ≡ 4
      → set' ≡ sets set 0 x → Finished t b r (ans (outcome.TheVariants.Safe j)) set set' walk walk
  unfolding run_answer set_after walk_after
  finish_safe j x set' e ex fx fs es =
      let c : conclusion t (decode b) ≡ safe j = sym s ∙ ap as_standing e in
      let q : set' ≡ (decode b).x j = es ∙ sets_all set x fs fx ∙ ex ∙ x_is b j _ refl (omega (arith, safe_below t b _ v s j e)) in
      record { outcome = rw c; fired = refl; took = refl; uses = refl; set_is = rw c q; walk_is = rw c }
    where
      -- four words over four words
      sets_all : (l x : List ℕ) → length l ≡ 4 → length x ≡ 4 → sets l 0 x ≡ x
      sets_all l x hl hx = ext_get_or 0 (sets l 0 x) x (length-sets l 0 x ∙ hl ∙ sym hx)
          (λ i h. let e : length (sets l 0 x) ≡ length l = length-sets l 0 x in
          ap (λ (k : ℕ). get_or (sets l 0 x) k 0) (sym (zero-add i)) ∙ get_or-sets_in x l 0 i (omega arith) (omega arith))

  pub finish_reached : (walk' : List ℕ) → r.standing ≡ standing.TheVariants.Reached → walk' ≡ sets walk 0 (shown_walk t (decode b))
      → Finished t b r (ans (outcome.TheVariants.Reached (get_or b 0 0 - 1))) set set walk walk'
  unfolding run_answer set_after walk_after decode as_standing
  finish_reached walk' e q =
      let c : conclusion t (decode b) ≡ reached = sym s ∙ ap as_standing e in
      record { outcome = rw c; fired = refl; took = refl; uses = refl; set_is = rw c; walk_is = rw c q }

  pub finish_open : r.standing ≡ standing.TheVariants.Unfinished → Finished t b r (ans outcome.TheVariants.Unfinished) set set walk walk
  unfolding run_answer set_after walk_after
  finish_open e =
      let c : conclusion t (decode b) ≡ unfinished = sym s ∙ ap as_standing e in
      record { outcome = rw c; fired = refl; took = refl; uses = refl; set_is = rw c; walk_is = rw c }

-- ---- a run
pub run-refused : (t : Table) (m : ℕ) (o : runs.Ran) (b set walk : List ℕ) (e : Refusal) (r : Result answer.RunAnswer Refusal)
    → IsErr r × IsErrAnd r (λ e'. e' ≡ e) → number_of e ≡ m → Answered t m o b b set set walk walk r
unfolding run_answer ran set_after walk_after
run-refused t zero o b set walk e r h q = absurd (some_number e q)
run-refused t (suc n) o b set walk e r h q = go r h.0 h.1
  where
    go : (r : Result answer.RunAnswer Refusal) → IsErr r → IsErrAnd r (λ e'. e' ≡ e) → Answered t (suc n) o b b set set walk walk r
    go (Ok a) h is = absurd (clash h refl)
    go (Err e') h is =
        record {
          outcome = ap refused (ap number_of is ∙ q);
          rules = refl;
          taken = refl;
          used = refl;
          buffer = refl;
          set_is = refl;
          walk_is = refl;
        }

-- nothing was refused
pub run-given : (t : Table) (m : ℕ) (o : runs.Ran) (b b' set set' walk walk' : List ℕ) (a : Result answer.RunAnswer Refusal) → 0 ≡ m
    → Answered t 0 o b b' set set' walk walk' a → Answered t m o b b' set set' walk walk' a
run-given t m o b b' set set' walk walk' a e p = rw (← e) p

-- r is what `lengths` answered
module _ (t : Table) (b hints set walk : List ℕ) (r : Bool) (e : r ≡ lengths_ok hints set walk) where
  pub run-wrong : r ≡ false → 7 ≡ run_refusal t hints b set walk
  unfolding run_refusal
  run-wrong n = refuses 7 _ _ r e (ap not n)

  pub run-right : r ≡ true → (n : ℕ) → n ≡ entry_refusal t b → n ≡ run_refusal t hints b set walk
  unfolding run_refusal entry_refusal
  run-right n m q = goes_on 7 _ _ r m e (ap not n) q

-- the buffer that a run leaves
module _ (t : Table) (b : List ℕ) (v : Ready t b) (budget : ℕ) (ws : List ℕ) (w : Words ws) (b' : List ℕ)
    (e : b' ≡ encode (run t budget (hints_at ws 0) (decode b)).state) where
  left-inv : Invariant t (run t budget (hints_at ws 0) (decode b)).state
  left-inv = run-keeps t v.good.big budget (hints_at ws 0) (decode b) v.fit.inv

  left-normal : Normal t.size (run t budget (hints_at ws 0) (decode b)).state
  left-normal = run_normal t v.good.big v.good.safe budget (hints_at ws 0) (decode b) v.fit.inv (hints_words ws w 0) v.fit.held.norm

  pub left-ready : Ready t b'
  left-ready = ready_by v.good (rw e (fit_of t v.good.big _ left-inv left-normal))

  pub left_back : decode b' ≡ (run t budget (hints_at ws 0) (decode b)).state
  left_back = rw e (held_back t v.good.big _ left-inv left-normal)

  pub left-standing : (run t budget (hints_at ws 0) (decode b)).standing ≡ conclusion t (decode b')
  left-standing = run-standing t v.good.big budget (hints_at ws 0) (decode b) v.fit.inv ∙ ap (conclusion t) (sym left_back)

-- a run whose result is a conclusion was run
pub ran-all : (t : Table) (s : State) → ran 0 (conclusion t s) ≡ true
unfolding ran
ran-all t s = go (conclusion t s) refl
  where
    go : (r : Standing) → conclusion t s ≡ r → ran 0 r ≡ true
    go (safe j) e = refl
    go reached e = refl
    go unfinished e = refl
    go no_room e = absurd (never_no_room t s e)

module _ (t : Table) (b : List ℕ) (v : Ready t b) (budget : ℕ) (ws : List ℕ) (w : Words ws) (b' : List ℕ) (r : Ran)
    (e : RanTo (run t budget (hints_at ws 0) (decode b)) b' r) where
  pub ended_ready : Ready t b'
  ended_ready = left-ready t b v budget ws w b' e.buffer

  pub ended_stands : Stands t b' r.standing
  ended_stands = e.standing ∙ left-standing t b v budget ws w b' e.buffer

  pub run-answers : (set set' walk walk' : List ℕ) (a : answer.RunAnswer) → Finished t b' r a set set' walk walk'
      → Answered t 0 (run t budget (hints_at ws 0) (decode b)) b b' set set' walk walk' (Ok a)
  run-answers set set' walk walk' a n =
      let p = left-standing t b v budget ws w b' e.buffer in
      let q = left_back t b v budget ws w b' e.buffer in
      rw p (record {
        outcome = n.outcome ∙ ap (run_answer 0 (conclusion t (decode b'))) q;
        rules = rw (ran-all t (decode b')) (n.fired ∙ e.fired);
        taken = rw (ran-all t (decode b')) (n.took ∙ e.took);
        used = rw (ran-all t (decode b')) (n.uses ∙ e.uses);
        buffer = rw (ran-all t (decode b')) e.buffer;
        set_is = n.set_is ∙ ap (λ s. set_after 0 (conclusion t (decode b')) s set) q;
        walk_is = n.walk_is ∙ ap (λ s. walk_after t 0 (conclusion t (decode b')) s walk) q;
      })

-- what `lengths` says
pub lengths_set : (hints l w : List ℕ) → lengths_ok hints l w ≡ true → length l ≡ 4
unfolding lengths_ok
lengths_set hints l w e =
    passed (eqb-says (length l) 4) (and-true _ _ (and-true (eqb (length hints % 4) 0) (eqb (length l) 4 && eqb (length w) 256) e).1).0

pub lengths_walk : (hints l w : List ℕ) → lengths_ok hints l w ≡ true → length w ≡ 256
unfolding lengths_ok
lengths_walk hints l w e =
    passed (eqb-says (length w) 256) (and-true (eqb (length l) 4) _ (and-true (eqb (length hints % 4) 0) (eqb (length l) 4 && eqb (length w) 256) e).1).1
