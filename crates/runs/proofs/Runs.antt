-- A run, rule by rule over a buffer: the invariant of the loop, and how it begins, goes on and ends.
use Prim.Native.Nat.{ℕ, suc, ◌+◌, ◌-◌, ◌≤◌, ◌<◌}
use native.Mathlib.Nat.{zero-add, add_assoc, add-zero}
use native.Mathlib.Omega.{arith}
use mathlib.Core.Bool.{Bool, true, false}
use mathlib.Core.List.{List}
use mathlib.Core.Logic.{◌≢◌}
use mathlib.Core.Path.{◌≡◌, sym, ap, ◌∙◌}
use Rattle.rules.proofs.Ends.{run_none, run-done, run-open}
use Rattle.rules.proofs.Invariant.{Open}
use Rattle.rules.proofs.Ready.{Ready}
use Rattle.rules.specs.Buffer.{decode}
use Rattle.rules.specs.Rules.{conclusion, conclusion_of, unfinished}
use Rattle.rules.specs.Runs as runs
use Rattle.rules.specs.Runs.{stop, after, choose, next, run, lacks_room_for, Choice}
use lib.ListN.{get_or}
use Rattle.runs.proofs.Enums.{stands_by, concluded, still_open}
use Rattle.runs.specs.declared.Rule as code
use Rattle.sets.proofs.Tests.{clash}
use Rattle.rules.specs.Table.{Table}
use Rattle.runs.proofs.Choices.{hints_words}
use Rattle.runs.proofs.Closing.{looks_all, looks_next}
use Rattle.runs.proofs.Steps.{step_ready, step_back, step_few, room, lacks_none}
use Rattle.runs.specs.Hints.{hints_at}
use Rattle.runs.specs.Inner.{Stands, IsDue, Blank, Remembers, Looks, Stepped, RanTo}
use Rattle.runs.specs.Said.{as_standing, is_open, as_rule}
use Rattle.runs.specs.declared.Standing.{Standing}
use Rattle.runs.specs.declared.memo.Memo.{Memo}
use Rattle.sets.specs.Sets.{Words}

-- a run that has fired f rules already, taken a and used u hints
unfoldable pub ahead : ℕ → ℕ → ℕ → runs.Ran → runs.Ran
ahead f a u o = record { standing = o.standing; rules = f + o.rules; taken = a + o.taken; used = u + o.used; left = o.left; state = o.state }

ahead_after : (f a u : ℕ) (c : Choice) (o : runs.Ran) → ahead f a u (after c o) ≡ ahead (f + 1) (a + c.taken) (u + c.used) o
unfolding ahead after
ahead_after f a u c o = simp add_assoc

-- the loop, f rules on: o is what the whole run comes to
pub record Running (t : Table) (ws : List ℕ) (budget : ℕ) (o : runs.Ran) (buf : List ℕ) (f a u : ℕ) : Type 0 where
  -- the buffer is ready for the next rule
  pub ready : Ready t buf
  -- the whole run is the run from here, with what it has done already
  pub rest : o ≡ ahead f a u (run t (budget - f) (hints_at ws a) (decode buf))
  pub in_budget : f ≤ budget
  pub in_fired : a ≤ f
  pub in_taken : u ≤ a

run-begins : (t : Table) (ws : List ℕ) (budget : ℕ) (b : List ℕ) → Ready t b → Running t ws budget (run t budget (hints_at ws 0) (decode b)) b 0 0 0
unfolding ahead
run-begins t ws budget b v =
    let e : budget - 0 ≡ budget = omega arith in
    record { ready = v; rest = simp (zero-add, e); in_budget = omega arith; in_fired = omega arith; in_taken = omega arith }

module _ (t : Table) (ws : List ℕ) (budget : ℕ) (o : runs.Ran) (b : List ℕ) (f a u : ℕ) (v : Running t ws budget o b f a u) where
  ended : run t (budget - f) (hints_at ws a) (decode b) ≡ stop (conclusion t (decode b)) (hints_at ws a) (decode b) → (w : Standing) → Stands t b w
      → RanTo o b (record { standing = w; rules = f; taken = a; used = u })
  unfolding ahead stop
  ended e w q =
      rw (v.rest, e)
      (record { standing = q; fired = sym (add-zero f); took = sym (add-zero a); uses = sym (add-zero u); buffer = sym v.ready.fit.held.same })

  -- the budget is spent; the run has concluded
  pub run-spent : f ≡ budget → (w : Standing) → Stands t b w → RanTo o b (record { standing = w; rules = f; taken = a; used = u })
  run-spent l = let e : budget - f ≡ 0 = omega arith in ended (rw e (run_none t (hints_at ws a) (decode b)))

  pub run-concluded : conclusion t (decode b) ≢ unfinished → (w : Standing) → Stands t b w → RanTo o b (record { standing = w; rules = f; taken = a; used = u })
  run-concluded n = ended (run-done t (budget - f) (hints_at ws a) (decode b) n)

  -- one rule more
  pub run-goes : Words ws → Open t (decode b) → (f ≡ budget → ⊥) → (b' : List ℕ) (taken used lo hi : ℕ)
      → Stepped t ws a b b' taken used lo hi → Running t ws budget o b' (f + 1) (a + taken) (u + used)
  run-goes w op n b' taken used lo hi p =
      let q = step_few t ws a b b' taken used lo hi p in
      record {
        ready = step_ready t b v.ready op (hints_at ws a) (hints_words ws w a) b' p.next;
        rest = v.rest ∙ more;
        in_budget = omega (arith, v.in_budget, n);
        in_fired = omega (arith, v.in_fired, q.0);
        in_taken = omega (arith, v.in_taken, q.1);
      }
    where
      more : ahead f a u (run t (budget - f) (hints_at ws a) (decode b)) ≡ ahead (f + 1) (a + taken) (u + used)
          (run t (budget - (f + 1)) (hints_at ws (a + taken)) (decode b'))
      more =
          let e : budget - f ≡ suc (budget - (f + 1)) = omega (arith, v.in_budget, n) in
          let c : Choice = choose t (hints_at ws a) (decode b) in
          let q : next t c (decode b) ≡ decode b' = sym (step_back t b v.ready op (hints_at ws a) (hints_words ws w a) b' p.next) in
          ap (λ (m : ℕ). ahead f a u (run t m (hints_at ws a) (decode b))) e
          ∙ ap (ahead f a u) (run-open t v.ready.good.big (budget - (f + 1)) (hints_at ws a) (decode b) v.ready.fit.inv op)
          ∙ ahead_after f a u c (run t (budget - (f + 1)) c.left (next t c (decode b)))
          ∙ (λ i. ahead (f + 1) (a + p.took i) (u + p.uses i) (run t (budget - (f + 1)) (p.left i) (q i)))

  -- the budget is spent, or the run has concluded: w is how it stands, r what `is_open` answered
  module _ (w : Standing) (ew : as_standing w ≡ conclusion_of 256 t.starts (decode b)) where
    stands : Stands t b w
    stands = stands_by t b w v.ready ew

    pub end_spent : f ≡ budget → RanTo o b (record { standing = w; rules = f; taken = a; used = u })
    end_spent l = run-spent l w stands

    pub end_concluded : (r : Bool) → r ≡ is_open w → r ≡ false → RanTo o b (record { standing = w; rules = f; taken = a; used = u })
    end_concluded r e n = run-concluded (concluded t b w stands r e n) w stands

-- the loop of `advance`: a run, its memo, and where it can have concluded
pub record Going (t : Table) (ws : List ℕ) (budget : ℕ) (o : runs.Ran) (buf : List ℕ) (memo : Memo) (f a u lo hi : ℕ) : Type 0 where
  pub running : Running t ws budget o buf f a u
  -- what g was asked for
  pub kept : Remembers t memo
  -- only from lo up to hi can it have concluded safe
  pub looks : Looks buf lo hi

pub going : (t : Table) (ws : List ℕ) (budget : ℕ) (b : List ℕ) (m : Memo) (hi : ℕ) → Ready t b → Blank m → hi ≡ get_or b 0 0 - 1
    → Going t ws budget (run t budget (hints_at ws 0) (decode b)) b m 0 0 0 0 hi
going t ws budget b m hi v none e =
    record { running = run-begins t ws budget b v; kept = none t; looks = looks_all b hi v.spans e }

-- a turn in which a rule is fired: neither is so
pub record Turning (t : Table) (ws : List ℕ) (budget : ℕ) (o : runs.Ran) (buf : List ℕ) (f a u : ℕ) : Type 0 where
  pub running : Running t ws budget o buf f a u
  pub more : f < budget
  pub opened : Open t (decode buf)
  pub place : get_or buf 0 0 < 258

module _ {t : Table} {ws : List ℕ} {budget : ℕ} {o : runs.Ran} {b : List ℕ} {f a u : ℕ} where
  pub turning : Running t ws budget o b f a u → (w : Standing) → as_standing w ≡ conclusion_of 256 t.starts (decode b) → (f ≡ budget → ⊥)
      → {r : Bool} → r ≡ is_open w → r ≡ true → Turning t ws budget o b f a u
  turning v w ew m {r} e n =
      let op = still_open t b w (stands_by t b w v.ready ew) r e n in
      record { running = v; more = omega (arith, v.in_budget, m); opened = op; place = room t b v.ready op }

  pub never_full : Turning t ws budget o b f a u → {rule : code.Rule} → IsDue t b rule → {q : Bool} → q ≡ lacks_room_for (as_rule rule) (get_or b 0 0)
      → q ≡ true → ⊥
  never_full v {rule} d {q} e y = clash y (lacks_none t b rule q v.running.ready d v.opened e)

  pub goes_on : Turning t ws budget o b f a u → Words ws → {b' : List ℕ} {m : Memo} {taken used lo hi : ℕ} → Remembers t m
      → Stepped t ws a b b' taken used lo hi → Going t ws budget o b' m (f + 1) (a + taken) (u + used) lo hi
  goes_on v words {b'} {m} {taken} {used} {lo} {hi} k p =
      let on = run-goes t ws budget o b f a u v.running words v.opened (λ e. omega (arith, v.more)) b' taken used lo hi p in
      let back = step_back t b v.running.ready v.opened (hints_at ws a) (hints_words ws words a) b' p.next in
      record { running = on; kept = k; looks = looks_next t b' _ lo hi on.ready back p.closing }
