-- One rule fired: the buffer after it, and what it can be relied on for again.
use Prim.Native.Nat.{ℕ, ◌≤◌, ◌<◌}
use native.Mathlib.Omega.{arith}
use mathlib.Core.Bool.{Bool, true, false}
use mathlib.Core.List.{List, [], ◌∷◌}
use mathlib.Core.Path.{◌≡◌, sym, ap, ◌∙◌}
use lib.ListN.{get_or}
use Rattle.rules.proofs.Ends.{next-inv, has_room}
use Rattle.rules.proofs.Held.{held_back, fit_of}
use Rattle.rules.proofs.Invariant.{Open, Invariant}
use Rattle.rules.proofs.Keep.{few_sets}
use Rattle.rules.proofs.Normal.{Words, next-normal}
use Rattle.rules.proofs.Reading.{conflict_256, n_is}
use Rattle.rules.proofs.Ready.{Ready, ready_by, ready_holds}
use Rattle.rules.specs.Buffer.{encode, decode, Normal}
use Rattle.rules.specs.Rules.{due, fire, after_unfold, after_conflict, house}
use Rattle.rules.specs.Runs.{choose, next, pick, offered, asks, will_do, lacks_room_for}
use Rattle.rules.specs.Table.{Table}
use Rattle.runs.proofs.Closing.{climbs_by}
use Rattle.runs.proofs.Enums.{due-as}
use Rattle.runs.proofs.Tested.{conflict_held}
use Rattle.runs.specs.Hints.{hints_at}
use Rattle.runs.specs.Inner.{IsDue, Fireable, Chose, Closing, Stepped, after_above}
use Rattle.runs.specs.Said.{as_rule}
use Rattle.runs.specs.declared.Rule as code
use Rattle.sets.specs.Sets.{Set}

-- ---- the arms of `fire`
module _ (N : ℕ) (rule : code.Rule) (b b' : List ℕ) (z : Set) where
  pub fire-unfold : rule ≡ code.TheVariants.Unfold → b' ≡ encode (after_unfold N (decode b)) → b' ≡ encode (fire N (as_rule rule) (decode b) z)
  unfolding fire as_rule
  fire-unfold e q = rw e q

  pub fire-candidate : rule ≡ code.TheVariants.Candidate → b' ≡ encode (after_above (decode b) (get_or b 0 0) z)
      → b' ≡ encode (fire N (as_rule rule) (decode b) z)
  unfolding fire as_rule decode
  fire-candidate e q = rw e q

  pub fire-decide : rule ≡ code.TheVariants.Decide → b' ≡ encode (after_above (decode b) (get_or b 1 0) z)
      → b' ≡ encode (fire N (as_rule rule) (decode b) z)
  unfolding fire as_rule decode
  fire-decide e q = rw e q

  pub fire-conflict : Fireable N b rule → rule ≡ code.TheVariants.Conflict → b' ≡ encode (after_conflict 256 (decode b) z)
      → b' ≡ encode (fire N (as_rule rule) (decode b) z)
  unfolding fire as_rule
  fire-conflict f e q = rw e (q ∙ ap encode (conflict_256 N f.big (decode b) f.norm z))

-- in an open run there is room for one more x
pub room : (t : Table) (b : List ℕ) → Ready t b → Open t (decode b) → get_or b 0 0 < 258
unfolding decode
room t b v o = omega (arith, few_sets t (decode b) v.fit.inv o, v.good.big)

-- so the rule due can be fired
pub fireable : (t : Table) (b : List ℕ) (rule : code.Rule) (N : ℕ) → Ready t b → N ≡ t.size → IsDue t b rule → Open t (decode b) → Fireable N b rule
fireable t b rule N v e d o =
    rw e
    (record {
      holds = ready_holds v;
      big = v.good.big;
      norm = v.fit.held.norm;
      room = room t b v o;
      held = conflict_held t b v rule d;
      climbs = climbs_by t b v;
    })

-- and the test for room never fails
pub lacks_none : (t : Table) (b : List ℕ) (rule : code.Rule) (r : Bool) → Ready t b → IsDue t b rule → Open t (decode b)
    → r ≡ lacks_room_for (as_rule rule) (get_or b 0 0) → r ≡ false
lacks_none t b rule r v d o e =
    e ∙ ap (λ n. lacks_room_for (as_rule rule) n) (n_is b) ∙ ap (λ d. lacks_room_for d (decode b).n) (sym (due-as t b rule d))
    ∙ has_room t v.good.big (decode b) v.fit.inv o

pub stepped_by : (t : Table) (ws : List ℕ) (a : ℕ) (b b' : List ℕ) (rule : code.Rule) (z : Set) (taken used lo hi : ℕ) → IsDue t b rule
    → Chose t ws a b z taken used → b' ≡ encode (fire t.size (as_rule rule) (decode b) z)
    → Closing t.size (fire t.size (as_rule rule) (decode b) z) lo hi → Stepped t ws a b b' taken used lo hi
unfolding next
stepped_by t ws a b b' rule z taken used lo hi d e q c =
    let q' : b' ≡ encode (fire t.size (due t (decode b)) (decode b) z) = rw (due-as t b rule d) q in
    let c' : Closing t.size (fire t.size (due t (decode b)) (decode b) z) lo hi = rw (due-as t b rule d) c in
    record { next = rw e q'; left = rw e; took = rw e; uses = rw e; closing = rw e c' }

-- ---- after a rule the buffer is ready again, and holds the next state
module _ (t : Table) (b : List ℕ) (v : Ready t b) (o : Open t (decode b)) (hs : List Set) (w : Words hs) (b' : List ℕ)
    (e : b' ≡ encode (next t (choose t hs (decode b)) (decode b))) where
  next-i : Invariant t (next t (choose t hs (decode b)) (decode b))
  next-i = next-inv t v.good.big hs (decode b) v.fit.inv o

  next-n : Normal t.size (next t (choose t hs (decode b)) (decode b))
  next-n = next-normal t v.good.big v.good.safe hs (decode b) w v.fit.inv v.fit.held.norm

  pub step_ready : Ready t b'
  step_ready = ready_by v.good (rw e (fit_of t v.good.big _ next-i next-n))

  pub step_back : decode b' ≡ next t (choose t hs (decode b)) (decode b)
  step_back = rw e (held_back t v.good.big _ next-i next-n)

-- a rule takes at most one hint, and uses at most those taken
few : (b : Bool) (hs : List Set) (ok : Set → Bool) (h : Set) → ((pick b hs ok h).taken ≤ 1) × ((pick b hs ok h).used ≤ (pick b hs ok h).taken)
unfolding pick offered
few false hs ok h = (omega arith, omega arith)
few true [] ok h = (omega arith, omega arith)
few true (z ∷ hs) ok h = go (ok z)
  where
    go : (c : Bool) → ((offered c z h hs).taken ≤ 1) × ((offered c z h hs).used ≤ (offered c z h hs).taken)
    go true = (omega arith, omega arith)
    go false = (omega arith, omega arith)

pub step_few : (t : Table) (ws : List ℕ) (a : ℕ) (b b' : List ℕ) (taken used lo hi : ℕ) → Stepped t ws a b b' taken used lo hi
    → (taken ≤ 1) × (used ≤ taken)
unfolding choose
step_few t ws a b b' taken used lo hi p =
    let q = few (asks (due t (decode b))) (hints_at ws a) (will_do t (decode b)) (house t (due t (decode b)) (decode b)) in
    (rw p.took at q.0, rw (p.took, p.uses) at q.1)
