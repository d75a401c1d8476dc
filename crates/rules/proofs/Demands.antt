-- The demands of specs/Demands.antt, each proved.
use Prim.Native.Nat.{ℕ, suc, ◌+◌, ◌-◌, ◌≤◌, ◌<◌, ◌^◌}
use native.Mathlib.Omega.{arith}
use mathlib.Core.Bool.{Bool}
use mathlib.Core.List.{List}
use mathlib.Core.Logic.{◌⊎◌, inl, inr, ◌↔◌, ◌≢◌}
use mathlib.Core.Path.{◌≡◌, refl, sym, ap, ◌∙◌}
use lib.ListN.{length, get_or}
use Rattle.rules.proofs.Adjoint.{f-mono, g-mono, forward-backward}
use Rattle.rules.proofs.Budget.{run-standing, run-keeps, run-most, run-spent, budget}
use Rattle.rules.proofs.Ends.{opened, run_none, run-done, enough}
use Rattle.rules.proofs.Entry.{entry-inv, inv_entry}
use Rattle.rules.proofs.Held.{fit_by, held_back, kept-accepts}
use Rattle.rules.proofs.Invariant.{put_same, put_other, Invariant}
use Rattle.rules.proofs.Keep.{due-is, allowed-ok, ok_allowed, few_sets, house-ok, keep}
use Rattle.rules.proofs.Meaning.{never_no_room, closed_safe, real_walked, safe_closed, none_shorter, reached_real, walk_length, reached_bad}
use Rattle.rules.proofs.Normal.{fire-normal}
use Rattle.rules.proofs.Published.{open_not_x, open_not_y, not-open, by_slide, is_step, step_is, run-steps}
use Rattle.rules.proofs.Published.{Settled, both_end, no_longer, one-length, agree, slide_once}
use Rattle.rules.specs.Buffer.{decode}
use Rattle.rules.specs.Demands.{bound, Passes, Ended, Same, Adjoint, Kept, Published, Course, Decided, Demand2, Demand3, SameVerdict, OneAnswer}
use Rattle.rules.specs.Demands.{Budget, Encoding, Rewritten, ended_safe, ended_reached, same_safe, same_reached}
use Rattle.rules.specs.Published.{Conclusive, BySlide, by_x, by_y, by_neither}
use Rattle.rules.specs.ShownWalk.{shown_walk}
use Rattle.rules.specs.Rules.{no_room, fresh, fresh_of, conclusion, due, State, Standing, safe, reached, unfinished}
use Rattle.rules.specs.Runs.{stop, followed_by, run, Ran}
use Rattle.rules.specs.Table.{f, g, Table}
use Rattle.rules.specs.Walks.{BadReached, RealWalk, Closed}
use Rattle.sets.proofs.Tests.{clash, lt_or_ge, Says, pass, fail}
use Rattle.sets.proofs.Within.{within-says, is_within, not_both, within-true, within-false, not_within, empty-within, within-full, Within, Beyond}
use Rattle.sets.specs.Sets.{Set, empty, full, within}

ended_or : (r : Standing) → r ≢ unfinished → r ≢ no_room → Ended r
ended_or (safe j) h k = ended_safe j
ended_or reached h k = ended_reached
ended_or unfinished h k = absurd (h refl)
ended_or no_room h k = absurd (k refl)

not-unfinished : {r : Standing} → Ended r → r ≢ unfinished
not-unfinished (ended_safe j) e = let z : ◌≡◌ {A = ℕ} 0 1 = cc in omega arith
not-unfinished ended_reached e = let z : ◌≡◌ {A = ℕ} 0 1 = cc in omega arith

-- a real walk shows that a bad state is reached
pub shown-bad : (t : Table) {w : List ℕ} → RealWalk t w → BadReached t
shown-bad t r = let a = real_walked t r in record { states = _; last = a.0; walked = a.1; bad = a.2 }

module _ (t : Table) (big : t.size ≤ 256) where
  pub adjoint : Adjoint t
  adjoint =
      record {
        exactly = λ X Y. go X Y (within-says t.size X (g t Y));
        f_grows = λ X Y h. within-true t.size (f-mono t big X Y (is_within t.size X Y h));
        g_grows = λ X Y h. within-true t.size (g-mono t big X Y (is_within t.size X Y h));
      }
    where
      go : (X Y : Set) {b : Bool} → Says (Within t.size X (g t Y)) (Beyond t.size X (g t Y)) b → within t.size (f t X) Y ≡ b
      go X Y (pass h) = within-true t.size ((forward-backward t big X Y).1 h)
      go X Y (fail w) = within-false t.size (not_within t.size (λ h. not_both t.size ((forward-backward t big X Y).0 h) w))

  -- x_1 of a fresh run is full
  fresh_up : (w : Set) (j : ℕ) → suc j < 2 → Within t.size w ((fresh t).x (suc j))
  unfolding fresh_of
  fresh_up w j l = let q : j ≡ 0 = omega arith in rw (q, put_same) (within-full t.size big w)

  fresh-x0 : (fresh t).x 0 ≡ empty
  unfolding fresh_of
  fresh-x0 = put_other (λ j. empty) 1 (full t.size) 0 (omega arith)

  pub fresh-inv : Invariant t (fresh t)
  unfolding fresh_of
  fresh-inv =
      record {
        two = omega arith;
        cap = omega arith;
        pos = omega arith;
        le = omega arith;
        x0 = rw fresh-x0 (empty-within t.size empty);
        up = λ j l. fresh_up _ j l;
        base = λ j l. fresh_up _ j l;
        flow = λ j l. fresh_up _ j l;
        fine = λ j e. let q : j ≡ 0 = omega arith in rw (q, fresh-x0) (empty-within t.size t.safe);
        top = λ j a e. absurd (omega arith);
        back = λ j a e. absurd (omega arith);
        apart = λ j a e. absurd (omega arith);
      }

  pub kept : Kept t
  kept =
      record {
        fresh_passes = inv_entry t (fresh t) fresh-inv;
        rules_keep = λ s z p o e. inv_entry t _ (keep t big (due t s) s z (entry-inv t s p) o (due-is t s) (allowed-ok t (due t s) s z e));
        house_allowed = λ s p o. ok_allowed t (due t s) s _ (house-ok t big s (entry-inv t s p) o (due t s) (due-is t s));
        room = λ s p o. few_sets t s (entry-inv t s p) o;
      }

  pub published : Published t
  published =
      record {
        is_step = λ s z p o e. is_step t big s z (entry-inv t s p) o e;
        step_is = λ s r z s' p q. step_is t big s r z s' q;
      }

  module _ (s : State) (v : Invariant t s) (b : ℕ) (hs : List Set) where
    -- the run's result is the conclusion of a state that keeps the invariant
    kept-state : Invariant t (run t b hs s).state
    kept-state = run-keeps t big b hs s v

    at-state : {r : Standing} → (run t b hs s).standing ≡ r → conclusion t (run t b hs s).state ≡ r
    at-state e = sym (run-standing t big b hs s v) ∙ e

    has_ended : (run t b hs s).standing ≢ unfinished → Ended (run t b hs s).standing
    has_ended h = ended_or _ h (λ e. never_no_room t _ (at-state e))

    pub reached_is_bad : (run t b hs s).standing ≡ reached → BadReached t
    reached_is_bad e =
        let r = reached_bad t big _ kept-state (at-state e) in
        record { states = _; last = r.0; walked = r.1; bad = r.2 }

    pub safe_is_closed : (j : ℕ) → (run t b hs s).standing ≡ safe j → Closed t ((run t b hs s).state.x j)
    safe_is_closed j e = safe_closed t big _ j kept-state (at-state e)

    pub ends_by : bound t.size ≤ b → Ended (run t b hs s).standing
    ends_by h = has_ended (enough t big b hs s v h)

  -- the rules of a run are no more than those of the run that is given the bound
  pub rules_bound : (s : State) → Invariant t s → (b : ℕ) (hs : List Set) → (run t b hs s).rules ≤ bound t.size
  unfolding followed_by stop
  rules_bound s v b hs = elim (lt_or_ge b (bound t.size)) [
    | inl l ↦ omega (arith, run-most t big b hs s v)
    | inr l ↦
        let q : bound t.size + (b - bound t.size) ≡ b = omega arith in
        let o : Ran = run t (bound t.size) hs s in
        let d = run-done t (b - bound t.size) o.left o.state
        (λ e. enough t big (bound t.size) hs s v (omega arith) (run-standing t big (bound t.size) hs s v ∙ e)) in
        rw (← q, budget t big (bound t.size) hs s v (b - bound t.size), d) (omega (arith, run-most t big (bound t.size) hs s v))
  ]

  -- ---- the published rules under hints, from a run that passes
  module _ (s : State) (v : Invariant t s) (hs : List Set) where
    ended_conclusive : (b : ℕ) → (run t b hs s).standing ≢ unfinished → Conclusive t (run t b hs s).state
    ended_conclusive b h = not-open t _ (λ e. h (run-standing t big b hs s v ∙ e))

    course : (b : ℕ) → (run t b hs s).standing ≢ unfinished → Course t hs s
    course b h =
        let o : Ran = run t b hs s in
        record {
          rules = o.rules;
          taken = o.taken;
          used = o.used;
          left = o.left;
          end = o.state;
          steps = run-steps t big b hs s v;
          conclusive = ended_conclusive b h;
        }

    pub decided : Decided t hs s
    unfolding course
    decided =
        record {
          once = λ c c'.
              let a = agree t big c.steps c'.steps (both_end c.conclusive c'.conclusive) in
              (a.rules, a.took, a.uses, a.rest, a.ends);
          ends = (course (bound t.size) (enough t big _ hs s v (omega arith)), run-most t big (bound t.size) hs s v);
        }

    -- what a run that ended counts is what any course counts
    pub counts : (b : ℕ) → Ended (run t b hs s).standing → (c : Course t hs s)
        → ((run t b hs s).rules ≡ c.rules) × ((run t b hs s).taken ≡ c.taken) × ((run t b hs s).used ≡ c.used)
    counts b e c =
        let a = agree t big (run-steps t big b hs s v) c.steps (both_end (ended_conclusive b (not-unfinished e)) c.conclusive) in
        (a.rules, a.took, a.uses)

    -- a course longer than the budget, or an end
    unfinished_iff : (b : ℕ) (c : Course t hs s) → ((run t b hs s).standing ≡ unfinished) ↔ (b < c.rules)
    unfinished_iff b c = (more, less)
      where
        more : (run t b hs s).standing ≡ unfinished → b < c.rules
        more e = elim (lt_or_ge b c.rules) [
          | inl l ↦ l
          | inr l ↦
              let spent = run-spent t big b hs s v e in
              let a = agree t big c.steps (run-steps t big b hs s v) (no_longer c.conclusive (omega arith)) in
              absurd (still_open e (rw a.ends at c.conclusive))
        ]
          where
            still_open : (run t b hs s).standing ≡ unfinished → Conclusive t (run t b hs s).state → ⊥
            still_open e (inl w) = open_not_x t _ (at-state s v b hs e) w
            still_open e (inr w) = open_not_y t _ (at-state s v b hs e) w

        less : b < c.rules → (run t b hs s).standing ≡ unfinished
        less l = elim (opened t (run t b hs s).state) [
          | inl o ↦ run-standing t big b hs s v ∙ o
          | inr d ↦
              let a = counts b (has_ended s v b hs (λ e. d (at-state s v b hs e))) c in
              absurd (omega (arith, a.0, run-most t big b hs s v))
        ]

  -- ---- the demands, of a run and what it shows
  module _ (s : State) (p : Passes t s) (b : ℕ) (hs : List Set) (set : Set) (walk : List ℕ) where
    v : Invariant t s
    v = entry-inv t s p

    abbrev o : Ran
    o = run t b hs s

    module _ (set_is : (j : ℕ) → o.standing ≡ safe j → set ≡ o.state.x j) (walk_is : o.standing ≡ reached → walk ≡ shown_walk t o.state) where
      pub demand_2 : Demand2 t s b hs o set walk
      demand_2 =
          record {
            rules_published = run-steps t big b hs s v;
            stands = rw (run-standing t big b hs s v) (by_slide t o.state);
            spent = run-spent t big b hs s v;
            set_is = set_is;
            walk_is = walk_is;
            safe_reason = λ j e. rw (set_is j e) (safe_is_closed s v b hs j e);
            reached_walk = λ e. rw (walk_is e) (reached_real t big _ (kept-state s v b hs) (at-state s v b hs e));
            exactly = λ e. (λ w. closed_safe t (safe_is_closed s v b hs w.0 w.1), says_safe _ refl e);
          }
        where
          says_safe : (r : Standing) → o.standing ≡ r → Ended r → (BadReached t → ⊥) → (j : ℕ) × (r ≡ safe j)
          says_safe r e (ended_safe j) h = (j, refl)
          says_safe r e ended_reached h = absurd (h (reached_is_bad s v b hs e))

      pub demand_3 : Demand3 t s b hs o set walk
      demand_3 =
          record {
            ends = ends_by s v b hs;
            in_bound = rules_bound s v b hs;
            in_budget = run-most t big b hs s v;
            counted = λ c e. counts s v hs b e c;
            unfinished_exactly = unfinished_iff s v hs b;
            fewest = λ e m u w d. elim (lt_or_ge m (o.state.n - 1)) [
              | inl l ↦ absurd (clash (none_shorter t big _ (kept-state s v b hs) w (omega (arith, (kept-state s v b hs).two))) d.unsafe)
              | inr l ↦ rw (walk_is e, walk_length t big o.state) l
            ];
          }

  pub budgets : (s : State) → Passes t s → (b : ℕ) (hs : List Set) → Budget t s b hs
  unfolding stop
  budgets s p b hs = record { split = budget t big b hs s (entry-inv t s p); concluded_at_once = λ h. rw (run_none t hs s) }

  -- two answers that meet demand 2 never disagree, whatever they come from
  pub same_verdicts : {s s' : State} {b b' : ℕ} {hs hs' : List Set} {o o' : Ran} {set set' : Set} {walk walk' : List ℕ}
      → Demand2 t s b hs o set walk → Demand2 t s' b' hs' o' set' walk' → SameVerdict t o o'
  same_verdicts {o = o} {o'} d d' = record { same = λ e e'. go _ _ refl refl e e' }
    where
      go : (r r' : Standing) → o.standing ≡ r → o'.standing ≡ r' → Ended r → Ended r' → Same r r'
      go r r' q q' (ended_safe i) (ended_safe j) = same_safe i j
      go r r' q q' (ended_safe i) ended_reached = absurd (closed_safe t (d.safe_reason i q) (shown-bad t (d'.reached_walk q')))
      go r r' q q' ended_reached (ended_safe j) = absurd (closed_safe t (d'.safe_reason j q') (shown-bad t (d.reached_walk q)))
      go r r' q q' ended_reached ended_reached = same_reached

  -- ---- one answer: what demand 2 allows within the budget
  module _ {s : State} {b : ℕ} {hs : List Set} where
    only_one : (o o' : Ran) {set set' : Set} {walk walk' : List ℕ} → Demand2 t s b hs o set walk → Demand2 t s b hs o' set' walk'
        → o.rules ≤ b → o'.rules ≤ b → o ≡ o'
    only_one o o' d d' l l' = go d.stands d'.stands refl refl
      where
        alike : Settled t big o.rules o'.rules o.state o'.state → o ≡ o'
        alike w =
            let a = agree t big d.rules_published d'.rules_published w in
            let q = slide_once t (rw a.ends at d.stands) d'.stands in
            λ i. record { standing = q i; rules = a.rules i; taken = a.took i; used = a.uses i; left = a.rest i; state = a.ends i }

        alike' : Settled t big o'.rules o.rules o'.state o.state → o ≡ o'
        alike' w =
            let a = agree t big d'.rules_published d.rules_published w in
            let q = slide_once t (rw a.ends at d'.stands) d.stands in
            sym (λ i. record { standing = q i; rules = a.rules i; taken = a.took i; used = a.uses i; left = a.rest i; state = a.ends i })

        ended : {e : State} {r : Standing} → BySlide t e r → (r ≡ unfinished) ⊎ Conclusive t e
        ended (by_x c) = inr (inl (record { j = _; below = c.below; is = c.is }))
        ended (by_y n c) = inr (inr c)
        ended (by_neither n) = inl refl

        go : {r r' : Standing} → BySlide t o.state r → BySlide t o'.state r' → o.standing ≡ r → o'.standing ≡ r' → o ≡ o'
        go p p' e e' = elim (ended p) [
          | inl u ↦ elim (ended p') [
            | inl u' ↦ alike (one-length (d.spent (e ∙ u) ∙ sym (d'.spent (e' ∙ u'))))
            | inr c' ↦ alike' (no_longer c' (omega (arith, d.spent (e ∙ u))))
          ]
          | inr c ↦ elim (ended p') [
            | inl u' ↦ alike (no_longer c (omega (arith, d'.spent (e' ∙ u'))))
            | inr c' ↦ alike (both_end c c')
          ]
        ]

    pub one_answer : OneAnswer t s b hs
    one_answer =
        record {
          one = λ o o' set set' walk walk' d d' l l'.
              let e = only_one o o' d d' l l' in (
                e,
                λ j q. d.set_is j q ∙ ap (λ a. a.state.x j) e ∙ sym (d'.set_is j (sym (ap (λ a. a.standing) e) ∙ q)),
                λ q. d.walk_is q ∙ ap (λ a. shown_walk t a.state) e ∙ sym (d'.walk_is (sym (ap (λ a. a.standing) e) ∙ q)),
              );
        }

  pub encoding : (b : List ℕ) → length b ≡ 2066 → ((i : ℕ) → get_or b i 0 < 2 ^ 64) → Encoding t b
  encoding b len words =
      record {
        holds = λ e. let h = fit_by t big b len words e in (decode b, h.held.same, h.held.norm, inv_entry t (decode b) h.inv);
        passes = λ s e m p. rw (← e) (kept-accepts t big s (entry-inv t s p) m);
        one = λ s s' e e' m m' p p'. sym (held_back t big s (entry-inv t s p) m) ∙ ap decode (e ∙ sym e') ∙ held_back t big s' (entry-inv t s' p') m';
      }

  pub rewritten : Rewritten t
  rewritten =
      record {
        again = λ s z p m o own e.
            let i = entry-inv t s p in
            kept-accepts t big _
            (keep t big (due t s) s z i o (due-is t s) (allowed-ok t (due t s) s z e))
            (fire-normal t big (due t s) s z i m (due-is t s) own);
      }
