-- The rules that compute are the published ones: each step fired is one of the relation's, and each of the relation's is due.
use Prim.Native.Nat.{ℕ, ◌+◌, ◌≤◌}
use native.Mathlib.Omega.{arith}
use mathlib.Core.Bool.{Bool, true, false, ◌||◌, or-true}
use mathlib.Core.List.{List}
use mathlib.Core.Logic.{◌⊎◌, inl, inr, ◌≢◌}
use mathlib.Core.Path.{◌≡◌, refl, sym, ap, ◌∙◌}
use Rattle.rules.proofs.Ends.{opened, weight, choose-ok, next-inv, next-drops, run-ind}
use Rattle.rules.proofs.Invariant.{Open, open_up, open_start, Invariant}
use Rattle.rules.proofs.Keep.{due-is, Ok, allowed-ok, ok_allowed, Due, is_unfold, is_candidate, is_decide, is_conflict}
use Rattle.rules.proofs.Meaning.{safe_at, never_no_room, reached_at, reached_up}
use Rattle.rules.specs.Demands.{Steps, no_step, one_more}
use Rattle.rules.specs.Published.{◌⊑◌, ◌⋢◌, Fires, ConclusiveX, ConclusiveY, Conclusive, ConclusiveAt, BySlide, by_x, by_y, by_neither, Step}
use Rattle.rules.specs.Published.{by-unfold, by-candidate, by-decide, by-conflict}
use Rattle.rules.specs.Rules.{no_room, conclusion, due, allowed, fire, State, Standing, Rule, safe, reached, unfinished}
use Rattle.rules.specs.Runs.{stop, after, next, choose, run}
use Rattle.rules.specs.Table.{Table}
use Rattle.sets.proofs.Members.{member-join}
use Rattle.sets.proofs.Tests.{lt_or_ge}
use Rattle.sets.proofs.Within.{not_both, not_within, Within, Beyond}
use Rattle.sets.specs.Sets.{join, Set, member}

module _ (t : Table) where
  -- within, as the slide has it
  to-⊑ : {x y : Set} → Within t.size x y → ◌⊑◌ t x y
  to-⊑ h = h.at

  of_⊑ : {x y : Set} → ◌⊑◌ t x y → Within t.size x y
  of_⊑ h = record { at = h }

  to-⋢ : {x y : Set} → Beyond t.size x y → ◌⋢◌ t x y
  to-⋢ w h = not_both t.size (of_⊑ h) w

  of_⋢ : {x y : Set} → ◌⋢◌ t x y → Beyond t.size x y
  of_⋢ {x} {y} h = not_within t.size (λ w. h (to-⊑ w))

  -- a run that has not concluded is conclusive neither way
  pub open_not_x : (s : State) → Open t s → ConclusiveX t s → ⊥
  open_not_x s o c = not_both t.size (of_⊑ c.is) (open_up t s o c.j c.below)

  pub open_not_y : (s : State) → Open t s → ConclusiveY t s → ⊥
  open_not_y s o c = c.is (to-⊑ (open_start t s o c.one))

  pub not-open : (s : State) → conclusion t s ≢ unfinished → (ConclusiveX t s) ⊎ (ConclusiveY t s)
  not-open s h = go (conclusion t s) refl
    where
      go : (r : Standing) → conclusion t s ≡ r → (ConclusiveX t s) ⊎ (ConclusiveY t s)
      go (safe j) e = let a = safe_at t s j e in inl (record { j = j; below = a.lt; is = to-⊑ a.is })
      go reached e = let a = reached_at t s e in inr (record { one = a.0; is = to-⋢ a.1 })
      go no_room e = absurd (never_no_room t s e)
      go unfinished e = absurd (h e)

  -- how a run stands, in the slide's words
  pub by_slide : (s : State) → BySlide t s (conclusion t s)
  by_slide s = go (conclusion t s) refl
    where
      go : (r : Standing) → conclusion t s ≡ r → BySlide t s r
      go (safe j) e = let a = safe_at t s j e in by_x (record { below = a.lt; is = to-⊑ a.is; first = λ i l. to-⋢ (a.first i l) })
      go reached e =
          let a = reached_at t s e in
          by_y (λ c. not_both t.size (of_⊑ c.is) (reached_up t s e c.j c.below)) (record { one = a.0; is = to-⋢ a.1 })
      go no_room e = absurd (never_no_room t s e)
      go unfinished e = by_neither (λ w. elim w [ inl c ↦ open_not_x s e c | inr c ↦ open_not_y s e c ])

  module _ (big : t.size ≤ 256) where
    both-in : (x y z : Set) → Within t.size x z → Within t.size y z → Within t.size (join t.size x y) z
    both-in x y z h k =
        record {
          at = λ s l e.
              elim (or-true_or (member x s) (member y s) (sym (member-join t.size big x y s l) ∙ e)) [ inl p ↦ h.at s l p | inr p ↦ k.at s l p ];
        }
      where
        or-true_or : (a b : Bool) → (a || b) ≡ true → (a ≡ true) ⊎ (b ≡ true)
        or-true_or true b e = inl refl
        or-true_or false b e = inr e

    in_left : (x y z : Set) → Within t.size (join t.size x y) z → Within t.size x z
    in_left x y z h = record { at = λ s l e. h.at s l (member-join t.size big x y s l ∙ ap (λ c. c || member y s) e) }

    in_right : (x y z : Set) → Within t.size (join t.size x y) z → Within t.size y z
    in_right x y z h = record { at = λ s l e. h.at s l (member-join t.size big x y s l ∙ ap (λ c. member x s || c) e ∙ or-true (member x s)) }

    -- the rule due, with a choice allowed, fires
    due-fires : (s : State) (z : Set) → s.k ≤ s.n → (r : Rule) → Due t s r → Ok t r s z → Fires t s z r (fire t.size r s z)
    unfolding fire
    due-fires s z le r (is_unfold p h) k = by-unfold p (to-⊑ h)
    due-fires s z le r (is_candidate p h) k = by-candidate p (to-⋢ h) (to-⋢ k.1) (to-⊑ k.0)
    due-fires s z le r (is_decide p h) k = by-decide (omega arith) (to-⋢ h) (to-⋢ k.1) (to-⊑ k.0)
    due-fires s z le r (is_conflict p h) k = by-conflict (omega arith) (to-⊑ h) (to-⊑ k.0) (to-⊑ (both-in _ _ z k.2 k.1))

    pub is_step : (s : State) (z : Set) → Invariant t s → Open t s → allowed t (due t s) s z ≡ true → Step t s (due t s) z (fire t.size (due t s) s z)
    is_step s z v o e =
        record {
          open_x = open_not_x s o;
          open_y = open_not_y s o;
          fires = due-fires s z v.le (due t s) (due-is t s) (allowed-ok t (due t s) s z e);
        }

    -- only one rule is due
    due-only : (s : State) (r r' : Rule) → Due t s r → Due t s r' → r ≡ r'
    due-only s r r' (is_unfold p h) (is_unfold p' h') = refl
    due-only s r r' (is_unfold p h) (is_candidate p' h') = absurd (not_both t.size h h')
    due-only s r r' (is_unfold p h) (is_decide p' h') = absurd (p' p)
    due-only s r r' (is_unfold p h) (is_conflict p' h') = absurd (p' p)
    due-only s r r' (is_candidate p h) (is_unfold p' h') = absurd (not_both t.size h' h)
    due-only s r r' (is_candidate p h) (is_candidate p' h') = refl
    due-only s r r' (is_candidate p h) (is_decide p' h') = absurd (p' p)
    due-only s r r' (is_candidate p h) (is_conflict p' h') = absurd (p' p)
    due-only s r r' (is_decide p h) (is_unfold p' h') = absurd (p p')
    due-only s r r' (is_decide p h) (is_candidate p' h') = absurd (p p')
    due-only s r r' (is_decide p h) (is_decide p' h') = refl
    due-only s r r' (is_decide p h) (is_conflict p' h') = absurd (not_both t.size h' h)
    due-only s r r' (is_conflict p h) (is_unfold p' h') = absurd (p p')
    due-only s r r' (is_conflict p h) (is_candidate p' h') = absurd (p p')
    due-only s r r' (is_conflict p h) (is_decide p' h') = absurd (not_both t.size h h')
    due-only s r r' (is_conflict p h) (is_conflict p' h') = refl

    fires_due : (s : State) (z : Set) (r : Rule) (s' : State) → Fires t s z r s' → (Due t s r) × Ok t r s z × (s' ≡ fire t.size r s z)
    unfolding fire
    fires_due s z r s' (by-unfold p h) = (is_unfold p (of_⊑ h), tt, refl)
    fires_due s z r s' (by-candidate p h a c) = (is_candidate p (of_⋢ h), (of_⊑ c, of_⋢ a), refl)
    fires_due s z r s' (by-decide p h a c) = (is_decide (λ (e : s.k ≡ s.n). omega arith) (of_⋢ h), (of_⊑ c, of_⋢ a), refl)
    fires_due s z r s' (by-conflict p h a c) =
        (is_conflict (λ (e : s.k ≡ s.n). omega arith) (of_⊑ h), (of_⊑ a, in_right _ _ z (of_⊑ c), in_left _ _ z (of_⊑ c)), refl)

    pub step_is : (s : State) (r : Rule) (z : Set) (s' : State) → Step t s r z s'
        → (conclusion t s ≡ unfinished) × (r ≡ due t s) × (allowed t r s z ≡ true) × (s' ≡ fire t.size r s z)
    step_is s r z s' p =
        let d = fires_due s z r s' p.fires in
        (still_open, due-only s r (due t s) d.0 (due-is t s), ok_allowed t r s z d.1, d.2)
      where
        still_open : conclusion t s ≡ unfinished
        still_open = elim (opened t s) [
          | inl o ↦ o
          | inr h ↦ elim (not-open s h) [ inl c ↦ absurd (p.open_x c) | inr c ↦ absurd (p.open_y c) ]
        ]

    -- a run is so many steps of the published rules, with the choices that its hints make
    pub run-steps : (b : ℕ) (hs : List Set) (s : State) → Invariant t s
        → Steps t (run t b hs s).rules (run t b hs s).taken (run t b hs s).used hs s (run t b hs s).left (run t b hs s).state
    unfolding stop after next
    run-steps = run-ind t big (λ b hs s o. Steps t o.rules o.taken o.used hs s o.left o.state) (λ b hs s v d. no_step)
        (λ b hs s o v p q. one_more (is_step s _ v p (ok_allowed t (due t s) s _ (choose-ok t big hs s v p))) q)

    -- ---- the hints and the state decide the steps
    -- a conclusive state has no step
    no_more : {s s' : State} {r : Rule} {z : Set} → Conclusive t s → Step t s r z s' → ⊥
    no_more (inl c) p = p.open_x c
    no_more (inr c) p = p.open_y c

    -- one choice, one next state
    step_once : {s s' s'' : State} {r r' : Rule} {z : Set} → Step t s r z s' → Step t s r' z s'' → s' ≡ s''
    step_once {s} {s'} {s''} {r} {r'} {z} p q =
        let (_, e, _, f) = step_is s r z s' p in
        let (_, e', _, f') = step_is s r' z s'' q in
        f ∙ ap (λ k. fire t.size k s z) (e ∙ sym e') ∙ sym f'

    -- sequences of one length agree in all
    pub record Agree (m m' taken taken' used used' : ℕ) (left left' : List Set) (e e' : State) : Type 0 where
      pub rules : m ≡ m'
      pub took : taken ≡ taken'
      pub uses : used ≡ used'
      pub rest : left ≡ left'
      pub ends : e ≡ e'

    -- sequences that must agree: of one length; both to where x or y is conclusive; one to there, and no longer than the other
    pub data Settled (m m' : ℕ) (e e' : State) : Type 0 where
      one-length : m ≡ m' → Settled m m' e e'
      both_end : Conclusive t e → Conclusive t e' → Settled m m' e e'
      no_longer : Conclusive t e → m ≤ m' → Settled m m' e e'

    settled_rest : {m m' : ℕ} {e e' : State} → Settled (1 + m) (1 + m') e e' → Settled m m' e e'
    settled_rest (one-length q) = one-length (omega arith)
    settled_rest (both_end c d) = both_end c d
    settled_rest (no_longer c l) = no_longer c (omega arith)

    pub agree : {m m' taken taken' used used' : ℕ} {hints left left' : List Set} {s e e' : State} → Steps t m taken used hints s left e
        → Steps t m' taken' used' hints s left' e' → Settled m m' e e' → Agree m m' taken taken' used used' left left' e e'
    agree no_step no_step w = record { rules = refl; took = refl; uses = refl; rest = refl; ends = refl }
    agree no_step (one_more p q) (one-length e) = absurd (omega arith)
    agree no_step (one_more p q) (both_end c d) = absurd (no_more c p)
    agree no_step (one_more p q) (no_longer c l) = absurd (no_more c p)
    agree (one_more p q) no_step (one-length e) = absurd (omega arith)
    agree (one_more p q) no_step (both_end c d) = absurd (no_more d p)
    agree (one_more p q) no_step (no_longer c l) = absurd (omega arith)
    agree {hints = hints} {s = s} (one_more {s' = s₁} p q) (one_more {s' = s₂} p' q') w =
        let same : s₂ ≡ s₁ = step_once p' p in
        let rest = agree q (rw same at q') (settled_rest w) in
        record {
          rules = ap (λ k. 1 + k) rest.rules;
          took = ap (λ k. (choose t hints s).taken + k) rest.took;
          uses = ap (λ k. (choose t hints s).used + k) rest.uses;
          rest = rest.rest;
          ends = rest.ends;
        }

    -- steps go down in weight, so none leads back
    pub lighter : {m taken used : ℕ} {hints left : List Set} {s e : State} → Invariant t s → Steps t m taken used hints s left e
        → m + weight t e ≤ weight t s
    unfolding next
    lighter v no_step = omega arith
    lighter {hints = hints} v (one_more {s = s} {s' = s'} {rule = r} p q) =
        let (o, d, _, f) = step_is s r (choose t hints s).set s' p in
        let same : s' ≡ next t (choose t hints s) s = f ∙ due-next s hints r d in
        omega (arith, lighter (rw same (next-inv t big hints s v o)) q, ap (weight t) same, next-drops t big hints s v o)
      where
        due-next : (s : State) (hints : List Set) (r : Rule) → r ≡ due t s → fire t.size r s (choose t hints s).set ≡ next t (choose t hints s) s
        due-next s hints r d = ap (λ k. fire t.size k s (choose t hints s).set) d

  -- ---- one standing for a state
  at_once : {s : State} {i j : ℕ} → ConclusiveAt t s i → ConclusiveAt t s j → i ≡ j
  at_once {i = i} {j} c d = elim (lt_or_ge i j) [
    | inl l ↦ absurd (d.first i l c.is)
    | inr l ↦ elim (lt_or_ge j i) [ inl k ↦ absurd (c.first j k d.is) | inr k ↦ omega arith ]
  ]

  some_x : {s : State} {j : ℕ} → ConclusiveAt t s j → ConclusiveX t s
  some_x {j = j} c = record { j = j; below = c.below; is = c.is }

  pub slide_once : {s : State} {r r' : Standing} → BySlide t s r → BySlide t s r' → r ≡ r'
  slide_once (by_x c) (by_x d) = ap safe (at_once c d)
  slide_once (by_x c) (by_y n d) = absurd (n (some_x c))
  slide_once (by_x c) (by_neither n) = absurd (n (inl (some_x c)))
  slide_once (by_y n c) (by_x d) = absurd (n (some_x d))
  slide_once (by_y n c) (by_y m d) = refl
  slide_once (by_y n c) (by_neither m) = absurd (m (inr c))
  slide_once (by_neither n) (by_x d) = absurd (n (inl (some_x d)))
  slide_once (by_neither n) (by_y m d) = absurd (n (inr d))
  slide_once (by_neither n) (by_neither m) = refl
