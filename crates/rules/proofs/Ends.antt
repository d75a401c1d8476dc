-- Every run ends: each rule lowers a weight. What a run does, rule by rule.
use Prim.Native.Nat.{ℕ, zero, suc, ◌+◌, ◌-◌, ◌*◌, ◌≤◌, ◌<◌}
use native.Mathlib.Nat.{mul-suc}
use native.Mathlib.Numerals.{add-one}
use native.Mathlib.Omega.{arith}
use mathlib.Core.Bool.{Bool, true, false, not, and-false}
use mathlib.Core.List.{List, [], ◌∷◌}
use mathlib.Core.Logic.{◌⊎◌, inl, inr, ◌≢◌}
use mathlib.Core.Path.{◌≡◌, refl, ap}
use borrow.Author.Tests.{ne_eqb}
use Rattle.rules.proofs.Invariant.{put_other, cut_low, Open, Invariant}
use Rattle.rules.proofs.Keep.{due-is, Ok, allowed-ok, few_sets, house-ok, cut-sub, keep, Due, is_unfold, is_candidate, is_decide, is_conflict}
use Rattle.rules.specs.Rules.{no_room, put, cut, conclusion, due, allowed, house, fire, State, Standing, Rule, safe, reached, unfinished, Unfold}
use Rattle.rules.specs.Rules.{Candidate, Decide, Conflict}
use Rattle.rules.specs.Runs.{pick, stop, asks, offered, after, will_do, choose, next, lacks_room, lacks_room_for, run, Ran}
use Rattle.rules.specs.Table.{f, Table}
use Rattle.sets.proofs.Count.{count-le, count-lt, count-max, count_none}
use Rattle.sets.proofs.Search.{sum-le, sum_lt}
use Rattle.sets.proofs.Tests.{and-true}
use Rattle.sets.proofs.Within.{not_both, not_within, within-trans, meet_right}
use Rattle.sets.specs.Search.{sum}
use Rattle.sets.specs.Sets.{Set, full, sound, count}

sum_more : (n : ℕ) (h : ℕ → ℕ) → sum (n + 1) h ≡ h n + sum n h
unfolding sum
sum_more n h = rw add-one

sum-but_first : (n c : ℕ) (h : ℕ → ℕ) → h 0 ≤ 0 → ((i : ℕ) → h i ≤ c) → sum (suc n) h ≤ n * c
unfolding sum
sum-but_first zero c h z e = omega arith
sum-but_first (suc n) c h z e = omega (arith, e (suc n), sum-but_first n c h z e)

counted : (N m d k S : ℕ) → m + d ≡ N + 1 → S ≤ m * N → k ≤ m + 1 → 1 ≤ m → 2 * S + 2 * ((N + 1) * d) + k ≤ 2 * (N * N) + 2 * N + 2 * (N + 1)
counted N m d k S e h hk hm = let p : (m + d) * N ≡ (N + 1) * N = ap (λ q. q * N) e in omega arith

module _ (t : Table) where
  unfoldable pub weight : State → ℕ
  weight s = 2 * sum s.n (λ j. count t.size (s.x j)) + 2 * ((t.size + 1) * (t.size + 2 - s.n)) + s.k

  pub run_none : (hs : List Set) (s : State) → run t zero hs s ≡ stop (conclusion t s) hs s
  unfolding run
  run_none hs s = refl

  pub opened : (s : State) → Open t s ⊎ (conclusion t s ≢ unfinished)
  opened s = go (conclusion t s)
    where
      go : (c : Standing) → (c ≡ unfinished) ⊎ (c ≢ unfinished)
      go (safe j) = inr (λ e. let z : ◌≡◌ {A = ℕ} 0 1 = cc in omega arith)
      go reached = inr (λ e. let z : ◌≡◌ {A = ℕ} 0 1 = cc in omega arith)
      go no_room = inr (λ e. let z : ◌≡◌ {A = ℕ} 0 1 = cc in omega arith)
      go unfinished = inl refl

  -- a run that has concluded
  pub run-done : (b : ℕ) (hs : List Set) (s : State) → conclusion t s ≢ unfinished → run t b hs s ≡ stop (conclusion t s) hs s
  unfolding run
  run-done zero hs s h = refl
  run-done (suc b) hs s h = go (conclusion t s) refl
    where
      go : (c : Standing) → conclusion t s ≡ c → run t (suc b) hs s ≡ stop (conclusion t s) hs s
      go (safe j) q = rw (q, run)
      go reached q = rw (q, run)
      go no_room q = rw (q, run)
      go unfinished q = absurd (h q)

  module _ (big : t.size ≤ 256) where
    -- refusal 11 never comes: an open run has a place for another set
    pub has_room : (s : State) → Invariant t s → Open t s → lacks_room t s ≡ false
    unfolding lacks_room_for
    has_room s v o = rw (ne_eqb s.n 258 (λ (e : s.n ≡ 258). omega (arith, few_sets t s v o))) (and-false (not (asks (due t s))))

    -- one rule of a run that has not concluded
    pub run-open : (b : ℕ) (hs : List Set) (s : State) → Invariant t s → Open t s
        → run t (suc b) hs s ≡ after (choose t hs s) (run t b (choose t hs s).left (next t (choose t hs s) s))
    unfolding run
    run-open b hs s v o = rw (o, has_room s v o, run)

    drop-unfold : (s : State) (z : Set) → Invariant t s → Open t s → Due t s Unfold → weight (fire t.size Unfold s z) < weight s
    unfolding fire weight
    drop-unfold s z v o (is_unfold p h) =
        let x' : ℕ → Set = put s.x s.n (full t.size) in
        let d : t.size + 2 - s.n ≡ suc (t.size + 2 - (s.n + 1)) = omega (arith, few_sets t s v o) in
        rw (sum_more s.n (λ j. count t.size (x' j)), d, mul-suc)
        (omega (
          arith,
          count-max t.size (x' s.n),
          sum-le s.n (λ j. count t.size (x' j)) (λ j. count t.size (s.x j))
              (λ j l. rw (put_other s.x s.n (full t.size) j (omega arith)) (omega arith)),
        ))

    drop-conflict : (s : State) (z : Set) → Invariant t s → Open t s → Due t s Conflict → Ok t Conflict s z → weight (fire t.size Conflict s z) < weight s
    unfolding fire weight
    drop-conflict s z v o (is_conflict p h) (zy, iz, fz) =
        omega (
          arith,
          sum_lt s.n (λ j. count t.size (cut t.size s.x s.k z j)) (λ j. count t.size (s.x j))
              (λ j l. count-le t.size (cut-sub t big s.x s.k z j)) s.k (omega (arith, v.le))
              (count-lt t.size (cut-sub t big s.x s.k z s.k)
              (not_within t.size {x = s.x s.k} {y = cut t.size s.x s.k z s.k} (λ q. not_both t.size
              (within-trans t.size (rw (cut_low t.size s.x s.k z s.k (omega arith)) at q)
              (within-trans t.size (meet_right t.size big (s.x s.k) z) zy))
              (v.apart s.k (omega arith) (omega (arith, v.le)))))),
        )

    drops : (r : Rule) (s : State) (z : Set) → Invariant t s → Open t s → Due t s r → Ok t r s z → weight (fire t.size r s z) < weight s
    unfolding fire weight
    drops Unfold s z v o d k = drop-unfold s z v o d
    drops Candidate s z v o (is_candidate p h) k = omega (arith, v.two)
    drops Decide s z v o (is_decide p h) k = omega (arith, v.pos)
    drops Conflict s z v o d k = drop-conflict s z v o d k

    -- an open run has weight left
    open_weight : (s : State) → Invariant t s → Open t s → 2 * (t.size + 1) < weight s
    unfolding weight
    open_weight s v o =
        let d : t.size + 2 - s.n ≡ suc (t.size + 1 - s.n) = omega (arith, few_sets t s v o) in
        rw (d, mul-suc) (omega (arith, v.pos))

    -- a set that the run chooses is one that the rule allows
    pick-ok : (Q : Set → Type 0) (b : Bool) (hs : List Set) (ok : Set → Bool) (h : Set) → ((z : Set) → ok z ≡ true → Q z) → Q h → Q (pick b hs ok h).set
    unfolding pick offered
    pick-ok Q false hs ok h f q = q
    pick-ok Q true [] ok h f q = q
    pick-ok Q true (z ∷ hs) ok h f q = go (ok z) refl
      where
        go : (b : Bool) → ok z ≡ b → Q (offered b z h hs).set
        go true e = f z e
        go false e = q

    pub choose-ok : (hs : List Set) (s : State) → Invariant t s → Open t s → Ok t (due t s) s (choose t hs s).set
    unfolding choose will_do
    choose-ok hs s v o =
        pick-ok (Ok t (due t s) s) (asks (due t s)) hs _ (house t (due t s) s)
        (λ z e. allowed-ok t (due t s) s z (and-true (sound t.size z) (allowed t (due t s) s z) e).1) (house-ok t big s v o (due t s) (due-is t s))

    pub next-inv : (hs : List Set) (s : State) → Invariant t s → Open t s → Invariant t (next t (choose t hs s) s)
    unfolding next
    next-inv hs s v o = keep t big (due t s) s _ v o (due-is t s) (choose-ok hs s v o)

    -- what holds where a run stops, and goes from a rule's outcome to that before it, holds of every run
    pub run-ind : (Q : ℕ → List Set → State → Ran → Type 0)
        → ((b : ℕ) (hs : List Set) (s : State) → Invariant t s → (b ≡ 0) ⊎ (conclusion t s ≢ unfinished) → Q b hs s (stop (conclusion t s) hs s))
        → ((b : ℕ) (hs : List Set) (s : State) (o : Ran) → Invariant t s → Open t s
        → Q b (choose t hs s).left (next t (choose t hs s) s) o → Q (suc b) hs s (after (choose t hs s) o))
        → (b : ℕ) (hs : List Set) (s : State) → Invariant t s → Q b hs s (run t b hs s)
    run-ind Q ends more zero hs s v = rw (run_none hs s) (ends zero hs s v (inl refl))
    run-ind Q ends more (suc b) hs s v =
        elim (opened s) [
          | inl o ↦ rw (run-open b hs s v o) (more b hs s _ v o (run-ind Q ends more b _ _ (next-inv hs s v o)))
          | inr h ↦ rw (run-done (suc b) hs s h) (ends (suc b) hs s v (inr h))
        ]

    pub next-drops : (hs : List Set) (s : State) → Invariant t s → Open t s → weight (next t (choose t hs s) s) < weight s
    unfolding next
    next-drops hs s v o = drops (due t s) s _ v o (due-is t s) (choose-ok hs s v o)

    pub ends : (b : ℕ) (hs : List Set) (s : State) → Invariant t s → weight s ≤ b + 2 * (t.size + 1) → (run t b hs s).standing ≢ unfinished
    unfolding stop after
    ends zero hs s v w e = omega (arith, open_weight s v (rw (run_none hs s) at e))
    ends (suc b) hs s v w e =
        elim (opened s) [
          | inl o ↦ ends b _ (next t (choose t hs s) s) (next-inv hs s v o) (omega (arith, next-drops hs s v o)) (rw (run-open b hs s v o) at e)
          | inr h ↦ h (rw (run-done (suc b) hs s h) at e)
        ]

    pub weight-max : (s : State) → Invariant t s → weight s ≤ 2 * (t.size * t.size) + 2 * t.size + 2 * (t.size + 1)
    unfolding weight
    weight-max s v =
        let q : suc (s.n - 1) ≡ s.n = omega (arith, v.two) in
        counted t.size (s.n - 1) (t.size + 2 - s.n) s.k _ (omega (arith, v.two, v.cap))
        (rw q at (sum-but_first (s.n - 1) t.size (λ j. count t.size (s.x j))
        (count_none t.size (s.x 0) v.x0) (λ j. count-max t.size (s.x j))))
        (omega (arith, v.le)) (omega (arith, v.two))

    -- demand: a run on a sound table ends within 2N² + 2N rules, whatever the hints
    pub enough : (b : ℕ) (hs : List Set) (s : State) → Invariant t s → 2 * (t.size * t.size) + 2 * t.size ≤ b → (run t b hs s).standing ≢ unfinished
    enough b hs s v h = ends b hs s v (omega (arith, weight-max s v))
