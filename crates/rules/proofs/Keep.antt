-- Each rule keeps the entry check, under every set that it allows; the house choice is allowed.
use Prim.Native.Nat.{ℕ, zero, suc, ◌+◌, ◌-◌, ◌≤◌, ◌<◌}
use native.Mathlib.Decide.{le_ind}
use native.Mathlib.Nat.{eq-or-lt_of_le}
use native.Mathlib.Omega.{arith}
use mathlib.Core.Bool.{Bool, true, false}
use mathlib.Core.Logic.{inl, inr, ◌≢◌}
use mathlib.Core.Path.{◌≡◌, refl, sym}
use lib.Dec.{eqb}
use Rattle.rules.proofs.Adjoint.{to-g, of_g, f-mono, f-empty}
use Rattle.rules.proofs.Invariant.{put_same, put_other, cut_low, cut_high, Open, open_up, open_start, Invariant}
use Rattle.rules.specs.Rules.{put, cut, due, allowed, house, fire, State, Rule, Unfold, Candidate, Decide, Conflict}
use Rattle.rules.specs.Table.{f, g, Table}
use Rattle.sets.proofs.Count.{count-lt, count-max}
use Rattle.sets.proofs.Tests.{and-true, not-true, eqb-says, lt_or_ge, Says, pass, fail}
use Rattle.sets.proofs.Within.{within-says, is_within, is_beyond, not_both, within-true, within-false, not_within, within-refl, within-trans}
use Rattle.sets.proofs.Within.{within-full, meet_left, meet_right, within-meet, Within, Beyond}
use Rattle.sets.specs.Sets.{Set, empty, full, within, meet, count}

module _ (t : Table) where
  -- the rule that is due, and why
  pub data Due (s : State) : Rule → Type 0 where
    is_unfold : s.k ≡ s.n → Within t.size (s.x (s.n - 1)) t.safe → Due s Unfold
    is_candidate : s.k ≡ s.n → Beyond t.size (s.x (s.n - 1)) t.safe → Due s Candidate
    is_decide : s.k ≢ s.n → Beyond t.size (f t (s.x (s.k - 1))) (s.y s.k) → Due s Decide
    is_conflict : s.k ≢ s.n → Within t.size (f t (s.x (s.k - 1))) (s.y s.k) → Due s Conflict

  pub due-is : (s : State) → Due s (due t s)
  unfolding due
  due-is s =
      go (eqb s.k s.n) (eqb-says s.k s.n)
      (within t.size (s.x (s.n - 1)) t.safe) (within-says t.size (s.x (s.n - 1)) t.safe)
      (within t.size (f t (s.x (s.k - 1))) (s.y s.k)) (within-says t.size (f t (s.x (s.k - 1))) (s.y s.k))
    where
      go : (a : Bool) → Says (s.k ≡ s.n) (s.k ≢ s.n) a
          → (b : Bool) → Says (Within t.size (s.x (s.n - 1)) t.safe) (Beyond t.size (s.x (s.n - 1)) t.safe) b
          → (c : Bool) → Says (Within t.size (f t (s.x (s.k - 1))) (s.y s.k)) (Beyond t.size (f t (s.x (s.k - 1))) (s.y s.k)) c
          → Due s (elim a [ true ↦ elim b [ true ↦ Unfold | false ↦ Candidate ] | false ↦ elim c [ true ↦ Conflict | false ↦ Decide ] ])
      go a (pass p) b (pass q) c r = is_unfold p q
      go a (pass p) b (fail q) c r = is_candidate p q
      go a (fail p) b q c (pass r) = is_conflict p r
      go a (fail p) b q c (fail r) = is_decide p r

  -- what the rule asks of the set chosen
  abbrev pub Ok : Rule → State → Set → Type 0
  Ok Unfold s z = Unit {0}
  Ok Candidate s z = Within t.size t.safe z × Beyond t.size (s.x (s.n - 1)) z
  Ok Decide s z = Within t.size (g t (s.y s.k)) z × Beyond t.size (s.x (s.k - 1)) z
  Ok Conflict s z =
      Within t.size z (s.y s.k) × Within t.size t.starts z × Within t.size (f t (meet t.size (s.x (s.k - 1)) z)) z

  pub ok_allowed : (r : Rule) (s : State) (z : Set) → Ok r s z → allowed t r s z ≡ true
  unfolding allowed
  ok_allowed Unfold s z h = refl
  ok_allowed Candidate s z h = rw (within-true t.size h.0, within-false t.size h.1)
  ok_allowed Decide s z h = rw (within-true t.size h.0, within-false t.size h.1)
  ok_allowed Conflict s z h = rw (within-true t.size h.0, within-true t.size h.1, within-true t.size h.2)

  pub allowed-ok : (r : Rule) (s : State) (z : Set) → allowed t r s z ≡ true → Ok r s z
  unfolding allowed
  allowed-ok Unfold s z e = tt
  allowed-ok Candidate s z e =
      let h = and-true _ _ e in
      (is_within t.size _ _ h.0, is_beyond t.size _ _ (not-true _ h.1))
  allowed-ok Decide s z e =
      let h = and-true _ _ e in
      (is_within t.size _ _ h.0, is_beyond t.size _ _ (not-true _ h.1))
  allowed-ok Conflict s z e =
      let h = and-true _ _ e in
      let h' = and-true _ _ h.0 in
      (is_within t.size _ _ h'.0, is_within t.size _ _ h'.1, is_within t.size _ _ h.1)

  -- the chain rises
  pub chain : (s : State) → Invariant t s → (i j : ℕ) → i ≤ j → j < s.n → Within t.size (s.x i) (s.x j)
  chain s v i j h =
      le_ind (λ m. m < s.n → Within t.size (s.x i) (s.x m)) (λ l. within-refl t.size)
      (λ m l ih lt. within-trans t.size (ih (omega arith)) (v.up m lt)) j h

  -- x_(j-1) lies within y_j: by induction from the top
  pub under : (s : State) → Invariant t s → (big : t.size ≤ 256) → (d i : ℕ) → i + suc (suc d) ≡ s.n → s.k ≤ suc i → Within t.size (s.x i) (s.y (suc i))
  under s v big zero i e h = within-trans t.size (v.fine i (omega arith)) (v.top (suc i) h (omega arith))
  under s v big (suc d) i e h =
      within-trans t.size
      (to-g t big (s.x i) (s.y (suc (suc i))) (within-trans t.size (v.flow i (omega arith)) (under s v big d (suc i) (omega arith) (omega arith))))
      (v.back (suc i) h (omega arith))

  -- an open chain rises strictly, so it is no longer than N + 1
  strict : (s : State) → Invariant t s → Open t s → (j : ℕ) → j < s.n → j ≤ count t.size (s.x j)
  strict s v o zero lt = omega arith
  strict s v o (suc j) lt = omega (arith, strict s v o j (omega arith), count-lt t.size (v.up j lt) (open_up t s o j lt))

  pub few_sets : (s : State) → Invariant t s → Open t s → s.n ≤ t.size + 1
  few_sets s v o = let m : ℕ = s.n - 1 in omega (arith, v.two, strict s v o (s.n - 1) (omega (arith, v.two)), count-max t.size (s.x (s.n - 1)))

  module _ (big : t.size ≤ 256) where
    starts_in : (s : State) → Invariant t s → Open t s → s.k < s.n → Within t.size t.starts (s.y s.k)
    starts_in s v o lt =
        elim (eq-or-lt_of_le v.pos) [
          | inl e ↦ rw (← e) (open_start t s o (sym e))
          | inr l ↦
              let q : suc (s.k - 1) ≡ s.k = omega arith in
              within-trans t.size (v.base 0 (omega arith))
              (within-trans t.size (chain s v 1 (s.k - 1) (omega arith) (omega arith))
              (rw q at (under s v big (s.n - s.k - 1) (s.k - 1) (omega arith) (omega arith))))
        ]

    pub house-ok : (s : State) → Invariant t s → Open t s → (r : Rule) → Due s r → Ok r s (house t r s)
    unfolding house
    house-ok s v o r (is_unfold p h) = tt
    house-ok s v o r (is_candidate p h) = (within-refl t.size, h)
    house-ok s v o r (is_decide p h) =
        (within-refl t.size, not_within t.size {x = s.x (s.k - 1)} {y = g t (s.y s.k)} (λ q. not_both t.size (of_g t big _ _ q) h))
    house-ok s v o r (is_conflict p h) =
        (within-refl t.size, starts_in s v o (omega (arith, v.le)), within-trans t.size (f-mono t big _ _ (meet_left t.size big _ _)) h)

    -- whatever lay within x_j lies within it after a full x_n is put
    put_full : (x : ℕ → Set) (n j : ℕ) (w : Set) → j < n + 1 → (j < n → Within t.size w (x j)) → Within t.size w (put x n (full t.size) j)
    put_full x n j w lt h =
        elim (eq-or-lt_of_le lt) [
          | inl e ↦ let q : j ≡ n = omega arith in rw (q, put_same) (within-full t.size big w)
          | inr l ↦ rw (put_other x n (full t.size) j (omega arith)) (h (omega arith))
        ]

    keep_unfold : (s : State) (z : Set) → Invariant t s → Open t s → Due s Unfold → Invariant t (fire t.size Unfold s z)
    unfolding fire
    keep_unfold s z v o (is_unfold p h) =
        let old : (j : ℕ) → j < s.n → put s.x s.n (full t.size) j ≡ s.x j
        = λ j l. put_other s.x s.n (full t.size) j (omega arith) in
        record {
          two = omega (arith, v.two);
          cap = omega (arith, few_sets s v o);
          pos = omega arith;
          le = omega arith;
          x0 = rw (old 0 (omega (arith, v.two))) v.x0;
          up = λ j l. put_full s.x s.n (suc j) _ l (rw (old j (omega arith)) (v.up j));
          base = λ j l. put_full s.x s.n (suc j) _ l (v.base j);
          flow = λ j l. put_full s.x s.n (suc j) _ l (rw (old j (omega arith)) (v.flow j));
          fine = λ j e. let q : s.n - 1 ≡ j = omega arith in rw (old j (omega arith)) (rw q at h);
          top = λ j a e. absurd (omega arith);
          back = λ j a e. absurd (omega arith);
          apart = λ j a e. absurd (omega arith);
        }

    keep_candidate : (s : State) (z : Set) → Invariant t s → Open t s → Due s Candidate → Ok Candidate s z → Invariant t (fire t.size Candidate s z)
    unfolding fire
    keep_candidate s z v o (is_candidate p h) k =
        record {
          two = v.two;
          cap = v.cap;
          pos = omega (arith, v.two);
          le = omega arith;
          x0 = v.x0;
          up = v.up;
          base = v.base;
          flow = v.flow;
          fine = v.fine;
          top = λ j a e. let q : j ≡ s.n - 1 = omega arith in rw (q, put_same) k.0;
          back = λ j a e. absurd (omega arith);
          apart = λ j a e. let q : j ≡ s.n - 1 = omega arith in rw (q, put_same) k.1;
        }

    keep_decide : (s : State) (z : Set) → Invariant t s → Open t s → Due s Decide → Ok Decide s z → Invariant t (fire t.size Decide s z)
    unfolding fire
    keep_decide s z v o (is_decide p h) k =
        record {
          two = v.two;
          cap = v.cap;
          pos = deep;
          le = omega (arith, v.le);
          x0 = v.x0;
          up = v.up;
          base = v.base;
          flow = v.flow;
          fine = v.fine;
          top = λ j a e. rw (old j (omega (arith, v.le, deep))) (v.top j (omega (arith, v.le, deep)) e);
          back = λ j a e. elim (eq-or-lt_of_le a) [
            | inl q ↦ let q₁ : j ≡ s.k - 1 = sym q in let q₂ : suc j ≡ s.k = omega (arith, deep) in rw (old (suc j) (omega arith), q₂, q₁, put_same) k.0
            | inr l ↦ rw (old j (omega arith), old (suc j) (omega arith)) (v.back j (omega arith) e)
          ];
          apart = λ j a e. elim (eq-or-lt_of_le a) [
            | inl q ↦ rw (← q, put_same) k.1
            | inr l ↦ rw (old j (omega arith)) (v.apart j (omega arith) e)
          ];
        }
      where
        -- k is not 1: f of the empty x_0 lies within every set
        deep : 1 ≤ s.k - 1
        deep = elim (eq-or-lt_of_le v.pos) [
          | inl e ↦ absurd (not_both t.size (f-empty t big _ (s.y s.k) (let q : s.k - 1 ≡ 0 = omega arith in rw q v.x0)) h)
          | inr l ↦ omega arith
        ]

        old : (j : ℕ) → s.k ≤ j → put s.y (s.k - 1) z j ≡ s.y j
        old j l = put_other s.y (s.k - 1) z j (omega (arith, v.pos))

    pub cut-sub : (x : ℕ → Set) (k : ℕ) (z : Set) (j : ℕ) → Within t.size (cut t.size x k z j) (x j)
    cut-sub x k z j =
        elim (lt_or_ge k j) [
          | inl l ↦ rw (cut_high t.size x k z j l) (within-refl t.size)
          | inr l ↦ rw (cut_low t.size x k z j l) (meet_left t.size big (x j) z)
        ]

    -- what lies within x_j, and within z where j is up to k, lies within the cut
    cut_in : (x : ℕ → Set) (k : ℕ) (z : Set) (j : ℕ) (w : Set) → Within t.size w (x j) → (j ≤ k → Within t.size w z)
        → Within t.size w (cut t.size x k z j)
    cut_in x k z j w h h' =
        elim (lt_or_ge k j) [
          | inl l ↦ rw (cut_high t.size x k z j l) h
          | inr l ↦ rw (cut_low t.size x k z j l) (within-meet t.size big w (x j) z h (h' l))
        ]

    keep_conflict : (s : State) (z : Set) → Invariant t s → Open t s → Due s Conflict → Ok Conflict s z → Invariant t (fire t.size Conflict s z)
    unfolding fire
    keep_conflict s z v o (is_conflict p h) (zy, iz, fz) =
        record {
          two = v.two;
          cap = v.cap;
          pos = omega arith;
          le = omega (arith, v.le);
          x0 = within-trans t.size (cut-sub s.x s.k z 0) v.x0;
          up = λ j l. cut_in s.x s.k z (suc j) _ (within-trans t.size (cut-sub s.x s.k z j) (v.up j l))
              (λ a. rw (cut_low t.size s.x s.k z j (omega arith)) (meet_right t.size big (s.x j) z));
          base = λ j l. cut_in s.x s.k z (suc j) _ (v.base j l) (λ a. iz);
          flow = λ j l. cut_in s.x s.k z (suc j) _ (within-trans t.size (f-mono t big _ _ (cut-sub s.x s.k z j)) (v.flow j l))
              (λ a. within-trans t.size (f-mono t big _ _ (within-meet t.size big _ (s.x (s.k - 1)) z
              (within-trans t.size (cut-sub s.x s.k z j) (chain s v j (s.k - 1) (omega arith) (omega (arith, v.le))))
              (rw (cut_low t.size s.x s.k z j (omega arith)) (meet_right t.size big (s.x j) z)))) fz);
          fine = λ j e. within-trans t.size (cut-sub s.x s.k z j) (v.fine j e);
          top = λ j a e. rw (old j (omega arith)) (v.top j (omega arith) e);
          back = λ j a e. rw (old j (omega arith), old (suc j) (omega arith)) (v.back j (omega arith) e);
          apart = λ j a e. rw (old j (omega arith), cut_high t.size s.x s.k z j (omega arith)) (v.apart j (omega arith) e);
        }
      where
        old : (j : ℕ) → s.k < j → put s.y s.k empty j ≡ s.y j
        old j l = put_other s.y s.k empty j (omega arith)

    pub keep : (r : Rule) (s : State) (z : Set) → Invariant t s → Open t s → Due s r → Ok r s z → Invariant t (fire t.size r s z)
    keep Unfold s z v o d k = keep_unfold s z v o d
    keep Candidate s z v o d k = keep_candidate s z v o d k
    keep Decide s z v o d k = keep_decide s z v o d k
    keep Conflict s z v o d k = keep_conflict s z v o d k
