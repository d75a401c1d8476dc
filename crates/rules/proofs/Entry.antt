-- The entry check says the invariant, and the invariant passes it.
use Prim.Native.Nat.{ℕ, zero, suc, ◌+◌, ◌-◌, ◌≤◌, ◌<◌}
use native.Mathlib.Omega.{arith}
use mathlib.Core.Bool.{Bool, true, false, not, ◌||◌, true≢false}
use mathlib.Core.List.{List, [], ◌∷◌}
use mathlib.Core.Logic.{inl, inr}
use mathlib.Core.Path.{◌≡◌, refl, ap}
use lib.Dec.{leb}
use lib.ListN.{get_or}
use Rattle.rules.proofs.Invariant.{Invariant}
use Rattle.rules.specs.Buffer.{each, held, ranges, rises, falls, parts, chain, obstacles, conditions}
use Rattle.rules.specs.Rules.{State}
use Rattle.rules.specs.Table.{Table}
use Rattle.sets.proofs.Search.{all-says, all_true}
use Rattle.sets.proofs.Tests.{passed, passes, fails, which, and-true, and_intro, not-true, leb-says, Says, pass, fail}
use Rattle.sets.proofs.Within.{is_within, is_beyond, within-true, within-false}

abbrev pub Each : List Bool → Type 0
Each [] = Unit {0}
Each (b ∷ bs) = (b ≡ true) × Each bs

pub each-true : (bs : List Bool) → each bs ≡ true → Each bs
unfolding each
each-true [] e = tt
each-true (b ∷ bs) e = let h = and-true b (each bs) e in (h.0, each-true bs h.1)

pub true_each : (bs : List Bool) → Each bs → each bs ≡ true
unfolding each
true_each [] h = refl
true_each (b ∷ bs) h = and_intro h.0 (true_each bs h.1)

pub held-true : (k j : ℕ) (b : Bool) → held k j b ≡ true → k ≤ j → b ≡ true
unfolding held
held-true k j b e h = go (leb-says k j) e
  where
    go : {c : Bool} → Says (k ≤ j) (j < k) c → (not c || b) ≡ true → b ≡ true
    go (pass p) e = e
    go (fail p) e = absurd (omega arith)

pub true_held : (k j : ℕ) (b : Bool) → (k ≤ j → b ≡ true) → held k j b ≡ true
unfolding held
true_held k j b h = go (leb-says k j)
  where
    go : {c : Bool} → Says (k ≤ j) (j < k) c → (not c || b) ≡ true
    go (pass p) = h p
    go (fail p) = refl

pub leb-true : {m n : ℕ} → m ≤ n → leb m n ≡ true
leb-true {m} {n} h = passes (leb-says m n) (λ l. omega arith)

pub leb-false : {m n : ℕ} → n < m → leb m n ≡ false
leb-false {m} {n} h = fails (leb-says m n) (λ l. omega arith)

-- the place of a test that fails
pub each-no : (bs : List Bool) (i : ℕ) → get_or bs i true ≡ false → each bs ≡ false
unfolding each
each-no [] i e = absurd (true≢false e)
each-no (b ∷ bs) zero e = rw e
each-no (b ∷ bs) (suc i) e = elim (which b) [ inl h ↦ rw h (each-no bs i e) | inr h ↦ rw h ]

pub ranges-say : (N : ℕ) (s : State) → ranges N s ≡ true → (2 ≤ s.n) × (s.n ≤ N + 2) × (1 ≤ s.k) × (s.k ≤ s.n)
unfolding ranges
ranges-say N s e =
    let (c1, (c2, (c3, (c4, _)))) = each-true _ e in
    (passed (leb-says 2 s.n) c1, passed (leb-says s.n (N + 2)) c2, passed (leb-says 1 s.k) c3, passed (leb-says s.k s.n) c4)

module _ (t : Table) where
  pub entry-inv : (s : State) → each (conditions t s) ≡ true → Invariant t s
  unfolding rises falls parts chain obstacles
  entry-inv s e =
      let (in-ranges, (is-chain, (are-obstacles, _))) = each-true (conditions t s) e in
      let (first-empty, (rising, (last-safe, _))) = each-true _ is-chain in
      let (top-safe, (falling, (parted, _))) = each-true _ are-obstacles in
      let (two, cap, pos, le) = ranges-say t.size s in-ranges in
      record {
        two = two;
        cap = cap;
        pos = pos;
        le = le;
        x0 = is_within t.size _ _ first-empty;
        up = λ j l. is_within t.size _ _ (each-true _ (passed (all-says _ _) rising j (omega arith))).0;
        base = λ j l. is_within t.size _ _ (each-true _ (passed (all-says _ _) rising j (omega arith))).1.0;
        flow = λ j l. is_within t.size _ _ (each-true _ (passed (all-says _ _) rising j (omega arith))).1.1.0;
        fine = λ j q. let r : s.n - 2 ≡ j = omega arith in rw r at (is_within t.size _ _ last-safe);
        top = λ j a q. let r : s.n - 1 ≡ j = omega arith in rw r at (is_within t.size _ _ (held-true _ _ _ top-safe (omega arith)));
        back = λ j a l. is_within t.size _ _ (held-true _ _ _ (passed (all-says _ _) falling j (omega arith)) a);
        apart = λ j a l. is_beyond t.size _ _ (not-true _ (held-true _ _ _ (passed (all-says _ _) parted j l) a));
      }

  module _ (s : State) (v : Invariant t s) where
    inv_ranges : ranges t.size s ≡ true
    unfolding ranges
    inv_ranges = true_each _ (leb-true v.two, (leb-true v.cap, (leb-true v.pos, (leb-true v.le, tt))))

    inv_rises : (j : ℕ) → j < s.n - 1 → rises t s j ≡ true
    unfolding rises
    inv_rises j l =
        true_each _ (
          within-true t.size (v.up j (omega arith)),
          (within-true t.size (v.base j (omega arith)), (within-true t.size (v.flow j (omega arith)), tt)),
        )

    inv_chain : chain t s s.n ≡ true
    unfolding chain
    inv_chain = true_each _ (within-true t.size v.x0, (all_true inv_rises, (within-true t.size (v.fine (s.n - 2) (omega (arith, v.two))), tt)))

    inv_obstacles : obstacles t s ≡ true
    unfolding obstacles falls parts
    inv_obstacles =
        true_each _ (
          true_held _ _ _ (λ h. within-true t.size (v.top (s.n - 1) h (omega (arith, v.two)))),
          (
            all_true (λ j l. true_held _ _ _ (λ h. within-true t.size (v.back j h (omega arith)))),
            (all_true (λ j l. true_held _ _ _ (λ h. ap not (within-false t.size (v.apart j h l)))), tt),
          ),
        )

    pub inv_entry : each (conditions t s) ≡ true
    inv_entry = true_each (conditions t s) (inv_ranges, (inv_chain, (inv_obstacles, tt)))
