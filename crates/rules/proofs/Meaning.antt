-- What the results mean: a closed set, a real walk, and no walk shorter than the one shown.
use Prim.Native.Nat.{ℕ, zero, suc, ◌+◌, ◌-◌, ◌≤◌, ◌<◌}
use native.Mathlib.Nat.{zero-add}
use native.Mathlib.Omega.{arith}
use mathlib.Core.Bool.{Bool, true, false, not, ◌&&◌, false≢true}
use mathlib.Core.List.{List}
use mathlib.Core.Logic.{◌≢◌}
use Rattle.std.specs.Prelude.{Option, None, Some}
use mathlib.Core.Path.{◌≡◌, refl, ap}
use lib.Dec.{eqb}
use lib.ListN.{length}
use Rattle.rules.proofs.Adjoint.{f-in, g-in}
use Rattle.rules.proofs.Invariant.{Invariant}
use Rattle.rules.proofs.Keep.{chain}
use Rattle.rules.specs.Rules.{no_room, concludes, closes, conclusion, conclusion_of, State, safe, reached}
use Rattle.rules.specs.ShownWalk.{or_zero, first_state, next_state, walk_from, shown_walk}
use Rattle.rules.specs.Table.{leads, g, Table}
use Rattle.rules.specs.Walks.{move, Walked, Bad, BadReached, LeadsToBad, RealWalk, Closed, start, arrived, onward}
use Rattle.sets.proofs.Search.{least-is, Least, here, nowhere}
use Rattle.sets.proofs.Tests.{passed, clash, never, and-true, not-true, not-false, eqb-says}
use Rattle.sets.proofs.Within.{is_within, is_beyond, within-trans, Within, Beyond}
use Rattle.sets.specs.Search.{least}
use Rattle.sets.specs.Sets.{Set, member, within}

module _ (t : Table) where
  -- the j of a safe run: the smallest whose x_(j+1) lies within x_j
  pub record SafeAt (s : State) (j : ℕ) : Type 0 where
    pub lt : suc j < s.n
    pub is : Within t.size (s.x (suc j)) (s.x j)
    pub first : (i : ℕ) → i < j → Beyond t.size (s.x (suc i)) (s.x i)

  pub safe_at : (s : State) (j : ℕ) → conclusion t s ≡ safe j → SafeAt s j
  unfolding conclusion_of concludes closes
  safe_at s j e = go _ _ (least-is (s.n - 1) (closes t.size s)) e
    where
      go : (r : Option ℕ) (b : Bool) → Least (s.n - 1) (closes t.size s) r → concludes r b ≡ safe j → SafeAt s j
      go r b (here i l p h) q =
          let d : i ≡ j = cc in
          let a : SafeAt s i = record {
            lt = omega arith;
            is = is_within t.size (s.x (suc i)) (s.x i) p;
            first = λ k m. is_beyond t.size (s.x (suc k)) (s.x k) (h k m);
          } in
          rw d at a
      go r true (nowhere h) q = let z : ◌≡◌ {A = ℕ} 0 1 = cc in absurd (omega arith)
      go r false (nowhere h) q = let z : ◌≡◌ {A = ℕ} 0 1 = cc in absurd (omega arith)

  -- no state concludes for want of room
  pub never_no_room : (s : State) → conclusion t s ≢ no_room
  unfolding conclusion_of concludes
  never_no_room s e = go (least (s.n - 1) (closes t.size s)) _ e
    where
      go : (r : Option ℕ) (b : Bool) → concludes r b ≡ no_room → ⊥
      go (Some j) b q = let z : ◌≡◌ {A = ℕ} 0 1 = cc in omega arith
      go None true q = let z : ◌≡◌ {A = ℕ} 0 1 = cc in omega arith
      go None false q = let z : ◌≡◌ {A = ℕ} 0 1 = cc in omega arith

  concludes-reached : (r : Option ℕ) (b : Bool) → concludes r b ≡ reached → b ≡ true
  unfolding concludes
  concludes-reached (Some j) b q = cc
  concludes-reached None true q = refl
  concludes-reached None false q = cc

  pub reached_at : (s : State) → conclusion t s ≡ reached → (s.k ≡ 1) × Beyond t.size t.starts (s.y 1)
  unfolding conclusion_of
  reached_at s e =
      let a = and-true (eqb s.k 1) (not (within t.size t.starts (s.y 1))) (concludes-reached _ _ e) in
      (passed (eqb-says s.k 1) a.0, is_beyond t.size _ _ (not-true _ a.1))

  -- a reached run has no x that lies within the one below it
  pub reached_up : (s : State) → conclusion t s ≡ reached → (j : ℕ) → suc j < s.n → Beyond t.size (s.x (suc j)) (s.x j)
  unfolding conclusion_of concludes closes
  reached_up s e j l = go _ _ (least-is (s.n - 1) (closes t.size s)) e
    where
      go : (r : Option ℕ) (b : Bool) → Least (s.n - 1) (closes t.size s) r → concludes r b ≡ reached → Beyond t.size (s.x (suc j)) (s.x j)
      go r b (here i _ p h) q = let z : ◌≡◌ {A = ℕ} 0 1 = cc in absurd (omega arith)
      go r b (nowhere h) q = is_beyond t.size (s.x (suc j)) (s.x j) (h j (omega arith))

  -- ---- walks
  pub walked-below : {m u : ℕ} → Walked t m u → u < t.size
  walked-below (start l e) = l
  walked-below (move p l e) = l

  pub closed_walked : {x : Set} → Closed t x → {m u : ℕ} → Walked t m u → member x u ≡ true
  closed_walked c (start {u} l e) = c.starts u l e
  closed_walked c (move {m} {s} {u} p l e) = c.moves s u (walked-below p) l (closed_walked c p) e

  -- no walk leads from a closed set to a bad state
  pub closed_safe : {x : Set} → Closed t x → BadReached t → ⊥
  closed_safe c b = clash (c.safe b.last b.bad.below (closed_walked c b.walked)) b.bad.unsafe

  leads-below : {s : ℕ} {w : List ℕ} → LeadsToBad t s w → s < t.size
  leads-below (arrived b) = b.below
  leads-below (onward l e r) = l

  -- a walk that is listed, from where a walk has come
  leads-walked : (m s : ℕ) (w : List ℕ) → Walked t (suc m) s → LeadsToBad t s w → (u : ℕ) × Walked t (m + length w) u × Bad t u
  leads-walked m s w p (arrived b) = let q : suc m ≡ m + 1 = omega arith in (s, rw q at p, b)
  leads-walked m s w p (onward {u = u} {w = w'} l e r) =
      let q : suc m + length w' ≡ m + suc (length w') = omega arith in
      rw q at (leads-walked (suc m) u w' (move p (leads-below r) e) r)

  -- a real walk is a walk of so many states to a bad state
  pub real_walked : {w : List ℕ} → RealWalk t w → (u : ℕ) × Walked t (length w) u × Bad t u
  real_walked {w} r = rw zero-add at (leads-walked 0 r.first w (start (leads-below r.moves) r.start) r.moves)

  module _ (big : t.size ≤ 256) where
    -- ---- safe
    pub safe_closed : (s : State) (j : ℕ) → Invariant t s → conclusion t s ≡ safe j → Closed t (s.x j)
    safe_closed s j v e =
        let a = safe_at s j e in
        let ins = within-trans t.size (v.base j a.lt) a.is in
        let last = v.fine (s.n - 2) (omega (arith, v.two)) in
        let good = within-trans t.size (chain t s v j (s.n - 2) (omega (arith, a.lt)) (omega (arith, v.two))) last in
        let stay = within-trans t.size (v.flow j a.lt) a.is in
        record {
          starts = ins.at;
          safe = good.at;
          moves = λ u w lu lw m h. stay.at w lw (f-in t big (s.x j) u w lu lw m h);
        }

    -- ---- no walk of fewer than n-1 states ends in a bad state: x_m holds what walks of m states reach
    walked-in : (s : State) → Invariant t s → {m u : ℕ} → Walked t m u → m < s.n → member (s.x m) u ≡ true
    walked-in s v (start {u} l e) h = (v.base 0 h).at u l e
    walked-in s v (move {m} {s = a} {u} p l e) h =
        (v.flow m h).at u l (f-in t big (s.x m) a u (walked-below p) l (walked-in s v p (omega arith)) e)

    pub none_shorter : (s : State) → Invariant t s → {m u : ℕ} → Walked t m u → m + 2 ≤ s.n → member t.safe u ≡ true
    none_shorter s v {m} {u} p h =
        (v.fine (s.n - 2) (omega arith)).at u (walked-below p)
        ((chain t s v m (s.n - 2) (omega arith) (omega arith)).at u (walked-below p) (walked-in s v p (omega arith)))

    -- ---- reached: the walk is real
    -- u is below N, passes one test and fails another
    abbrev Picked : (ℕ → Bool) → (ℕ → Bool) → ℕ → Type 0
    Picked p q u = (u < t.size) × (p u ≡ true) × (q u ≡ false)

    picked : (p q : ℕ → Bool) → (((u : ℕ) → u < t.size → (p u && not (q u)) ≡ false) → ⊥) → Picked p q (or_zero (least t.size (λ u. p u && not (q u))))
    unfolding or_zero
    picked p q some_is = go _ (least-is t.size (λ u. p u && not (q u)))
      where
        go : (r : Option ℕ) → Least t.size (λ u. p u && not (q u)) r → Picked p q (or_zero r)
        go r (here i li h _) = let a = and-true (p i) (not (q i)) h in (li, a.0, not-true (q i) a.1)
        go r (nowhere h) = absurd (some_is h)

    but-not : (a b : Bool) → (a && not b) ≡ false → a ≡ true → b ≡ true
    but-not true b e h = not-false b e
    but-not false b e h = absurd (false≢true h)

    not_in : {x y : Set} → Within t.size x y → (a : ℕ) → a < t.size → member y a ≡ false → member x a ≡ false
    not_in {x} {y} h a l e = never (member x a) (λ q. clash (h.at a l q) e)

    next-picked : (y : Set) (a : ℕ) → a < t.size → member (g t y) a ≡ false → Picked (leads t.rows a) (member y) (next_state t a y)
    unfolding next_state
    next-picked y a l e =
        picked (leads t.rows a) (member y) (λ h. clash (g-in t big y a l (λ u lu m. but-not (leads t.rows a u) (member y u) (h u lu) m)) e)

    walk_leads : (s : State) → Invariant t s → (m j a : ℕ) → s.k ≤ j → j + suc m ≡ s.n → a < t.size → member (s.y j) a ≡ false
        → LeadsToBad t a (walk_from t (suc m) a j s.y)
    unfolding walk_from
    walk_leads s v zero j a h e l o = arrived (record { below = l; unsafe = not_in (v.top j h (omega arith)) a l o })
    walk_leads s v (suc m) j a h e l o =
        let r = next-picked (s.y (suc j)) a l (not_in (v.back j h (omega arith)) a l o) in
        onward l r.1 (walk_leads s v m (suc j) _ (omega arith) (omega arith) r.0 r.2)

    pub reached_real : (s : State) → Invariant t s → conclusion t s ≡ reached → RealWalk t (shown_walk t s)
    unfolding shown_walk first_state
    reached_real s v e =
        let r = reached_at s e in
        let w = r.1 in
        let p = picked (member t.starts) (member (s.y 1)) (λ h. clash (but-not _ _ (h w.who w.below) w.is) w.not) in
        let q : s.n - 1 ≡ suc (s.n - 2) = omega (arith, v.two) in
        record {
          first = _;
          start = p.1;
          moves = rw q (walk_leads s v (s.n - 2) 1 _ (omega arith) (omega (arith, v.two)) p.0 p.2);
        }

    -- the walk has n-1 states
    length_from : (m a j : ℕ) (y : ℕ → Set) → length (walk_from t m a j y) ≡ m
    unfolding walk_from
    length_from zero a j y = refl
    length_from (suc m) a j y = ap suc (length_from m _ (suc j) y)

    pub walk_length : (s : State) → length (shown_walk t s) ≡ s.n - 1
    unfolding shown_walk
    walk_length s = length_from (s.n - 1) _ 1 s.y

    pub reached_bad : (s : State) → Invariant t s → conclusion t s ≡ reached → (u : ℕ) × Walked t (s.n - 1) u × Bad t u
    reached_bad s v e = rw (walk_length s) at (real_walked (reached_real s v e))
