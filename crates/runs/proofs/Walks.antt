-- The walk of a reached run, as the code writes it.
use Prim.Native.Nat.{ℕ, zero, suc, ◌+◌, ◌-◌, ◌*◌, ◌≤◌, ◌<◌}
use native.Mathlib.Omega.{arith}
use mathlib.Core.Bool.{Bool, true, false, not, ◌&&◌}
use mathlib.Core.List.{List, [], ◌∷◌}
use mathlib.Core.Logic.{inl, inr}
use Rattle.std.specs.Prelude.{Option, None, Some, unwrap_or}
use mathlib.Core.Path.{◌≡◌, refl, sym, ap, ◌∙◌, ap₂}
use borrow.Author.Tests.{le-ltb}
use lib.ListN.{length, get_or, set, length-set}
use lib.Seq.{sets}
use Rattle.moves.proofs.Rows.{leads-below}
use Rattle.rules.proofs.Held.{Fit}
use Rattle.rules.proofs.Invariant.{Invariant}
use Rattle.rules.specs.Buffer.{decode}
use Rattle.rules.specs.Rules.{closes, concludes, conclusion, conclusion_of, State, reached}
use Rattle.rules.specs.ShownWalk.{or_zero, first_state, next_state, walk_from, shown_walk}
use Rattle.rules.specs.Table.{row, leads, sound_row, sound_rows, Table}
use Rattle.rules.proofs.Reading.{y_is, n_is}
use Rattle.rules.proofs.Ready.{Good, Ready}
use Rattle.runs.specs.Inner.{Outside}
use Rattle.sets.proofs.Count.{count-lt, count-max}
use Rattle.sets.proofs.Members.{proper_past, member-minus, smallest-is}
use Rattle.sets.proofs.Search.{least-is, least-of, all-says, Least, here, nowhere}
use Rattle.sets.proofs.Tests.{passed, fails, clash, never, implied, leb-says, lt_or_ge}
use Rattle.sets.proofs.Within.{is_beyond}
use Rattle.sets.specs.Search.{or_else, least}
use Rattle.sets.specs.Sets.{Set, member, sound, minus, count, smallest, quad}

-- ---- the smallest state outside a set
least-narrow : (N : ℕ) (p : ℕ → Bool) → N ≤ 256 → ((u : ℕ) → N ≤ u → u < 256 → p u ≡ false) → least 256 p ≡ least N p
least-narrow N p big past = sym (least-of 256 p (go (least N p) (least-is N p)))
  where
    go : (o : Option ℕ) → Least N p o → Least 256 p o
    go o (here i l e h) = here i (omega arith) e h
    go o (nowhere h) = nowhere (λ u l. elim (lt_or_ge u N) [ inl a ↦ h u a | inr a ↦ past u a l ])

least-ext : (n : ℕ) (p q : ℕ → Bool) → ((i : ℕ) → i < n → p i ≡ q i) → least n p ≡ least n q
unfolding least
least-ext zero p q h = refl
least-ext (suc n) p q h = ap₂ (λ (o : Option ℕ) (b : Bool). or_else o b n) (least-ext n p q (λ i l. h i (omega arith))) (h n (omega arith))

outside_is : (N : ℕ) (a y : Set) → N ≤ 256 → ((u : ℕ) → N ≤ u → u < 256 → member a u ≡ false)
    → smallest (minus 256 a y) ≡ least N (λ u. member a u && not (member y u))
unfolding smallest
outside_is N a y big past =
    least-ext 256 _ _ (λ u l. member-minus 256 (omega arith) a y u l)
    ∙ least-narrow N _ big (λ u h l. rw (past u h l))

-- what `first_outside` answers is a state
pub or-zero_below : (x : Set) → or_zero (smallest x) < 256
unfolding or_zero
or-zero_below x = go (smallest x) (smallest-is x)
  where
    go : (o : Option ℕ) → Least 256 (member x) o → or_zero o < 256
    go o (here i l e h) = l
    go o (nowhere h) = omega arith

-- what was found, or 0
pub outside_by : (a y w : Set) (o : Option ℕ) (r : ℕ) → w ≡ minus 256 a y → o ≡ smallest w → r ≡ unwrap_or o 0 → Outside a y r
unfolding or_zero
outside_by a y w o r e s q = record { is = is; small = rw is (or-zero_below _) }
  where
    same : (o : Option ℕ) → unwrap_or o 0 ≡ or_zero o
    same None = refl
    same (Some u) = refl

    is : r ≡ or_zero (smallest (minus 256 a y))
    is = q ∙ same o ∙ ap or_zero (s ∙ ap smallest e)

-- a row of a sound table holds no number from N up
row-empty : (t : Table) → Good t → (s : ℕ) → s < 256 → t.size ≤ s → sound 0 (row t.rows s) ≡ true
unfolding sound_rows sound_row
row-empty t good s l a = rw (le-ltb s t.size a) at (passed (all-says 256 (sound_row t.size t.rows)) good.rows s l)

row-past : (t : Table) → Good t → (s u : ℕ) → s < 256 → t.size ≤ u → u < 256 → member (row t.rows s) u ≡ false
unfolding leads sound
row-past t good s u l h m = never _ (λ e. elim (lt_or_ge s t.size) [
  | inl a ↦ let d : u < t.size = leads-below t.size t.rows good.big good.rows s u a m e in omega arith
  | inr a ↦ clash (implied _ _ (passed (all-says 256 _) (row-empty t good s l a) u m) e) (fails (leb-says (suc u) 0) (λ q. omega arith))
])

first_is : (t : Table) → Good t → (y : Set) → or_zero (smallest (minus 256 t.starts y)) ≡ first_state t y
unfolding first_state
first_is t good y = ap or_zero (outside_is t.size t.starts y good.big (λ u h l. proper_past t.size good.big good.starts u h))

next-is : (t : Table) → Good t → (s : ℕ) (y : Set) → s < 256 → or_zero (smallest (minus 256 (row t.rows s) y)) ≡ next_state t s y
unfolding next_state leads
next-is t good s y l = ap or_zero (outside_is t.size (row t.rows s) y good.big (λ u h m. row-past t good s u l h m))

-- a run that is reached has no end in its chain
pub none_closes : (t : Table) (s : State) → conclusion t s ≡ reached → (j : ℕ) → suc j < s.n → closes t.size s j ≡ false
unfolding conclusion_of concludes closes
none_closes t s e j l = go (least (s.n - 1) (closes t.size s)) _ (least-is (s.n - 1) (closes t.size s)) e
  where
    go : (o : Option ℕ) (b : Bool) → Least (s.n - 1) (closes t.size s) o → concludes o b ≡ reached → closes t.size s j ≡ false
    go o b (here i m r f) q = let z : ◌≡◌ {A = ℕ} 0 1 = cc in absurd (omega arith)
    go o b (nowhere f) q = f j (omega arith)

-- a chain in which no j closes rises strictly, so it is short
module _ (t : Table) (s : State) (v : Invariant t s) (none-ends : (j : ℕ) → suc j < s.n → closes t.size s j ≡ false) where
  rising : (j : ℕ) → j < s.n → j ≤ count t.size (s.x j)
  unfolding closes
  rising zero l = omega arith
  rising (suc j) l = omega (arith, rising j (omega arith), count-lt t.size (v.up j l) (is_beyond t.size _ _ (none-ends j l)))

  pub not-long : s.n ≤ t.size + 1
  not-long = omega (arith, v.two, rising (s.n - 1) (omega (arith, v.two)), count-max t.size (s.x (s.n - 1)))

pub reached_short : (t : Table) → Good t → (b : List ℕ) → Fit t b → conclusion t (decode b) ≡ reached → get_or b 0 0 ≤ 257
unfolding decode
reached_short t good b v e = omega (arith, good.big, not-long t (decode b) v.inv (λ j l. none_closes t (decode b) e j (omega arith)))

-- one state written
pub walk_turn : (t : Table) (y : ℕ → Set) (w : List ℕ) (m j at at' : ℕ) → j < m → (j + 1 < m → at' ≡ next_state t at (y (j + 2)))
    → sets w j (walk_from t (m - j) at (j + 1) y) ≡ sets (set w j at) (j + 1) (walk_from t (m - (j + 1)) at' (j + 1 + 1) y)
unfolding walk_from
walk_turn t y w m j at at' l h =
    let e : m - j ≡ suc (m - (j + 1)) = omega arith in
    let q : suc j ≡ j + 1 = omega arith in
    ap (λ (d : ℕ). sets w j (walk_from t d at (j + 1) y)) e
    ∙ ap (λ (i : ℕ). sets (set w j at) i (walk_from t (m - (j + 1)) (next_state t at (y (suc (j + 1)))) (suc (j + 1)) y)) q
    ∙ go (m - (j + 1)) refl
  where
    go : (d : ℕ) → m - (j + 1) ≡ d → sets (set w j at) (j + 1) (walk_from t d (next_state t at (y (suc (j + 1)))) (suc (j + 1)) y) ≡ sets (set w j at)
        (j + 1) (walk_from t d at' (j + 1 + 1) y)
    go zero z = refl
    go (suc d) z =
        let k : at' ≡ next_state t at (y (j + 2)) = h (omega arith) in
        let r : suc (j + 1) ≡ j + 1 + 1 = omega arith in
        let r2 : suc (j + 1) ≡ j + 2 = omega arith in
        ap₂ (λ (a i : ℕ). sets (set w j at) (j + 1) (walk_from t (suc d) a i y)) (ap (λ (i : ℕ). next_state t at (y i)) r2 ∙ sym k) r

pub walk_end : (t : Table) (y : ℕ → Set) (w : List ℕ) (m at : ℕ) → w ≡ sets w m (walk_from t (m - m) at (m + 1) y)
unfolding walk_from
walk_end t y w m at = let e : m - m ≡ 0 = omega arith in rw e

-- ---- the walk as the code follows it: on all 256 places, with no starts and no safe states
abbrev pub wide : List ℕ → Table
wide rows = record { size = 256; starts = []; safe = []; rows = rows }

step_wide : (rows : List ℕ) (s : ℕ) (y : Set) → next_state (wide rows) s y ≡ or_zero (smallest (minus 256 (row rows s) y))
unfolding next_state leads
step_wide rows s y = sym (ap or_zero (outside_is 256 (row rows s) y (omega arith) (λ u h l. absurd (omega arith))))

walk_256 : (t : Table) → Good t → (m at j : ℕ) (y : ℕ → Set) → at < 256 → walk_from (wide t.rows) m at j y ≡ walk_from t m at j y
unfolding walk_from
walk_256 t good zero at j y l = refl
walk_256 t good (suc m) at j y l =
    let e : next_state (wide t.rows) at (y (suc j)) ≡ next_state t at (y (suc j)) = step_wide t.rows at (y (suc j)) ∙ next-is t good at (y (suc j)) l in
    let below : next_state (wide t.rows) at (y (suc j)) < 256 = rw (step_wide t.rows at (y (suc j))) (or-zero_below _) in
    ap (λ (l : List ℕ). at ∷ l) (walk_256 t good m _ (suc j) y below ∙ ap (λ (a : ℕ). walk_from t m a (suc j) y) e)

-- the loop: what is left of the walk, written on what is there, is the whole walk written
pub record Walking (rows b w₀ : List ℕ) (m at₀ : ℕ) (w : List ℕ) (at j : ℕ) : Type 0 where
  pub in-range : j ≤ m
  pub rest : sets w j (walk_from (wide rows) (m - j) at (j + 1) (decode b).y) ≡ sets w₀ 0 (walk_from (wide rows) m at₀ 1 (decode b).y)
  pub long : length w ≡ 256
  pub state : at < 256

module _ (rows b w₀ : List ℕ) (m at₀ : ℕ) where
  pub walk_begins : length w₀ ≡ 256 → at₀ < 256 → Walking rows b w₀ m at₀ w₀ at₀ 0
  walk_begins long l =
      let z : m - 0 ≡ m = omega arith in
      let o : 0 + 1 ≡ 1 = omega arith in
      record { in-range = omega arith; rest = ap₂ (λ (m i : ℕ). sets w₀ 0 (walk_from (wide rows) m at₀ i (decode b).y)) z o; long = long; state = l }

  module _ (w : List ℕ) (at j : ℕ) (v : Walking rows b w₀ m at₀ w at j) (l : j < m) where
    goes : (at' : ℕ) → at' < 256 → (j + 1 < m → at' ≡ next_state (wide rows) at ((decode b).y (j + 2))) → Walking rows b w₀ m at₀ (set w j at) at' (j + 1)
    goes at' small h =
        record {
          in-range = omega arith;
          rest = sym (walk_turn (wide rows) (decode b).y w m j at at' l h) ∙ v.rest;
          long = length-set w j at ∙ v.long;
          state = small;
        }

    -- the last state
    pub walk_last : (at'' : ℕ) → at'' ≡ at → m ≤ j + 1 → Walking rows b w₀ m at₀ (set w j at) at'' (j + 1)
    walk_last at'' e h = rw e (goes at v.state (λ k. absurd (omega arith)))

    -- the next state was looked for
    pub walk_on : (x y : Set) (at'' at' : ℕ) → at'' ≡ at' → get_or b 1 0 ≤ 1 → m ≡ get_or b 0 0 - 1 → j + 1 < m → x ≡ quad rows (4 * at)
        → y ≡ quad b (1034 + 4 * (j + 2))
        → Outside x y at' → Walking rows b w₀ m at₀ (set w j at) at'' (j + 1)
    walk_on x y at'' at' ea k em h ex ey out =
        let dy : y ≡ (decode b).y (j + 2) = ey ∙ y_is b (j + 2) _ refl (omega arith) (omega arith) in
        rw ea (goes at' out.small (λ _. out.is ∙ ap₂ (λ u v. or_zero (smallest (minus 256 u v))) ex dy ∙ sym (step_wide rows at ((decode b).y (j + 2)))))

  pub walk_ends : (t : Table) (y : Set) (w : List ℕ) (at j : ℕ) → Walking rows b w₀ m at₀ w at j → m ≤ j → m ≡ get_or b 0 0 - 1 → Ready t b → rows ≡ t.rows
      → get_or b 1 0 ≤ 1 → y ≡ quad b 1038 → Outside t.starts y at₀ → w ≡ sets w₀ 0 (shown_walk t (decode b))
  unfolding shown_walk
  walk_ends t y w at j v l em r er k ey out =
      let q : j ≡ m = omega (arith, v.in-range) in
      let dy : y ≡ (decode b).y 1 = ey ∙ y_is b 1 1038 (omega arith) k (omega (arith, r.spans.two)) in
      let first : at₀ ≡ first_state t ((decode b).y 1) = out.is ∙ ap (λ v. or_zero (smallest (minus 256 t.starts v))) dy
      ∙ first_is t r.good ((decode b).y 1) in
      walk_end (wide rows) (decode b).y w m at ∙ (rw q at v.rest)
      ∙ ap (λ c. sets w₀ 0 (walk_from (wide c) m at₀ 1 (decode b).y)) er
      ∙ ap (sets w₀ 0) (walk_256 t r.good m at₀ 1 (decode b).y out.small)
      ∙ ap₂ (λ m a. sets w₀ 0 (walk_from t m a 1 (decode b).y)) (em ∙ ap (λ n. n - 1) (n_is b)) first
