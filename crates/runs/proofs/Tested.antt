-- The conclusion, the rule due, its house choice and what it allows, as the code tests them.
--
-- The premises of each law are what a function knows where it returns, in its own words: r is what a test answered,
-- and `x ≡ quad b at` is a set that was read. So a proof cites the law, and `search` finds the premises.
use Prim.Native.Nat.{ℕ, suc, ◌+◌, ◌-◌, ◌*◌, ◌≤◌, ◌<◌}
use native.Mathlib.Omega.{arith}
use mathlib.Core.Bool.{Bool, true, false}
use mathlib.Core.List.{List, [], ◌∷◌}
use mathlib.Core.Logic.{◌⊎◌, inl, inr, ◌≢◌}
use Rattle.std.specs.Prelude.{None}
use mathlib.Core.Path.{◌≡◌, refl, sym, ap, ◌∙◌}
use borrow.Author.Tests.{eq-eqb, ne_eqb}
use lib.Dec.{eqb}
use lib.ListN.{get_or}
use Rattle.moves.proofs.Rows.{forward-is}
use Rattle.moves.specs.Wide.{forward256}
use Rattle.rules.proofs.Adjoint.{forward-backward-test}
use Rattle.rules.proofs.Keep.{due-is, Due, is_unfold, is_candidate, is_decide, is_conflict}
use Rattle.rules.proofs.Reading.{x_is, y_is, n_is, k_is, separates-256, proper_forward, proper_backward}
use Rattle.rules.proofs.Ready.{Good, Spans, Ready}
use Rattle.rules.specs.Buffer.{decode, Normal}
use Rattle.rules.specs.Rules as rules
use Rattle.rules.specs.Rules.{State, safe, reached, unfinished, closes, concludes, conclusion_of, due, allowed, house, separates, blocks}
use Rattle.rules.specs.Runs.{will_do}
use Rattle.rules.specs.Table.{Table, f, g}
use Rattle.runs.proofs.Enums.{due-as}
use Rattle.runs.specs.Inner.{IsDue, IsHouse, Looks, Remembers, Recalled, Ruled}
use Rattle.runs.specs.Said.{rule_of, as_rule}
use Rattle.runs.specs.declared.Rule as code
use Rattle.runs.specs.declared.memo.Memo.{Memo}
use Rattle.sets.proofs.Search.{least-of, least-here, nowhere}
use Rattle.sets.proofs.Tests.{lt_or_ge, same_or}
use Rattle.sets.proofs.Within.{within-256, meet-256}
use Rattle.sets.specs.Search.{least}
use Rattle.sets.specs.Sets.{Set, empty, within, sound, meet, quad, Proper}

-- ---- the conclusion
-- the loop of `conclusion` at j
pub record Looking (b : List ℕ) (hi : ℕ) (x : Set) (j : ℕ) : Type 0 where
  pub in-range : j ≤ hi
  -- no number below j closes
  pub failed : (i : ℕ) → i < j → closes 256 (decode b) i ≡ false
  -- x is x_j, read before
  pub read : x ≡ quad b (2 + 4 * j)

none_below : (a : ℕ) (p : ℕ → Bool) → ((j : ℕ) → j < a → p j ≡ false) → least a p ≡ None
none_below a p h = sym (least-of a p (nowhere h))

pub look_begins : (b : List ℕ) (lo hi : ℕ) (x : Set) → Looks b lo hi → x ≡ quad b (2 + 4 * lo) → Looking b hi x lo
look_begins b lo hi x v e = record { in-range = v.rise; failed = v.closing.low; read = e }

-- u is x_(j+1), and r says whether it is within x_j
module _ (b : List ℕ) (hi j : ℕ) (x u : Set) (v : Looking b hi x j) (l : j < hi) (room : hi < get_or b 0 0) (eu : u ≡ quad b (2 + 4 * (j + 1))) (r : Bool)
    (e : r ≡ within 256 u x) where
  closes-is : r ≡ closes 256 (decode b) j
  unfolding closes
  closes-is =
      let dx : x ≡ (decode b).x j = v.read ∙ x_is b j _ refl (omega arith) in
      let du : u ≡ (decode b).x (suc j) = eu ∙ x_is b (suc j) _ (omega arith) (omega arith) in
      rw (dx, du) at e

  pub look_goes : r ≡ false → Looking b hi u (j + 1)
  look_goes n =
      record {
        in-range = omega arith;
        failed = λ i h. elim (same_or i j) [ inl q ↦ rw q (sym closes-is ∙ n) | inr q ↦ v.failed i (omega (arith, q)) ];
        read = eu;
      }

  pub stands_safe : (I : Set) → r ≡ true → safe j ≡ conclusion_of 256 I (decode b)
  unfolding conclusion_of concludes
  stands_safe I n =
      rw (least-here ((decode b).n - 1) (closes 256 (decode b)) j (omega (arith, n_is b)) (none_below j _ v.failed) (sym closes-is ∙ n))

-- the loop is left: nothing closes
module _ (I : Set) (b : List ℕ) (lo hi j : ℕ) (x : Set) (k : Looks b lo hi) (v : Looking b hi x j) (end : hi ≤ j) where
  none_close : least ((decode b).n - 1) (closes 256 (decode b)) ≡ None
  none_close =
      none_below _ _ (λ i l. elim (lt_or_ge i j) [ inl h ↦ v.failed i h | inr h ↦ k.closing.high i (omega arith) (omega arith) ])

  pub stands_high : (get_or b 1 0 ≡ 1 → ⊥) → unfinished ≡ conclusion_of 256 I (decode b)
  unfolding conclusion_of concludes
  stands_high n = rw (none_close, ne_eqb (decode b).k 1 (λ e. n (k_is b ∙ e)))

  module _ (one : get_or b 1 0 ≡ 1) (y : Set) (r : Bool) (ey : y ≡ quad b 1038) (e : r ≡ within 256 I y) where
    start_is : r ≡ within 256 I ((decode b).y 1)
    start_is = rw (ey ∙ y_is b 1 1038 (omega arith) (omega arith) (omega (arith, k.spans.two))) at e

    pub stands_in : r ≡ true → unfinished ≡ conclusion_of 256 I (decode b)
    unfolding conclusion_of concludes
    stands_in n = rw (none_close, eq-eqb (decode b).k 1 (sym (k_is b) ∙ one), sym start_is ∙ n)

    pub stands_out : r ≡ false → reached ≡ conclusion_of 256 I (decode b)
    unfolding conclusion_of concludes
    stands_out n = rw (none_close, eq-eqb (decode b).k 1 (sym (k_is b) ∙ one), sym start_is ∙ n)

-- ---- the rule due
module _ (t : Table) (b : List ℕ) (v : Ready t b) where
  big : t.size ≤ 256
  big = v.good.big

  -- x_(k-1), and y_k where it is held
  prev_x : (x : Set) → x ≡ quad b (2 + 4 * (get_or b 1 0 - 1)) → x ≡ (decode b).x ((decode b).k - 1)
  prev_x x e = (e ∙ x_is b (get_or b 1 0 - 1) _ refl (omega (arith, v.spans.pos, v.spans.le))) ∙ rw (k_is b)

  this_y : get_or b 1 0 < get_or b 0 0 → (y : Set) → y ≡ quad b (1034 + 4 * get_or b 1 0) → y ≡ (decode b).y (decode b).k
  this_y l y e = (e ∙ y_is b (get_or b 1 0) _ refl (omega arith) l) ∙ rw (k_is b)

  module _ (x : Set) (r : Bool) (full : get_or b 1 0 ≡ get_or b 0 0) (ex : x ≡ quad b (2 + 4 * (get_or b 1 0 - 1))) (e : r ≡ within 256 x t.safe) where
    last_within : r ≡ within t.size ((decode b).x ((decode b).n - 1)) t.safe
    last_within =
        let dx : x ≡ (decode b).x (get_or b 0 0 - 1) = rw full at ex ∙ x_is b (get_or b 0 0 - 1) _ refl (omega (arith, v.spans.two)) in
        e ∙ rw (dx, n_is b) (within-256 t.size big _ _ (v.fit.held.norm.proper_x _))

    same : eqb (decode b).k (decode b).n ≡ true
    same = eq-eqb _ _ (sym (k_is b) ∙ full ∙ n_is b)

    due-unfold : r ≡ true → IsDue t b code.TheVariants.Unfold
    unfolding due rule_of
    due-unfold n = rw (same, sym last_within ∙ n, due)

    due-candidate : r ≡ false → IsDue t b code.TheVariants.Candidate
    unfolding due rule_of
    due-candidate n = rw (same, sym last_within ∙ n, due)

  -- w is g(y_k): f(x_(k-1)) is within y_k exactly when x_(k-1) is within w
  module _ (x y w : Set) (r : Bool) (m : Memo) (n : get_or b 1 0 ≡ get_or b 0 0 → ⊥) (ex : x ≡ quad b (2 + 4 * (get_or b 1 0 - 1)))
      (ey : y ≡ quad b (1034 + 4 * get_or b 1 0)) (c : Recalled t y w m) (e : r ≡ within 256 x w) where
    flows : r ≡ within t.size (f t ((decode b).x ((decode b).k - 1))) ((decode b).y (decode b).k)
    flows =
        let dw : w ≡ g t ((decode b).y (decode b).k) = c.is ∙ ap (g t) (this_y (omega (arith, n, v.spans.le)) y ey) in
        let narrow : within 256 x w ≡ within t.size ((decode b).x ((decode b).k - 1)) (g t ((decode b).y (decode b).k)) =
        rw (prev_x x ex, dw) (within-256 t.size big _ _ (v.fit.held.norm.proper_x _)) in
        e ∙ narrow ∙ sym (forward-backward-test t big _ _)

    other : eqb (decode b).k (decode b).n ≡ false
    other = ne_eqb _ _ (λ q. n (k_is b ∙ q ∙ sym (n_is b)))

    due-conflict : r ≡ true → IsDue t b code.TheVariants.Conflict
    unfolding due rule_of
    due-conflict q = rw (other, sym flows ∙ q, due)

    due-decide : r ≡ false → IsDue t b code.TheVariants.Decide
    unfolding due rule_of
    due-decide q = rw (other, sym flows ∙ q, due)

-- ---- what the rule due says of n and k
not_full : (t : Table) (s : State) (d : rules.Rule) → Due t s d → (d ≡ rules.Decide) ⊎ (d ≡ rules.Conflict) → s.k ≢ s.n
not_full t s d (is_unfold p h) (inl e) = let z : ◌≡◌ {A = ℕ} 0 1 = cc in absurd (omega arith)
not_full t s d (is_unfold p h) (inr e) = let z : ◌≡◌ {A = ℕ} 0 1 = cc in absurd (omega arith)
not_full t s d (is_candidate p h) (inl e) = let z : ◌≡◌ {A = ℕ} 0 1 = cc in absurd (omega arith)
not_full t s d (is_candidate p h) (inr e) = let z : ◌≡◌ {A = ℕ} 0 1 = cc in absurd (omega arith)
not_full t s d (is_decide p h) e = p
not_full t s d (is_conflict p h) e = p

full_at : (t : Table) (s : State) (d : rules.Rule) → Due t s d → (d ≡ rules.Candidate) → s.k ≡ s.n
full_at t s d (is_unfold p h) e = p
full_at t s d (is_candidate p h) e = p
full_at t s d (is_decide p h) e = let z : ◌≡◌ {A = ℕ} 0 1 = cc in absurd (omega arith)
full_at t s d (is_conflict p h) e = let z : ◌≡◌ {A = ℕ} 0 1 = cc in absurd (omega arith)

module _ (t : Table) (b : List ℕ) (v : Ready t b) (rule : code.Rule) (d : IsDue t b rule) where
  decide_held : rule ≡ code.TheVariants.Decide → get_or b 1 0 < get_or b 0 0
  unfolding decode as_rule
  decide_held e =
      let n : get_or b 1 0 ≢ get_or b 0 0 = not_full t (decode b) _ (due-is t (decode b)) (inl (due-as t b rule d ∙ ap as_rule e)) in
      omega (arith, n, v.spans.le)

  pub conflict_held : rule ≡ code.TheVariants.Conflict → get_or b 1 0 < get_or b 0 0
  unfolding decode as_rule
  conflict_held e =
      let n : get_or b 1 0 ≢ get_or b 0 0 = not_full t (decode b) _ (due-is t (decode b)) (inr (due-as t b rule d ∙ ap as_rule e)) in
      omega (arith, n, v.spans.le)

  candidate_full : rule ≡ code.TheVariants.Candidate → (decode b).k ≡ (decode b).n
  unfolding as_rule
  candidate_full e = full_at t (decode b) _ (due-is t (decode b)) (due-as t b rule d ∙ ap as_rule e)

  -- the house choice
  house-unfold : rule ≡ code.TheVariants.Unfold → IsHouse t b (0 ∷ 0 ∷ 0 ∷ 0 ∷ [])
  unfolding house as_rule empty
  house-unfold e = rw (due-as t b rule d ∙ ap as_rule e)

  house-candidate : rule ≡ code.TheVariants.Candidate → IsHouse t b t.safe
  unfolding house as_rule
  house-candidate e = rw (due-as t b rule d ∙ ap as_rule e)

  house-decide : rule ≡ code.TheVariants.Decide → (y w : Set) → y ≡ quad b (1034 + 4 * get_or b 1 0) → w ≡ g t y → IsHouse t b w
  unfolding house as_rule
  house-decide e y w ey ew = rw (due-as t b rule d ∙ ap as_rule e) (ew ∙ ap (g t) (this_y t b v (decide_held e) y ey))

  house-conflict : rule ≡ code.TheVariants.Conflict → (y : Set) → y ≡ quad b (1034 + 4 * get_or b 1 0) → IsHouse t b y
  unfolding house as_rule
  house-conflict e y ey = rw (due-as t b rule d ∙ ap as_rule e) (this_y t b v (conflict_held e) y ey)

  -- ---- whether a set will do
  module _ (z : Set) (r : Bool) (er : r ≡ sound t.size z) (ok : r ≡ true) where
    pub will_unfold : rule ≡ code.TheVariants.Unfold → true ≡ will_do t (decode b) z
    unfolding will_do allowed as_rule
    will_unfold e = rw (sym er ∙ ok, due-as t b rule d ∙ ap as_rule e)

    -- what is left to see once z is sound
    allows : {rl : rules.Rule} → due t (decode b) ≡ rl → allowed t rl (decode b) z ≡ will_do t (decode b) z
    unfolding will_do
    allows du = rw (sym er ∙ ok, du)

    module _ (h x : Set) (q : Bool) (eh : IsHouse t b h) (ex : x ≡ quad b (2 + 4 * (get_or b 1 0 - 1))) where
      pub will_candidate : rule ≡ code.TheVariants.Candidate → q ≡ separates 256 h x z → q ≡ will_do t (decode b) z
      unfolding will_do allowed house as_rule
      will_candidate e eq =
          let du = due-as t b rule d ∙ ap as_rule e in
          let dh : h ≡ t.safe = eh ∙ rw du in
          let dx : x ≡ (decode b).x ((decode b).n - 1) = prev_x t b v x ex ∙ rw (candidate_full e) in
          let wide : separates 256 h x z ≡ separates t.size t.safe ((decode b).x ((decode b).n - 1)) z =
          rw (dh, dx) (separates-256 t.size v.good.big _ _ z v.good.safe (v.fit.held.norm.proper_x _)) in
          eq ∙ wide ∙ allows du

      pub will_decide : rule ≡ code.TheVariants.Decide → q ≡ separates 256 h x z → q ≡ will_do t (decode b) z
      unfolding will_do allowed house as_rule
      will_decide e eq =
          let du = due-as t b rule d ∙ ap as_rule e in
          let dh : h ≡ g t ((decode b).y (decode b).k) = eh ∙ rw du in
          let wide : separates 256 h x z ≡ separates t.size (g t ((decode b).y (decode b).k)) ((decode b).x ((decode b).k - 1)) z =
          rw (dh, prev_x t b v x ex)
          (separates-256 t.size v.good.big _ _ z (proper_backward t.size t.rows _ v.good.big) (v.fit.held.norm.proper_x _)) in
          eq ∙ wide ∙ allows du

      pub will_conflict : rule ≡ code.TheVariants.Conflict → q ≡ blocks t h x z → q ≡ will_do t (decode b) z
      unfolding will_do allowed house as_rule
      will_conflict e eq =
          let du = due-as t b rule d ∙ ap as_rule e in
          let dh : h ≡ (decode b).y (decode b).k = eh ∙ rw du in
          let here : blocks t h x z ≡ blocks t ((decode b).y (decode b).k) ((decode b).x ((decode b).k - 1)) z = rw (dh, prev_x t b v x ex) in
          eq ∙ here ∙ allows du

-- ---- the rule due and its house choice
module _ (t : Table) (b : List ℕ) (v : Ready t b) where
  module _ (x : Set) (r : Bool) (m : Memo) (full : get_or b 1 0 ≡ get_or b 0 0) (ex : x ≡ quad b (2 + 4 * (get_or b 1 0 - 1)))
      (e : r ≡ within 256 x t.safe) (k : Remembers t m) where
    pub ruled-unfold : r ≡ true → Ruled t b code.TheVariants.Unfold (0 ∷ 0 ∷ 0 ∷ 0 ∷ []) m
    ruled-unfold n =
        let d = due-unfold t b v x r full ex e n in
        record { due = d; house = house-unfold t b v _ d refl; kept = k }

    pub ruled-candidate : (h : Set) → r ≡ false → h ≡ t.safe → Ruled t b code.TheVariants.Candidate h m
    ruled-candidate h n eh =
        let d = due-candidate t b v x r full ex e n in
        record { due = d; house = rw eh (house-candidate t b v _ d refl); kept = k }

  module _ (x y w : Set) (r : Bool) (m : Memo) (n : get_or b 1 0 ≡ get_or b 0 0 → ⊥) (ex : x ≡ quad b (2 + 4 * (get_or b 1 0 - 1)))
      (ey : y ≡ quad b (1034 + 4 * get_or b 1 0)) (c : Recalled t y w m) (e : r ≡ within 256 x w) where
    pub ruled-conflict : r ≡ true → Ruled t b code.TheVariants.Conflict y m
    ruled-conflict q =
        let d = due-conflict t b v x y w r m n ex ey c e q in
        record { due = d; house = house-conflict t b v _ d refl y ey; kept = c.kept }

    pub ruled-decide : r ≡ false → Ruled t b code.TheVariants.Decide w m
    ruled-decide q =
        let d = due-decide t b v x y w r m n ex ey c e q in
        record { due = d; house = house-decide t b v _ d refl y w ey c.is; kept = c.kept }

pub will_not : (t : Table) (s : State) (z : Set) (r : Bool) → r ≡ sound t.size z → r ≡ false → false ≡ will_do t s z
unfolding will_do
will_not t s z r e n = rw (sym e ∙ n)

-- the x that was read holds states alone
pub proper_prev : (N : ℕ) (b : List ℕ) (x : Set) → Normal N (decode b) → Spans b → x ≡ quad b (2 + 4 * (get_or b 1 0 - 1)) → Proper N x
proper_prev N b x m v e = rw (e ∙ x_is b (get_or b 1 0 - 1) _ refl (omega (arith, v.pos, v.le))) (m.proper_x _)

-- ---- what Conflict asks of z
module _ (t : Table) (y x z : Set) (good : Good t) (px : Proper t.size x) (pz : Proper t.size z) (r : Bool) (e : r ≡ within 256 z y) where
  inside : within t.size z y ≡ r
  inside = sym (e ∙ within-256 t.size good.big z y pz)

  pub blocks-1 : r ≡ false → false ≡ blocks t y x z
  blocks-1 n = rw (inside ∙ n)

  module _ (ok : r ≡ true) (r₂ : Bool) (e₂ : r₂ ≡ within 256 t.starts z) where
    started : within t.size t.starts z ≡ r₂
    started = sym (e₂ ∙ within-256 t.size good.big t.starts z good.starts)

    pub blocks-2 : r₂ ≡ false → false ≡ blocks t y x z
    blocks-2 n = rw (inside ∙ ok, started ∙ n)

    pub blocks-3 : r₂ ≡ true → (m w : Set) (q : Bool) → m ≡ meet 256 x z → w ≡ forward256 t.size t.rows m → q ≡ within 256 w z → q ≡ blocks t y x z
    blocks-3 n m w q em ew eq =
        let flow : within 256 w z ≡ within t.size (f t (meet t.size x z)) z =
        rw (ew, forward-is t.size t.rows good.big good.rows m, em, meet-256 t.size good.big x z px)
        (within-256 t.size good.big _ z (proper_forward t.size t.rows _ good.big)) in
        eq ∙ flow ∙ rw (inside ∙ ok, started ∙ n)
