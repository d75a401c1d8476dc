-- The entry check as a fact: the invariant of the search, its parts labelled as in the paper's Figure 2; what an open run knows.
use Prim.Native.Nat.{ℕ, suc, ◌+◌, ◌≤◌, ◌<◌}
use native.Mathlib.Omega.{arith}
use mathlib.Core.Bool.{Bool, true, false}
use mathlib.Core.Logic.{◌≢◌}
use Rattle.std.specs.Prelude.{Option, None, Some}
use mathlib.Core.Path.{◌≡◌, refl}
use borrow.Author.Tests.{eq-eqb}
use Rattle.rules.specs.Rules.{put, cut, concludes, closes, conclusion, conclusion_of, State, unfinished}
use Rattle.rules.specs.Table.{f, g, Table}
use Rattle.sets.proofs.Search.{least-is, Least, here, nowhere}
use Rattle.sets.proofs.Tests.{passes, fails, not-false, eqb-says, leb-says}
use Rattle.sets.proofs.Within.{is_within, is_beyond, Within, Beyond}
use Rattle.sets.specs.Sets.{Set, empty, meet}

-- one place put, the others kept
pub put_same : (x : ℕ → Set) (i : ℕ) (v : Set) → put x i v i ≡ v
unfolding put
put_same x i v = rw (eq-eqb i i refl)

pub put_other : (x : ℕ → Set) (i : ℕ) (v : Set) (j : ℕ) → j ≢ i → put x i v j ≡ x j
unfolding put
put_other x i v j h = rw (fails (eqb-says j i) h)

pub cut_low : (N : ℕ) (x : ℕ → Set) (k : ℕ) (z : Set) (j : ℕ) → j ≤ k → cut N x k z j ≡ meet N (x j) z
unfolding cut
cut_low N x k z j h = rw (passes (leb-says j k) (λ l. absurd (omega arith)))

pub cut_high : (N : ℕ) (x : ℕ → Set) (k : ℕ) (z : Set) (j : ℕ) → k < j → cut N x k z j ≡ x j
unfolding cut
cut_high N x k z j h = rw (fails (leb-says j k) (λ l. absurd (omega arith)))

module _ (t : Table) where
  pub record Invariant (s : State) : Type 0 where
    -- I1, and room for every state
    pub two : 2 ≤ s.n
    pub cap : s.n ≤ t.size + 2
    pub pos : 1 ≤ s.k
    pub le : s.k ≤ s.n
    -- I0
    pub x0 : Within t.size (s.x 0) empty
    -- I2
    pub up : (j : ℕ) → suc j < s.n → Within t.size (s.x j) (s.x (suc j))
    -- P1
    pub base : (j : ℕ) → suc j < s.n → Within t.size t.starts (s.x (suc j))
    -- P3
    pub flow : (j : ℕ) → suc j < s.n → Within t.size (f t (s.x j)) (s.x (suc j))
    -- P2
    pub fine : (j : ℕ) → suc (suc j) ≡ s.n → Within t.size (s.x j) t.safe
    -- N1
    pub top : (j : ℕ) → s.k ≤ j → suc j ≡ s.n → Within t.size t.safe (s.y j)
    -- N2
    pub back : (j : ℕ) → s.k ≤ j → suc j < s.n → Within t.size (g t (s.y (suc j))) (s.y j)
    -- PN
    pub apart : (j : ℕ) → s.k ≤ j → j < s.n → Beyond t.size (s.x j) (s.y j)

  abbrev pub Open : State → Type 0
  Open s = conclusion t s ≡ unfinished

  -- what a run that has not concluded knows
  pub open_up : (s : State) → Open s → (j : ℕ) → suc j < s.n → Beyond t.size (s.x (suc j)) (s.x j)
  unfolding conclusion_of concludes closes
  open_up s o j lt =
      go _ _ _ (least-is _ (closes t.size s)) o (omega arith)
    where
      go : (m : ℕ) (r : Option ℕ) (b : Bool) → Least m (closes t.size s) r → concludes r b ≡ unfinished → j < m
          → Beyond t.size (s.x (suc j)) (s.x j)
      go m r b (here i l e h) q _ = let z : ◌≡◌ {A = ℕ} 0 1 = cc in absurd (omega arith)
      go m r b (nowhere h) q lm = is_beyond t.size (s.x (suc j)) (s.x j) (h j lm)

  start-tested : (r : Option ℕ) (b : Bool) → concludes r b ≡ unfinished → b ≡ false
  unfolding concludes
  start-tested (Some j) b q = cc
  start-tested None true q = cc
  start-tested None false q = refl

  pub open_start : (s : State) → Open s → s.k ≡ 1 → Within t.size t.starts (s.y 1)
  unfolding conclusion_of
  open_start s o e =
      let q = start-tested _ _ o in
      is_within t.size t.starts (s.y 1) (not-false _ (rw e at q))
