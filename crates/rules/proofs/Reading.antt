-- What code reads out of a run buffer, and tests on all 256 places, in the words of the definitions.
--
-- Four words hold 256 places, so the code's tests are the definitions at 256. `..-256` take them to N, for sets with no members from N up.
use Prim.Native.Nat.{ℕ, suc, ◌+◌, ◌-◌, ◌*◌, ◌≤◌, ◌<◌}
use mathlib.Core.Bool.{Bool, not, ◌&&◌}
use mathlib.Core.List.{List}
use mathlib.Core.Path.{◌≡◌, refl, ap, ap₂, fun_ext}
use borrow.Author.Tests.{lt-ltb, le-leb}
use lib.Dec.{eqb, leb}
use lib.ListN.{get_or}
use Rattle.rules.specs.Buffer.{decode, Normal}
use Rattle.rules.specs.Rules.{State, state, put, cut, closes, concludes, conclusion_of, separates, after_conflict}
use Rattle.rules.specs.Table.{forward, backward}
use Rattle.sets.proofs.Members.{proper_of}
use Rattle.sets.proofs.Within.{within-256, meet-256}
use Rattle.sets.specs.Search.{least}
use Rattle.sets.specs.Sets.{Set, empty, quad, Proper}
use mathlib.Core.Bool.{cond}

module _ (b : List ℕ) where
  -- the sets of the state stand in their places
  pub x_is : (j at : ℕ) → at ≡ 2 + 4 * j → j < get_or b 0 0 → quad b at ≡ (decode b).x j
  unfolding decode
  x_is j at e l = rw (e, lt-ltb j (get_or b 0 0) l)

  pub y_is : (j at : ℕ) → at ≡ 1034 + 4 * j → get_or b 1 0 ≤ j → j < get_or b 0 0 → quad b at ≡ (decode b).y j
  unfolding decode
  y_is j at e a l = rw (e, le-leb (get_or b 1 0) j a, lt-ltb j (get_or b 0 0) l)

  pub n_is : get_or b 0 0 ≡ (decode b).n
  unfolding decode
  n_is = refl

  pub k_is : get_or b 1 0 ≡ (decode b).k
  unfolding decode
  k_is = refl

-- f(x) and g(x) hold states alone
pub proper_forward : (N : ℕ) (rows : List ℕ) (x : Set) → N ≤ 256 → Proper N (forward N rows x)
unfolding forward
proper_forward N rows x big = proper_of N big _

pub proper_backward : (N : ℕ) (rows : List ℕ) (x : Set) → N ≤ 256 → Proper N (backward N rows x)
unfolding backward
proper_backward N rows x big = proper_of N big _

module _ (N : ℕ) (big : N ≤ 256) where
  pub separates-256 : (low x z : Set) → Proper N low → Proper N x → separates 256 low x z ≡ separates N low x z
  separates-256 low x z p q = ap₂ (λ (a b : Bool). a && not b) (within-256 N big low z p) (within-256 N big x z q)

  module _ (s : State) (m : Normal N s) where
    pub closes-256 : closes 256 s ≡ closes N s
    unfolding closes
    closes-256 = fun_ext (λ j. within-256 N big (s.x (suc j)) (s.x j) (m.proper_x (suc j)))

    pub conclusion-256 : (I : Set) → Proper N I → conclusion_of 256 I s ≡ conclusion_of N I s
    unfolding conclusion_of
    conclusion-256 I p =
        ap₂ (λ (p : ℕ → Bool) (c : Bool). concludes (least (s.n - 1) p) (eqb s.k 1 && not c))
        closes-256 (within-256 N big I (s.y 1) p)

    pub conflict_256 : (z : Set) → after_conflict 256 s z ≡ after_conflict N s z
    unfolding cut
    conflict_256 z =
        ap (λ x. state s.n (s.k + 1) x (put s.y s.k empty))
        (fun_ext (λ j. ap (λ v. cond (leb j s.k) v (s.x j)) (meet-256 N big (s.x j) z (m.proper_x j))))
