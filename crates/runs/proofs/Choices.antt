-- The hints, the set that a rule is fired with, and whether a proposal is taken.
use Prim.Native.Nat.{ℕ, zero, suc, ◌+◌, ◌-◌, ◌*◌, ◌≤◌, ◌<◌, ◌/◌}
use native.Mathlib.Omega.{arith}
use mathlib.Core.Bool.{Bool, true, false}
use mathlib.Core.List.{List, [], ◌∷◌}
use mathlib.Core.Path.{◌≡◌, sym, ap, ◌∙◌}
use lib.ListN.{length}
use Rattle.rules.proofs.Normal.{Words}
use Rattle.rules.specs.Buffer.{decode}
use Rattle.rules.specs.Rules.{due}
use Rattle.rules.specs.Runs.{pick, asks, offered, will_do, choose}
use Rattle.rules.specs.Single.{takes}
use Rattle.rules.specs.Table.{Table}
use Rattle.runs.proofs.Enums.{due-as}
use Rattle.runs.specs.Hints.{hints_from, hints_at}
use Rattle.runs.specs.Inner.{IsDue, IsHouse, Chose}
use Rattle.runs.specs.Said.{as_rule}
use Rattle.runs.specs.declared.Rule as code
use Rattle.sets.proofs.Members.{proper_four}
use Rattle.sets.specs.Sets.{Set, quad, Proper, Words as Words64}

-- ---- hints
pub hints_none : (ws : List ℕ) (a : ℕ) → length ws / 4 ≤ a → hints_at ws a ≡ []
unfolding hints_from
hints_none ws a l = let e : length ws / 4 - a ≡ 0 = omega arith in rw e

pub hints_same : (ws : List ℕ) (a : ℕ) → hints_at ws a ≡ hints_at ws (a + 0)
hints_same ws a = let e : a + 0 ≡ a = omega arith in rw e

pub hints_more : (ws : List ℕ) (a : ℕ) → a < length ws / 4 → hints_at ws a ≡ quad ws (4 * a) ∷ hints_at ws (a + 1)
unfolding hints_from
hints_more ws a l =
    let e : length ws / 4 - a ≡ suc (length ws / 4 - (a + 1)) = omega arith in
    let q : suc a ≡ a + 1 = omega arith in
    rw (e, q)

proper_quad : (b : List ℕ) → Words64 b → (i : ℕ) → Proper 256 (quad b i)
unfolding quad
proper_quad b w i = proper_four _ _ _ _ (w i) (w (i + 1)) (w (i + 2)) (w (i + 3))

hints-from : (ws : List ℕ) → Words64 ws → (m a : ℕ) → Words (hints_from ws m a)
unfolding hints_from
hints-from ws w zero a = tt
hints-from ws w (suc m) a = (proper_quad ws w (4 * a), hints-from ws w m (suc a))

pub hints_words : (ws : List ℕ) → Words64 ws → (a : ℕ) → Words (hints_at ws a)
hints_words ws w a = hints-from ws w (length ws / 4 - a) a

-- ---- the set that the rule is fired with; r is what `asks` answered
module _ (t : Table) (b : List ℕ) (rule : code.Rule) (d : IsDue t b rule) (r : Bool) (e : r ≡ asks (as_rule rule)) where
  asks-is : asks (due t (decode b)) ≡ r
  asks-is = ap asks (due-as t b rule d) ∙ sym e

  pub takes-any : (z : Set) → r ≡ false → true ≡ takes t (decode b) z
  unfolding takes
  takes-any z n = rw (asks-is ∙ n)

  pub takes-is : (z : Set) (q : Bool) → r ≡ true → q ≡ will_do t (decode b) z → q ≡ takes t (decode b) z
  unfolding takes
  takes-is z q n eq = eq ∙ rw (asks-is ∙ n)

  module _ (ws : List ℕ) (a : ℕ) (h : Set) (eh : IsHouse t b h) where
    -- the rule takes no hint; there is none
    pub chose_calm : r ≡ false → Chose t ws a b h 0 0
    unfolding choose pick
    chose_calm n = rw (asks-is ∙ n, ← eh, ← (hints_same ws a))

    pub chose_dry : r ≡ true → length ws / 4 ≤ a → Chose t ws a b h 0 0
    unfolding choose pick
    chose_dry n l = rw (asks-is ∙ n, ← eh, ← (hints_same ws a), hints_none ws a l)

    -- the hint z will do, or not
    module _ (n : r ≡ true) (l : a < length ws / 4) (z : Set) (ez : z ≡ quad ws (4 * a)) (q : Bool) (eq : q ≡ will_do t (decode b) z) where
      pub chose_hint : q ≡ true → Chose t ws a b z 1 1
      unfolding choose pick offered
      chose_hint y = rw (asks-is ∙ n, hints_more ws a l, ← ez, sym eq ∙ y)

      pub chose_house : q ≡ false → Chose t ws a b h 1 0
      unfolding choose pick offered
      chose_house y = rw (asks-is ∙ n, hints_more ws a l, ← ez, sym eq ∙ y, ← eh)
