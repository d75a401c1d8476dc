-- Laws of the numbers that pass a test, and of the numbers among a list.
use Prim.Native.Nat.{ℕ, zero, suc, ◌+◌, ◌≤◌, ◌<◌}
use native.Mathlib.Numerals.{add-one}
use native.Mathlib.Omega.{arith}
use mathlib.Core.Path.{◌≡◌, refl, sym, ap, ap₂, ◌∙◌}
use mathlib.Core.Bool.{Bool, true, false, ◌||◌, cond}
use mathlib.Core.List.{List, [], ◌∷◌, ◌++◌}
use borrow.Author.Tests.{ne_eqb, eqb-true, eqb-false}
use lib.Dec.{eqb}
use lib.ListN.{length, length-append}
use Rattle.sets.specs.Search.{sum}
use Rattle.sets.specs.Sets.{digit}
use Rattle.tables.specs.Lists.{passing, among}

-- ---- the numbers that pass a test
pub passing-none : (p : ℕ → Bool) (from : ℕ) → passing p from 0 ≡ []
unfolding passing
passing-none p from = refl

append-cond : (t : Bool) (v : ℕ) (xs ys : List ℕ) → cond t (v ∷ (xs ++ ys)) (xs ++ ys) ≡ cond t (v ∷ xs) xs ++ ys
append-cond true v xs ys = refl
append-cond false v xs ys = refl

pub passing-add : (p : ℕ → Bool) (from a k : ℕ) → passing p from (a + k) ≡ passing p from a ++ passing p (from + a) k
unfolding passing
passing-add p from zero k = let e : 0 + k ≡ k = omega arith in let f : from + 0 ≡ from = omega arith in rw (e, f)
passing-add p from (suc a) k =
    let e : suc a + k ≡ suc (a + k) = omega arith in
    let f : from + suc a ≡ suc from + a = omega arith in
    rw (e, f, passing-add p (suc from) a k) (append-cond (p from) from _ _)

pub passing-more : (p : ℕ → Bool) (from k : ℕ) → passing p from (k + 1) ≡ passing p from k ++ cond (p (from + k)) ((from + k) ∷ []) []
unfolding passing
passing-more p from k = passing-add p from k 1 ∙ ap (λ (l : List ℕ). passing p from k ++ l) (one (from + k))
  where
    one : (v : ℕ) → passing p v 1 ≡ cond (p v) (v ∷ []) []
    one v = refl

pub passing-ext : (p q : ℕ → Bool) (k from : ℕ) → ((i : ℕ) → i < k → p (from + i) ≡ q (from + i)) → passing p from k ≡ passing q from k
unfolding passing
passing-ext p q zero from h = refl
passing-ext p q (suc k) from h =
    let z : from + 0 ≡ from = omega arith in
    let e : p from ≡ q from = rw z at (h 0 (omega arith)) in
    rw (e, passing-ext p q k (suc from) (λ i l. let f : from + suc i ≡ suc from + i = omega arith in rw f at (h (suc i) (omega arith))))

pub passing-nothing : (p : ℕ → Bool) (k from : ℕ) → ((i : ℕ) → i < k → p (from + i) ≡ false) → passing p from k ≡ []
unfolding passing
passing-nothing p zero from h = refl
passing-nothing p (suc k) from h =
    let z : from + 0 ≡ from = omega arith in
    let e : p from ≡ false = rw z at (h 0 (omega arith)) in
    rw e (passing-nothing p k (suc from) (λ i l. let f : from + suc i ≡ suc from + i = omega arith in rw f at (h (suc i) (omega arith))))

length-cond : (t : Bool) (v : ℕ) → length (cond t (v ∷ []) []) ≡ digit t
length-cond true v = refl
length-cond false v = refl

pub passing-count : (p : ℕ → Bool) (from k : ℕ) → length (passing p from k) ≡ sum k (λ i. digit (p (from + i)))
unfolding sum
passing-count p from zero = ap length (passing-none p from)
passing-count p from (suc k) =
    let e = ap length (passing-more p from k) ∙ length-append (passing p from k) _ ∙ ap₂ ◌+◌ (passing-count p from k) (length-cond (p (from + k)) (from + k)) in
    let f : k + 1 ≡ suc k = omega arith in
    rw f at e ∙ omega arith

pub length-passing : (p : ℕ → Bool) (k from : ℕ) → length (passing p from k) ≤ k
unfolding passing
length-passing p zero from = omega arith
length-passing p (suc k) from = go (p from) (length-passing p k (suc from))
  where
    go : (t : Bool) → length (passing p (suc from) k) ≤ k → length (cond t (from ∷ passing p (suc from) k) (passing p (suc from) k)) ≤ suc k
    go true h = omega arith
    go false h = omega arith

-- ---- the numbers among a list
pub among-append : (xs ys : List ℕ) (v : ℕ) → among (xs ++ ys) v ≡ (among xs v || among ys v)
unfolding among
among-append [] ys v = refl
among-append (x ∷ xs) ys v = rw (among-append xs ys v) (or_assoc (eqb v x) (among xs v) (among ys v))
  where
    or_assoc : (a b c : Bool) → (a || (b || c)) ≡ ((a || b) || c)
    or_assoc true b c = refl
    or_assoc false b c = refl

-- strictly rising, from low on and below n
pub data Rising (n : ℕ) : ℕ → List ℕ → Type 0 where
  stop : {low : ℕ} → Rising n low []
  next : {low v : ℕ} {vs : List ℕ} → low ≤ v → v < n → Rising n (suc v) vs → Rising n low (v ∷ vs)

among_below : (n low v : ℕ) (vs : List ℕ) → Rising n low vs → v < low → among vs v ≡ false
unfolding among
among_below n low v [] stop h = refl
among_below n low v (w ∷ ws) (next l b r) h = rw (ne_eqb v w (λ e. omega arith)) (among_below n (suc w) v ws r (omega arith))

-- a rising list is of the numbers among it
pub passing-among : (k from n : ℕ) (vs : List ℕ) → n ≡ from + k → Rising n from vs → passing (among vs) from k ≡ vs
unfolding passing among
passing-among zero from n [] e stop = refl
passing-among zero from n (v ∷ vs) e (next l b r) = absurd (omega arith)
passing-among (suc k) from n [] e stop = passing-among k (suc from) n [] (omega arith) stop
passing-among (suc k) from n (v ∷ vs) e (next l b r) =
    go (eqb from v) refl (λ q. passing-among k (suc from) n vs (omega arith) q) (λ q. passing-among k (suc from) n (v ∷ vs) (omega arith) q)
  where
    more : ℕ → Bool
    more s = eqb s v || among vs s

    go : (t : Bool) → eqb from v ≡ t → (Rising n (suc from) vs → passing (among vs) (suc from) k ≡ vs)
        → (Rising n (suc from) (v ∷ vs) → passing more (suc from) k ≡ v ∷ vs)
        → cond (t || among vs from) (from ∷ passing more (suc from) k) (passing more (suc from) k) ≡ v ∷ vs
    go true q f g =
        let d : from ≡ v = eqb-true from v q in
        ap₂ (λ (x : ℕ) (l : List ℕ). x ∷ l) d
        (passing-ext more (among vs) k (suc from) (λ i m. rw (ne_eqb (suc from + i) v (λ e. omega arith)))
        ∙ f (rw d r))
    go false q f g =
        let d = eqb-false from v q in
        rw (among_below n (suc v) from vs r (omega arith)) (g (next (omega arith) b r))

below_passing : (p : ℕ → Bool) (k from s : ℕ) → s < from → among (passing p from k) s ≡ false
unfolding passing among
below_passing p zero from s h = refl
below_passing p (suc k) from s h = go (p from) (below_passing p k (suc from) s (omega arith))
  where
    go : (t : Bool) → among (passing p (suc from) k) s ≡ false → among (cond t (from ∷ passing p (suc from) k) (passing p (suc from) k)) s ≡ false
    go true e = rw (ne_eqb s from (λ q. omega arith), e)
    go false e = e

-- among the numbers that pass is what passes
pub among-passing : (p : ℕ → Bool) (k from s : ℕ) → from ≤ s → s < from + k → among (passing p from k) s ≡ p s
unfolding passing among
among-passing p zero from s h m = absurd (omega arith)
among-passing p (suc k) from s h m = go (p from) refl (eqb s from) refl (λ a. among-passing p k (suc from) s a (omega arith))
  where
    go : (t : Bool) → p from ≡ t → (u : Bool) → eqb s from ≡ u → (suc from ≤ s → among (passing p (suc from) k) s ≡ p s)
        → among (cond t (from ∷ passing p (suc from) k) (passing p (suc from) k)) s ≡ p s
    go true e true q f = let d : s ≡ from = eqb-true s from q in rw (q, d) (sym e)
    go true e false q f = let d = eqb-false s from q in rw q (f (omega arith))
    go false e true q f = let d : s ≡ from = eqb-true s from q in rw d (below_passing p k (suc from) from (omega arith) ∙ sym e)
    go false e false q f = let d = eqb-false s from q in f (omega arith)

-- ---- a loop that sums
pub sum-none : (h : ℕ → ℕ) → 0 ≡ sum 0 h
unfolding sum
sum-none h = refl

pub sum_more : (n : ℕ) (h : ℕ → ℕ) → sum n h + h n ≡ sum (n + 1) h
unfolding sum
sum_more n h = rw (add-one n) (omega arith)
