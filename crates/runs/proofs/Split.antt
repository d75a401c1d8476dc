-- Budgets over buffers: b1 rules, then b2 with the hints that remain; and a fresh run buffer passes the entry check.
use Prim.Native.Nat.{ℕ, zero, suc, ◌+◌, ◌-◌, ◌*◌, ◌≤◌, ◌/◌}
use native.Mathlib.Nat.{add_assoc}
use native.Mathlib.Omega.{arith}
use mathlib.Core.Bool.{true}
use mathlib.Core.List.{List}
use mathlib.Core.Logic.{◌⊎◌, inl, inr}
use mathlib.Core.Path.{◌≡◌, refl, sym, ap, ◌∙◌, ap₂}
use borrow.Author.Tests.{eq-eqb}
use lib.ListN.{length, drop, length-drop}
use lib.Seq.{get_or-drop}
use Rattle.std.specs.Prelude.{Result}
use Rattle.answers.specs.declared.Refusal.{Refusal}
use Rattle.rules.proofs.Budget.{run-standing, budget}
use Rattle.rules.proofs.Demands.{fresh-inv}
use Rattle.rules.proofs.Ends.{opened, run-done}
use Rattle.rules.proofs.Held.{kept-accepts}
use Rattle.rules.proofs.Invariant.{Invariant}
use Rattle.rules.proofs.Normal.{fresh-normal}
use Rattle.rules.specs.Buffer.{encode, decode, entry_check}
use Rattle.rules.specs.Rules.{fresh, State, Standing, reached, unfinished}
use Rattle.rules.specs.Runs.{stop, followed_by, run, Ran}
use Rattle.rules.specs.ShownWalk.{shown_walk}
use Rattle.rules.specs.Table.{Table}
use Rattle.runs.proofs.Demands.{set_twice, walk_twice, big, fit, told, fired, took, uses, left-buffer, left-state, left-hints, walk_room}
use Rattle.runs.proofs.Demands.{set-left, walk_left, set_four, walk_256, lent_again}
use Rattle.runs.specs.Demands.{Lent, SplitAnswer, SplitBudget}
use Rattle.runs.specs.Hints.{hints_from, hints_at}
use Rattle.runs.specs.Promises.{fresh_refusal, run_answer, set_after, walk_after, RunPromise, FreshPromise}
use Rattle.runs.specs.Said.{taken_of}
use Rattle.runs.specs.declared.RunAnswer.{RunAnswer}
use Rattle.sets.specs.Sets.{quad}
use Rattle.rules.specs.Runs as runs

-- ---- the hints that remain
quad-drop : (ws : List ℕ) (k i : ℕ) → quad (drop k ws) i ≡ quad ws (k + i)
unfolding quad
quad-drop ws k i = simp (get_or-drop, ← add_assoc)

from-drop : (ws : List ℕ) (a m i : ℕ) → hints_from (drop (4 * a) ws) m i ≡ hints_from ws m (a + i)
unfolding hints_from
from-drop ws a zero i = refl
from-drop ws a (suc m) i =
    let e : 4 * a + 4 * i ≡ 4 * (a + i) = omega arith in
    let q : a + suc i ≡ suc (a + i) = omega arith in
    rw (quad-drop ws (4 * a) (4 * i), e, from-drop ws a m (suc i), q)

pub hints_drop : (ws : List ℕ) (a : ℕ) → hints_at (drop (4 * a) ws) 0 ≡ hints_at ws a
hints_drop ws a =
    let e : length (drop (4 * a) ws) / 4 - 0 ≡ length ws / 4 - a = rw length-drop (omega arith) in
    let z : a + 0 ≡ a = omega arith in
    rw (e, from-drop ws a (length ws / 4 - a) 0, z)

-- an unfinished run writes neither set nor walk
set-open : {r : Standing} → r ≡ unfinished → (s : State) (l : List ℕ) → set_after 0 r s l ≡ l
unfolding set_after
set-open e s l = rw e

walk_open : (t : Table) {r : Standing} → r ≡ unfinished → (s : State) (l : List ℕ) → walk_after t 0 r s l ≡ l
unfolding walk_after
walk_open t e s l = rw e

-- the first run is unfinished, or the second stops at once
abbrev Goes : runs.Ran → runs.Ran → Type 0
Goes o o' = (o.standing ≡ unfinished) ⊎ (o' ≡ stop o.standing o.left o.state)

-- what the second writes is the same over what the first left
set-over : (o o' : runs.Ran) (l l₁ : List ℕ) → Goes o o' → l₁ ≡ set_after 0 o.standing o.state l
    → set_after 0 o'.standing o'.state l ≡ set_after 0 o'.standing o'.state l₁
unfolding stop
set-over o o' l l₁ (inl e) q = ap (set_after 0 o'.standing o'.state) (sym (q ∙ set-open e o.state l))
set-over o o' l l₁ (inr e) q = rw (e, q) (sym (set_twice o.standing o.state l))

walk_over : (t : Table) (o o' : runs.Ran) (l l₁ : List ℕ) → Goes o o' → (o.standing ≡ reached → length (shown_walk t o.state) ≤ length l)
    → l₁ ≡ walk_after t 0 o.standing o.state l → walk_after t 0 o'.standing o'.state l ≡ walk_after t 0 o'.standing o'.state l₁
unfolding stop
walk_over t o o' l l₁ (inl e) h q = ap (walk_after t 0 o'.standing o'.state) (sym (q ∙ walk_open t e o.state l))
walk_over t o o' l l₁ (inr e) h q = rw (e, q) (sym (walk_twice t o.standing o.state l h))

-- ---- a first run of n rules, and what m more do
module _ (t : Table) (hints b set walk : List ℕ) (n m : ℕ) (b₁ s₁ w₁ : List ℕ) (r₁ : Result RunAnswer Refusal)
    (l₁ : Lent t hints b set walk) (p₁ : RunPromise t hints n b b₁ set s₁ walk w₁ r₁) where
  o₁ : runs.Ran
  o₁ = run t n (hints_at hints 0) (decode b)

  -- the hints that remain, and what m rules more do with them
  abbrev rest : List ℕ
  rest = drop (4 * taken_of r₁) hints

  o₂ : runs.Ran
  o₂ = run t m (hints_at rest 0) (decode b₁)

  N≤ : t.size ≤ 256
  N≤ = big t hints b set walk l₁

  inv : Invariant t (decode b)
  inv = (fit t hints b set walk l₁).inv

  taken₁ : taken_of r₁ ≡ o₁.taken
  unfolding o₁
  taken₁ = took t hints b set walk l₁ n b₁ s₁ w₁ r₁ p₁

  -- the second run takes up where the first stopped
  second : o₂ ≡ run t m o₁.left o₁.state
  unfolding o₁ o₂
  second =
      ap₂ (λ hs s. run t m hs s) (hints_drop hints (taken_of r₁) ∙ ap (λ a. hints_at hints a) taken₁ ∙ sym (left-hints t hints b set walk l₁ n b₁ s₁ w₁ r₁ p₁))
      (left-state t hints b set walk l₁ n b₁ s₁ w₁ r₁ p₁)

  both : run t (n + m) (hints_at hints 0) (decode b) ≡ followed_by o₁ o₂
  unfolding o₁ o₂
  both = budget t N≤ n (hints_at hints 0) (decode b) inv m ∙ ap (followed_by o₁) (sym second)

  goes : Goes o₁ o₂
  unfolding o₁
  goes =
      let e = run-standing t N≤ n (hints_at hints 0) (decode b) inv in
      elim (opened t o₁.state) [
        | inl q ↦ inl (e ∙ q)
        | inr d ↦ inr (second ∙ run-done t m o₁.left o₁.state d ∙ ap (λ c. stop c o₁.left o₁.state) (sym e))
      ]

  -- whatever set and walk the other two are lent
  module _ (set₂ walk₂ set₃ walk₃ b₂ s₂ w₂ b₃ s₃ w₃ : List ℕ) (r₂ r₃ : Result RunAnswer Refusal)
      (four : length set₂ ≡ 4) (long : length walk₂ ≡ 256) (l₃ : Lent t hints b set₃ walk₃)
      (p₂ : RunPromise t rest m b₁ b₂ set₂ s₂ walk₂ w₂ r₂) (p₃ : RunPromise t hints (n + m) b b₃ set₃ s₃ walk₃ w₃ r₃) where
    l₂ : Lent t rest b₁ set₂ walk₂
    l₂ = lent_again t hints b set walk l₁ n b₁ s₁ w₁ r₁ p₁ (taken_of r₁) set₂ walk₂ four long

    pub split_answer : SplitAnswer r₃ r₁ r₂ b₃ b₂
    unfolding followed_by o₁ o₂
    split_answer =
        record {
          outcome = told t hints b set₃ walk₃ l₃ (n + m) b₃ s₃ w₃ r₃ p₃ ∙ ap (λ o. run_answer 0 o.standing o.state) both
              ∙ sym (told t rest b₁ set₂ walk₂ l₂ m b₂ s₂ w₂ r₂ p₂);
          rules = fired t hints b set₃ walk₃ l₃ (n + m) b₃ s₃ w₃ r₃ p₃ ∙ ap (λ o. o.rules) both
              ∙ ap₂ ◌+◌ (sym (fired t hints b set walk l₁ n b₁ s₁ w₁ r₁ p₁)) (sym (fired t rest b₁ set₂ walk₂ l₂ m b₂ s₂ w₂ r₂ p₂));
          taken = took t hints b set₃ walk₃ l₃ (n + m) b₃ s₃ w₃ r₃ p₃ ∙ ap (λ o. o.taken) both
              ∙ ap₂ ◌+◌ (sym taken₁) (sym (took t rest b₁ set₂ walk₂ l₂ m b₂ s₂ w₂ r₂ p₂));
          used = uses t hints b set₃ walk₃ l₃ (n + m) b₃ s₃ w₃ r₃ p₃ ∙ ap (λ o. o.used) both
              ∙ ap₂ ◌+◌ (sym (uses t hints b set walk l₁ n b₁ s₁ w₁ r₁ p₁)) (sym (uses t rest b₁ set₂ walk₂ l₂ m b₂ s₂ w₂ r₂ p₂));
          buffer = left-buffer t hints b set₃ walk₃ l₃ (n + m) b₃ s₃ w₃ r₃ p₃ ∙ ap (λ o. encode o.state) both
              ∙ sym (left-buffer t rest b₁ set₂ walk₂ l₂ m b₂ s₂ w₂ r₂ p₂);
        }

  -- the second lent the set and the walk that the first left
  module _ (b₂ s₂ w₂ b₃ s₃ w₃ : List ℕ) (r₂ r₃ : Result RunAnswer Refusal)
      (p₂ : RunPromise t rest m b₁ b₂ s₁ s₂ w₁ w₂ r₂) (p₃ : RunPromise t hints (n + m) b b₃ set s₃ walk w₃ r₃) where
    four₁ : length s₁ ≡ 4
    four₁ = set_four t hints b set walk l₁ n b₁ s₁ w₁ r₁ p₁

    long₁ : length w₁ ≡ 256
    long₁ = walk_256 t hints b set walk l₁ n b₁ s₁ w₁ r₁ p₁

    again : Lent t rest b₁ s₁ w₁
    again = lent_again t hints b set walk l₁ n b₁ s₁ w₁ r₁ p₁ (taken_of r₁) s₁ w₁ four₁ long₁

    pub split_budget : SplitBudget r₃ r₁ r₂ b₃ b₂ s₃ s₂ w₃ w₂
    unfolding followed_by o₁ o₂
    split_budget =
        record {
          answer = split_answer s₁ w₁ set walk b₂ s₂ w₂ b₃ s₃ w₃ r₂ r₃ four₁ long₁ l₁ p₂ p₃;
          set_same = set-left t hints b set walk l₁ (n + m) b₃ s₃ w₃ r₃ p₃ ∙ ap (λ o. set_after 0 o.standing o.state set) both
              ∙ set-over o₁ o₂ set s₁ goes (set-left t hints b set walk l₁ n b₁ s₁ w₁ r₁ p₁)
              ∙ sym (set-left t rest b₁ s₁ w₁ again m b₂ s₂ w₂ r₂ p₂);
          walk_same = walk_left t hints b set walk l₁ (n + m) b₃ s₃ w₃ r₃ p₃ ∙ ap (λ o. walk_after t 0 o.standing o.state walk) both
              ∙ walk_over t o₁ o₂ walk w₁ goes (walk_room t hints b set walk l₁ n b₁ s₁ w₁ r₁ p₁) (walk_left t hints b set walk l₁ n b₁ s₁ w₁ r₁ p₁)
              ∙ sym (walk_left t rest b₁ s₁ w₁ again m b₂ s₂ w₂ r₂ p₂);
        }

-- ---- a fresh run buffer
pub fresh-enters : (t : Table) → t.size ≤ 256 → (b b' : List ℕ) → FreshPromise t.size b b' 0 → entry_check t b' ≡ true
fresh-enters t le b b' p =
    let e : b' ≡ encode (fresh t) = rw (eq-eqb (fresh_refusal t.size b) 0 (sym p.answer)) at p.buffer in
    rw e (kept-accepts t le (fresh t) (fresh-inv t le) (fresh-normal t le))
