-- What a run leaves and counts, and budgets: b rules, then c rules more.
use Prim.Native.Nat.{ℕ, ◌+◌, ◌≤◌}
use native.Mathlib.Nat.{zero-add, add_assoc, suc-add}
use native.Mathlib.Omega.{arith}
use mathlib.Core.List.{List}
use mathlib.Core.Logic.{◌⊎◌, inl, inr, ◌≢◌}
use mathlib.Core.Path.{◌≡◌, refl, sym, ap, ◌∙◌}
use Rattle.rules.proofs.Ends.{run-done, run-open, run-ind}
use Rattle.rules.proofs.Invariant.{Invariant}
use Rattle.rules.specs.Rules.{conclusion, State, Standing, unfinished}
use Rattle.rules.specs.Runs.{stop, after, followed_by, choose, run, Choice, Ran}
use Rattle.rules.specs.Table.{Table}
use Rattle.sets.specs.Sets.{Set}

stop-then : (r : Standing) (hs : List Set) (s : State) (p : Ran) → followed_by (stop r hs s) p ≡ p
unfolding followed_by stop
stop-then r hs s p = simp zero-add

after_then : (c : Choice) (o p : Ran) → followed_by (after c o) p ≡ after c (followed_by o p)
unfolding followed_by after
after_then c o p = simp add_assoc

module _ (t : Table) (big : t.size ≤ 256) where
  -- the result is the conclusion of the state that the run leaves
  pub run-standing : (b : ℕ) (hs : List Set) (s : State) → Invariant t s → (run t b hs s).standing ≡ conclusion t (run t b hs s).state
  unfolding stop after
  run-standing = run-ind t big (λ b hs s o. o.standing ≡ conclusion t o.state) (λ b hs s v d. refl) (λ b hs s o v p q. q)

  pub run-keeps : (b : ℕ) (hs : List Set) (s : State) → Invariant t s → Invariant t (run t b hs s).state
  unfolding stop after
  run-keeps = run-ind t big (λ b hs s o. Invariant t o.state) (λ b hs s v d. v) (λ b hs s o v p q. q)

  -- a run fires at most its budget, and all of it where it does not end
  pub run-most : (b : ℕ) (hs : List Set) (s : State) → Invariant t s → (run t b hs s).rules ≤ b
  unfolding stop after
  run-most = run-ind t big (λ b hs s o. o.rules ≤ b) (λ b hs s v d. omega arith) (λ b hs s o v p q. omega arith)

  pub run-spent : (b : ℕ) (hs : List Set) (s : State) → Invariant t s → (run t b hs s).standing ≡ unfinished → (run t b hs s).rules ≡ b
  unfolding stop after
  run-spent = run-ind t big (λ b hs s o. o.standing ≡ unfinished → o.rules ≡ b)
      (λ b hs s v d e. elim d [ inl z ↦ omega arith | inr h ↦ absurd (h e) ]) (λ b hs s o v p q e. omega (arith, q e))

  pub budget : (b : ℕ) (hs : List Set) (s : State) → Invariant t s → (c : ℕ)
      → run t (b + c) hs s ≡ followed_by (run t b hs s) (run t c (run t b hs s).left (run t b hs s).state)
  unfolding stop after
  budget = run-ind t big (λ b hs s o. (c : ℕ) → run t (b + c) hs s ≡ followed_by o (run t c o.left o.state))
      (λ b hs s v d c. stops b hs s d c ∙ sym (stop-then (conclusion t s) hs s (run t c hs s)))
      (λ b hs s o v p q c. rw (suc-add, run-open t big (b + c) hs s v p) (ap (after (choose t hs s)) (q c) ∙ sym (after_then (choose t hs s) o (run t c _ _))))
    where
      stops : (b : ℕ) (hs : List Set) (s : State) → (b ≡ 0) ⊎ (conclusion t s ≢ unfinished) → (c : ℕ) → run t (b + c) hs s ≡ run t c hs s
      stops b hs s (inl z) c = rw (z, zero-add)
      stops b hs s (inr h) c = run-done t (b + c) hs s h ∙ sym (run-done t c hs s h)
