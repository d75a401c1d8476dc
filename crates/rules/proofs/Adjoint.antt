-- f and g: members, monotone, adjoint.
use Prim.Native.Nat.{ℕ, ◌≤◌, ◌<◌}
use mathlib.Core.Bool.{Bool, true, not, ◌&&◌, ◌||◌}
use mathlib.Core.Logic.{◌↔◌}
use mathlib.Core.Path.{◌≡◌, refl, sym, ◌∙◌}
use Rattle.rules.specs.Table.{leads, forward, backward, f, g, Table}
use Rattle.sets.proofs.Members.{member_of, member-empty}
use Rattle.sets.proofs.Search.{any-says, all-says}
use Rattle.sets.proofs.Tests.{Says, pass, fail, passed, passes, clash, and-true, and_intro, implies, implied}
use Rattle.sets.proofs.Within.{within-says, not_both, within-refl, within-trans, Within, Beyond}
use Rattle.sets.specs.Sets.{Set, member, empty, within}

module _ (t : Table) (big : t.size ≤ 256) where
  abbrev ◌⊑◌ : Set → Set → Type 0
  x ⊑ y = Within t.size x y

  infix 20 ◌⊑◌
  -- a member of f X has a move into it from a member of X
  pub f-out : (x : Set) (u : ℕ) → u < t.size → member (f t x) u ≡ true → (s : ℕ) × (s < t.size) × (member x s ≡ true) × (leads t.rows s u ≡ true)
  unfolding forward
  f-out x u lt e =
      let w = passed (any-says t.size (λ s. member x s && leads t.rows s u)) (sym (member_of t.size big _ u lt) ∙ e) in
      let r = and-true (member x w.0) (leads t.rows w.0 u) w.2 in
      (w.0, w.1, r.0, r.1)

  pub f-in : (x : Set) (s u : ℕ) → s < t.size → u < t.size → member x s ≡ true → leads t.rows s u ≡ true → member (f t x) u ≡ true
  unfolding forward
  f-in x s u ls lu e m =
      member_of t.size big _ u lu
      ∙ passes (any-says t.size (λ s. member x s && leads t.rows s u)) (λ h. clash (and_intro e m) (h s ls))

  pub g-out : (x : Set) (s u : ℕ) → s < t.size → u < t.size → member (g t x) s ≡ true → leads t.rows s u ≡ true → member x u ≡ true
  unfolding backward
  g-out x s u ls lu e m =
      implied (leads t.rows s u) (member x u)
      (passed (all-says t.size (λ u. not (leads t.rows s u) || member x u)) (sym (member_of t.size big _ s ls) ∙ e) u lu) m

  pub g-in : (x : Set) (s : ℕ) → s < t.size → ((u : ℕ) → u < t.size → leads t.rows s u ≡ true → member x u ≡ true) → member (g t x) s ≡ true
  unfolding backward
  g-in x s ls h =
      member_of t.size big _ s ls
      ∙ passes (all-says t.size (λ u. not (leads t.rows s u) || member x u))
      (λ w. clash (implies (leads t.rows s w.0) (member x w.0) (h w.0 w.1)) w.2)

  pub to-g : (x y : Set) → f t x ⊑ y → x ⊑ g t y
  to-g x y h = record { at = λ s ls e. g-in y s ls (λ u lu m. h.at u lu (f-in x s u ls lu e m)) }

  pub of_g : (x y : Set) → x ⊑ g t y → f t x ⊑ y
  of_g x y h = record { at = λ u lu e. let w = f-out x u lu e in g-out y w.0 u w.1 lu (h.at w.0 w.1 w.2) w.3 }

  -- f(X) is within Y exactly when X is within g(Y)
  pub forward-backward : (x y : Set) → (f t x ⊑ y) ↔ (x ⊑ g t y)
  forward-backward x y = (to-g x y, of_g x y)

  -- the same of the tests
  pub forward-backward-test : (x y : Set) → within t.size (f t x) y ≡ within t.size x (g t y)
  forward-backward-test x y = go (within-says t.size (f t x) y) (within-says t.size x (g t y))
    where
      go : {a b : Bool} → Says (f t x ⊑ y) (Beyond t.size (f t x) y) a → Says (x ⊑ g t y) (Beyond t.size x (g t y)) b → a ≡ b
      go (pass h) (pass k) = refl
      go (pass h) (fail k) = absurd (not_both t.size (to-g x y h) k)
      go (fail h) (pass k) = absurd (not_both t.size (of_g x y k) h)
      go (fail h) (fail k) = refl

  pub f-mono : (x y : Set) → x ⊑ y → f t x ⊑ f t y
  f-mono x y h = of_g x (f t y) (within-trans t.size h (to-g y (f t y) (within-refl t.size)))

  pub g-mono : (x y : Set) → x ⊑ y → g t x ⊑ g t y
  g-mono x y h = to-g (g t x) y (within-trans t.size (of_g (g t x) x (within-refl t.size)) h)

  pub f-empty : (x y : Set) → x ⊑ empty → f t x ⊑ y
  f-empty x y h = record { at = λ u lu e. let w = f-out x u lu e in absurd (clash (h.at w.0 w.1 w.2) (member-empty w.0)) }
