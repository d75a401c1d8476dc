-- Within, by members: both ways, and its failure as a witness.
use Prim.Native.Nat.{ℕ, suc, ◌≤◌, ◌<◌}
use native.Mathlib.Omega.{arith}
use mathlib.Core.Bool.{Bool, true, false, ◌&&◌, ◌||◌, not}
use mathlib.Core.Logic.{inl, inr}
use mathlib.Core.Path.{◌≡◌, sym, ap, ◌∙◌}
use lib.Dec.{ltb}
use Rattle.sets.proofs.Members.{set-pad, member-empty, proper_past, member-full, member-meet}
use Rattle.sets.proofs.Search.{all-says}
use Rattle.sets.proofs.Tests.{passed, failed, passes, fails, clash, and-true, and_intro, implied, not-implied, leb-says, lt_or_ge, Says, pass, fail}
use Rattle.sets.specs.Search.{all}
use Rattle.sets.specs.Sets.{Set, member, empty, full, within, sound, meet, Proper}

-- every member of x below N is a member of y
pub record Within (N : ℕ) (x y : Set) : Type 0 where
  pub at : (s : ℕ) → s < N → member x s ≡ true → member y s ≡ true

-- some member of x below N is no member of y
pub record Beyond (N : ℕ) (x y : Set) : Type 0 where
  pub who : ℕ
  pub below : who < N
  pub is : member x who ≡ true
  pub not : member y who ≡ false

pub within-says : (N : ℕ) (x y : Set) → Says (Within N x y) (Beyond N x y) (within N x y)
unfolding within
within-says N x y = go (all N (λ s. not (member x s) || member y s)) (all-says N (λ s. not (member x s) || member y s))
  where
    go : (b : Bool) → Says ((i : ℕ) → i < N → (not (member x i) || member y i) ≡ true) ((i : ℕ) × (i < N) × ((not (member x i) || member y i) ≡ false)) b
        → Says (Within N x y) (Beyond N x y) b
    go b (pass h) = pass (record { at = λ s l e. implied (member x s) (member y s) (h s l) e })
    go b (fail w) = let r = not-implied (member x w.0) (member y w.0) w.2 in fail (record { who = w.0; below = w.1; is = r.0; not = r.1 })

module _ (N : ℕ) where
  pub is_within : (x y : Set) → within N x y ≡ true → Within N x y
  is_within x y e = passed (within-says N x y) e

  pub is_beyond : (x y : Set) → within N x y ≡ false → Beyond N x y
  is_beyond x y e = failed (within-says N x y) e

  pub not_both : {x y : Set} → Within N x y → Beyond N x y → ⊥
  not_both h w = clash (h.at w.who w.below w.is) w.not

  pub within-true : {x y : Set} → Within N x y → within N x y ≡ true
  within-true {x} {y} h = passes (within-says N x y) (not_both h)

  pub within-false : {x y : Set} → Beyond N x y → within N x y ≡ false
  within-false {x} {y} w = fails (within-says N x y) (λ h. not_both h w)

  pub not_within : {x y : Set} → (Within N x y → ⊥) → Beyond N x y
  not_within {x} {y} h = is_beyond x y (fails (within-says N x y) h)

  pub within-refl : {x : Set} → Within N x x
  within-refl = record { at = λ s l e. e }

  pub within-trans : {x y z : Set} → Within N x y → Within N y z → Within N x z
  within-trans h k = record { at = λ s l e. k.at s l (h.at s l e) }

  pub empty-within : (x : Set) → Within N empty x
  empty-within x = record { at = λ s l e. absurd (clash e (member-empty s)) }

module _ (N : ℕ) (big : N ≤ 256) where
  pub within-full : (x : Set) → Within N x (full N)
  within-full x = record { at = λ s l e. member-full N big s ∙ passes (leb-says (suc s) N) (λ h. omega arith) }

  pub meet_left : (x y : Set) → Within N (meet N x y) x
  meet_left x y = record { at = λ s l e. (and-true (member x s) (member y s) (sym (member-meet N big x y s l) ∙ e)).0 }

  pub meet_right : (x y : Set) → Within N (meet N x y) y
  meet_right x y = record { at = λ s l e. (and-true (member x s) (member y s) (sym (member-meet N big x y s l) ∙ e)).1 }

  pub within-meet : (w x y : Set) → Within N w x → Within N w y → Within N w (meet N x y)
  within-meet w x y h k = record { at = λ s l e. member-meet N big x y s l ∙ and_intro (h.at s l e) (k.at s l e) }

  -- code works on all 256 places; where x holds nothing from N up that is the same
  pub within-256 : (x y : Set) → Proper N x → within 256 x y ≡ within N x y
  within-256 x y hx = go (within N x y) (within-says N x y)
    where
      go : (b : Bool) → Says (Within N x y) (Beyond N x y) b → within 256 x y ≡ b
      go b (pass h) =
          within-true 256 (record {
            at = λ s l e. elim (lt_or_ge s N) [ inl a ↦ h.at s a e | inr a ↦ absurd (clash e (proper_past N big hx s a)) ];
          })
      go b (fail w) = within-false 256 (record { who = w.who; below = omega (arith, w.below); is = w.is; not = w.not })

  pub meet-256 : (x y : Set) → Proper N x → meet 256 x y ≡ meet N x y
  unfolding meet
  meet-256 x y h = sym (set-pad N big (λ s. member x s && member y s) (λ s a l. ap (λ b. b && member y s) (proper_past N big h s a)))

  -- `sound` as code tests it
  pub sound-full : (x : Set) → within 256 x (full N) ≡ sound N x
  unfolding within sound
  sound-full x = simp (member-full N big)

-- from 256 up no number is a member
pub sound_wide : (N : ℕ) (x : Set) → 256 ≤ N → sound N x ≡ true
unfolding sound
sound_wide N x h = passes (all-says 256 (λ s. not (member x s) || ltb s N))
    (λ w. clash (passes (leb-says (suc w.0) N) (λ l. omega (arith, w.1))) (not-implied (member x w.0) (ltb w.0 N) w.2).1)
