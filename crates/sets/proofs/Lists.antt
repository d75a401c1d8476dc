-- Laws of lists made place by place, and of a loop that fills one.
use Prim.Native.Nat.{ℕ, zero, suc, ◌+◌, ◌≤◌, ◌<◌}
use native.Mathlib.Nat.{not-suc-le-zero, le_of_suc-le-suc}
use native.Mathlib.Numerals.{add-one}
use native.Mathlib.Omega.{arith}
use mathlib.Core.Path.{◌≡◌, refl, sym, ap, ◌∙◌}
use mathlib.Core.Logic.{inl, inr}
use mathlib.Core.List.{List, [], ◌∷◌, ◌++◌}
use lib.ListN.{length, get_or, set, length-set, get_or-eq_default}
use lib.Seq.{sets, ext_get_or, get_or-set_same, get_or-set_other}
use Rattle.sets.specs.Lists.{tabulate}
use Rattle.sets.proofs.Tests.{same_or}

module _ {A : Type 0} where
  pub length-tabulate : (n : ℕ) (h : ℕ → A) → length (tabulate n h) ≡ n
  unfolding tabulate
  length-tabulate zero h = refl
  length-tabulate (suc n) h = ap suc (length-tabulate n (λ i. h (suc i)))

  pub tabulate-none : (h : ℕ → A) → tabulate 0 h ≡ []
  unfolding tabulate
  tabulate-none h = refl

  pub tabulate-at : (n : ℕ) (h : ℕ → A) (d : A) (i : ℕ) → i < n → get_or (tabulate n h) i d ≡ h i
  unfolding tabulate
  tabulate-at zero h d i l = absurd (not-suc-le-zero l)
  tabulate-at (suc n) h d zero l = refl
  tabulate-at (suc n) h d (suc i) l = tabulate-at n (λ i. h (suc i)) d i (le_of_suc-le-suc l)

  pub tabulate-past : (n : ℕ) (h : ℕ → A) (d : A) (i : ℕ) → n ≤ i → get_or (tabulate n h) i d ≡ d
  tabulate-past n h d i l = get_or-eq_default (tabulate n h) d (omega (arith, length-tabulate n h))

  pub tabulate-more : (n : ℕ) (h : ℕ → A) → tabulate (n + 1) h ≡ tabulate n h ++ (h n ∷ [])
  unfolding tabulate
  tabulate-more n h = rw (add-one n) (go n h)
    where
      go : (n : ℕ) (h : ℕ → A) → tabulate (suc n) h ≡ tabulate n h ++ (h n ∷ [])
      go zero h = refl
      go (suc n) h = ap (λ (l : List A). h 0 ∷ l) (go n (λ i. h (suc i)))

  pub is_tabulate : (d : A) (n : ℕ) (h : ℕ → A) (l : List A) → length l ≡ n → ((i : ℕ) → i < n → get_or l i d ≡ h i) → l ≡ tabulate n h
  is_tabulate d n h l e f = ext_get_or d l (tabulate n h) (e ∙ sym (length-tabulate n h)) (λ i m. f i (omega arith) ∙ sym (tabulate-at n h d i (omega arith)))

  pub tabulate-ext : (d : A) (n : ℕ) (h k : ℕ → A) → ((i : ℕ) → i < n → h i ≡ k i) → tabulate n h ≡ tabulate n k
  tabulate-ext d n h k f = is_tabulate d n k (tabulate n h) (length-tabulate n h) (λ i l. tabulate-at n h d i l ∙ f i l)

  -- a loop that has filled the first i places of l with h
  pub record Filled (d : A) (h : ℕ → A) (l x : List A) (i : ℕ) : Type 0 where
    pub same : length x ≡ length l
    pub at : (j : ℕ) → j < i → get_or x j d ≡ h j

  pub fill_none : (d : A) (h : ℕ → A) (l : List A) → Filled d h l l 0
  fill_none d h l = record { same = refl; at = λ j m. absurd (omega arith) }

  pub fill_more : (d : A) (h : ℕ → A) (l x : List A) (i : ℕ) (v : A) → Filled d h l x i → i < length l → v ≡ h i → Filled d h l (set x i v) (i + 1)
  fill_more d h l x i v f m e = record {
    same = length-set x i v ∙ f.same;
    at = λ j n. elim (same_or j i) [
      | inl q ↦ rw (q, get_or-set_same x i v d (omega (arith, f.same))) e
      | inr q ↦ get_or-set_other x i j v d q ∙ f.at j (omega (arith, q))
    ];
  }

  pub fill_all : (d : A) (h : ℕ → A) (l x : List A) (i n : ℕ) → Filled d h l x i → n ≤ i → length l ≡ n → x ≡ tabulate n h
  fill_all d h l x i n f m e = is_tabulate d n h x (f.same ∙ e) (λ j k. f.at j (omega arith))

-- ---- a list put into another at a place
module _ {A : Type 0} (d : A) where
  pub sets_before : (x l : List A) (i j : ℕ) → j < i → get_or (sets l i x) j d ≡ get_or l j d
  sets_before [] l i j h = refl
  sets_before (a ∷ x) l i j h = sets_before x (set l i a) (suc i) j (omega arith) ∙ get_or-set_other l i j a d (λ q. omega arith)

  pub sets_after : (x l : List A) (i j : ℕ) → i + length x ≤ j → get_or (sets l i x) j d ≡ get_or l j d
  sets_after [] l i j h = refl
  sets_after (a ∷ x) l i j h = sets_after x (set l i a) (suc i) j (omega arith) ∙ get_or-set_other l i j a d (λ q. omega arith)

  pub sets_at : (x l : List A) (i q : ℕ) → q < length x → i + q < length l → get_or (sets l i x) (i + q) d ≡ get_or x q d
  sets_at [] l i q h m = absurd (omega arith)
  sets_at (a ∷ x) l i zero h m =
      let e : i + 0 ≡ i = omega arith in
      rw e (sets_before x (set l i a) (suc i) i (omega arith) ∙ get_or-set_same l i a d (omega arith))
  sets_at (a ∷ x) l i (suc q) h m =
      let e : i + suc q ≡ suc i + q = omega arith in
      rw e (sets_at x (set l i a) (suc i) q (omega arith) (omega (arith, length-set l i a)))
