-- g by the second table as the loop works it out: the rows of the states outside x, one after the other.
use Prim.Native.Nat.{ℕ, ◌≤◌, ◌<◌}
use native.Mathlib.Omega.{arith}
use mathlib.Core.Bool.{Bool, true, false, not, ◌&&◌, ◌||◌, and-not_self, and-true as and-true-is}
use mathlib.Core.List.{List, [], ◌∷◌}
use mathlib.Core.Logic.{inl, inr, ◌≢◌}
use Rattle.std.specs.Prelude.{Option, Some, None}
use mathlib.Core.Path.{◌≡◌, refl, sym, ap, ap₂, ◌∙◌}
use borrow.Author.Tests.{eq-eqb, ne_eqb, lt-ltb, le-ltb, ltb-true}
use lib.Dec.{eqb, ltb}
use Rattle.sets.proofs.Count.{count-lt}
use Rattle.sets.proofs.Members.{member_of, member-empty, member-full, set-ext, set-pad, smallest-is}
use Rattle.sets.proofs.Search.{Least, here, nowhere, any-says, any-ext}
use Rattle.sets.proofs.Tests.{Says, pass, fail, passes, fails, clash, and-true, same_or}
use Rattle.sets.specs.Search.{any}
use Rattle.sets.specs.Sets.{Set, member, empty, full, join, minus, without, count, smallest}
use Rattle.rules.specs.Second.{leading_out, backward_by_second}
use Rattle.rules.specs.Table.{row, leads}

-- one number more passes
any-more : (n : ℕ) (p q : ℕ → Bool) (i : ℕ) → i < n → p i ≡ false → ((j : ℕ) → j < n → j ≢ i → q j ≡ p j) → any n q ≡ (any n p || q i)
any-more n p q i l fresh other = go (any-says n p) (q i) refl
  where
    go : {b : Bool} → Says ((j : ℕ) × (j < n) × (p j ≡ true)) ((j : ℕ) → j < n → p j ≡ false) b → (c : Bool) → q i ≡ c → any n q ≡ (b || c)
    go (pass w) c e = passes (any-says n q) (λ h. clash (other w.0 w.1 (λ z. clash w.2 (rw z fresh)) ∙ w.2) (h w.0 w.1))
    go (fail h) true e = passes (any-says n q) (λ g. clash e (g i l))
    go (fail h) false e = fails (any-says n q) (λ w. elim (same_or w.0 i) [
      | inl z ↦ clash (rw z at w.2) e
      | inr n ↦ clash (sym (other w.0 w.1 n) ∙ w.2) (h w.0 w.1)
    ])

-- the smallest member, in words of its answer
smallest-in : (x : Set) (t : ℕ) → Some t ≡ smallest x → (t < 256) × (member x t ≡ true)
smallest-in x t e = go (smallest x) (smallest-is x) e
  where
    go : (o : Option ℕ) → Least 256 (member x) o → Some t ≡ o → (t < 256) × (member x t ≡ true)
    go _ (here i l m before) e = let q : t ≡ i = cc in rw q (l, m)
    go _ (nowhere none_is) e = let z : ◌≡◌ {A = ℕ} 0 1 = cc in absurd (omega arith)

no_smallest : (x : Set) → None ≡ smallest x → (t : ℕ) → t < 256 → member x t ≡ false
no_smallest x e = go (smallest x) (smallest-is x) e
  where
    go : (o : Option ℕ) → Least 256 (member x) o → None ≡ o → (t : ℕ) → t < 256 → member x t ≡ false
    go _ (here i l m before) e = let z : ◌≡◌ {A = ℕ} 0 1 = cc in absurd (omega arith)
    go _ (nowhere none_is) e = none_is

-- the loop: of the states `all` outside x, `rest` holds those whose rows are still to be joined
pub record Leaving (second : List ℕ) (all out rest : Set) : Type 0 where
  pub waits : (t : ℕ) → t < 256 → member rest t ≡ true → member all t ≡ true
  pub joined : (s : ℕ) → s < 256 → member out s ≡ any 256 (λ t. (member all t && not (member rest t)) && leads second t s)

pub leave_begins : (second : List ℕ) (all : Set) → Leaving second all (0 ∷ 0 ∷ 0 ∷ 0 ∷ []) all
unfolding empty
leave_begins second all = record {
  waits = λ t l m. m;
  joined = λ s l. member-empty s ∙ sym (fails (any-says 256 _) (λ w. clash (and-true _ _ w.2).0 (and-not_self (member all w.0))));
}

module _ (second : List ℕ) (all out rest : Set) (v : Leaving second all out rest) where
  -- t is what `smallest` answers
  module _ (t : ℕ) (rest' : Set) (e : Some t ≡ smallest rest) (f : rest' ≡ without 256 rest t) where
    left : (u : ℕ) → u < 256 → member rest' u ≡ (member rest u && not (eqb u t))
    unfolding without
    left u l = ap (λ (y : Set). member y u) f ∙ member_of 256 (omega arith) (λ u. member rest u && not (eqb u t)) u l

    gone : member rest' t ≡ false
    gone = left t (smallest-in rest t e).0 ∙ rw ((smallest-in rest t e).1, eq-eqb t t refl)

    same : (u : ℕ) → u < 256 → u ≢ t → member rest' u ≡ member rest u
    same u l n = left u l ∙ rw (ne_eqb u t n) (and-true-is (member rest u))

    pub leave_fewer : count 256 rest' < count 256 rest
    leave_fewer =
        let at = smallest-in rest t e in
        count-lt 256 (record { at = λ u l m. (and-true (member rest u) (not (eqb u t)) (sym (left u l) ∙ m)).0 })
        (record { who = t; below = at.0; is = at.1; not = gone })

    pub leave_goes : (out' y : Set) → y ≡ row second t → out' ≡ join 256 out y → Leaving second all out' rest'
    unfolding leads join
    leave_goes out' y d g =
        let at = smallest-in rest t e in
        let of-all = v.waits t at.0 at.1 in
        record {
          waits = λ u l m. v.waits u l (and-true (member rest u) (not (eqb u t)) (sym (left u l) ∙ m)).0;
          joined = λ s l.
              ap (λ (z : Set). member z s) g ∙ member_of 256 (omega arith) (λ s. member out s || member y s) s l
              ∙ ap₂ ◌||◌ (v.joined s l) (ap (λ (z : Set). member z s) d ∙ sym (rw (of-all, gone)))
              ∙ sym (any-more 256 (λ u. (member all u && not (member rest u)) && member (row second u) s)
              (λ u. (member all u && not (member rest' u)) && member (row second u) s) t at.0 (rw (of-all, at.1))
              (λ u m n. ap (λ (c : Bool). (member all u && not c) && member (row second u) s) (same u m n)));
        }

  -- all rows are joined: those of the states outside x
  module _ (N : ℕ) (big : N ≤ 256) (a x : Set) (full-is : a ≡ full N) (all-is : all ≡ minus 256 a x) where
    is : all ≡ minus 256 (full N) x
    is = all-is ∙ ap (λ (y : Set). minus 256 y x) full-is

    outside_x : (t : ℕ) → t < 256 → member all t ≡ (ltb t N && not (member x t))
    unfolding minus
    outside_x t l =
        ap (λ (y : Set). member y t) is ∙ member_of 256 (omega arith) (λ t. member (full N) t && not (member x t)) t l
        ∙ ap (λ (c : Bool). c && not (member x t)) (member-full N big t)

    -- from N up there is none
    below_n : (s : ℕ) → any 256 (λ t. member all t && leads second t s) ≡ any N (λ t. not (member x t) && leads second t s)
    below_n s = go (any-says N (λ t. not (member x t) && leads second t s))
      where
        at : (t : ℕ) → t < N → (member all t && leads second t s) ≡ (not (member x t) && leads second t s)
        at t l = ap (λ (c : Bool). c && leads second t s) (outside_x t (omega arith) ∙ ap (λ (c : Bool). c && not (member x t)) (lt-ltb t N l))

        go : {b : Bool}
            → Says ((t : ℕ) × (t < N) × ((not (member x t) && leads second t s) ≡ true)) ((t : ℕ) → t < N → (not (member x t) && leads second t s) ≡ false) b
            → any 256 (λ t. member all t && leads second t s) ≡ b
        go (pass w) = passes (any-says 256 _) (λ h. clash (at w.0 w.1 ∙ w.2) (h w.0 (omega (arith, w.1))))
        go (fail h) = fails (any-says 256 _) (λ w.
            let both = and-true (member all w.0) (leads second w.0 s) w.2 in
            let low = ltb-true w.0 N (and-true _ _ (sym (outside_x w.0 w.1) ∙ both.0)).0 in
            clash (sym (at w.0 low) ∙ w.2) (h w.0 low))

    pub leave_ends : (o : Option ℕ) → o ≡ smallest rest → o ≡ None → (r : Set) → r ≡ minus 256 a out → r ≡ backward_by_second N second x
    unfolding backward_by_second minus leading_out
    leave_ends o e none_is r q =
        q ∙ ap (λ (y : Set). minus 256 y out) full-is ∙ sym (set-pad N big (λ s. member (full N) s && not (member out s))
        (λ s h l. ap (λ (c : Bool). c && not (member out s)) (member-full N big s ∙ le-ltb s N h)))
        ∙ set-ext N _ _ (λ s l. ap (λ (c : Bool). member (full N) s && not c)
        (all-joined s (omega arith) ∙ below_n s ∙ sym (member_of N big (λ s. any N (λ t. not (member x t) && leads second t s)) s l)))
      where
        all-joined : (s : ℕ) → s < 256 → member out s ≡ any 256 (λ t. member all t && leads second t s)
        all-joined s l = v.joined s l ∙ any-ext 256 _ _ (λ t m.
            ap (λ (c : Bool). (member all t && not c) && leads second t s) (no_smallest rest (sym none_is ∙ e) t m)
            ∙ ap (λ (c : Bool). c && leads second t s) (and-true-is (member all t)))
