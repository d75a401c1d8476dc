-- A move table row by row and bit by bit: one row put, one move there or not, and two tables with the same moves.
use Prim.Native.Nat.{ℕ, suc, ◌+◌, ◌*◌, ◌/◌, ◌%◌, ◌^◌, ◌≤◌, ◌<◌}
use native.Mathlib.Omega.{arith}
use mathlib.Core.Bool.{Bool, true, false, not, ◌&&◌, ◌||◌, cond}
use mathlib.Core.List.{List, [], ◌∷◌}
use mathlib.Core.Logic.{◌⊎◌, inl, inr, ◌≢◌}
use mathlib.Core.Path.{◌≡◌, refl, sym, ap, ap₂, ◌∙◌}
use borrow.Author.Tests.{eq-eqb, ne_eqb}
use lib.Dec.{eqb}
use lib.ListN.{length, get_or, set, get_or-eq_default}
use lib.Seq.{sets, length-sets, ext_get_or, set_out, get_or-set_same, get_or-set_other}
use Rattle.rules.specs.Table.{row, leads, rows_of, with_move}
use Rattle.sets.proofs.Bits.{pack-of}
use Rattle.sets.proofs.Lists.{length-tabulate, tabulate-at, tabulate-past, sets_before, sets_after, sets_at}
use Rattle.sets.proofs.Members.{proper_of, proper_length, proper_word, member_of}
use Rattle.sets.proofs.Tests.{same_or, lt_or_ge}
use Rattle.sets.proofs.Words.{four_of, quad_at}
use Rattle.sets.specs.Sets.{Set, Words, member, bit, set_of, with, without, quad}

-- four words are those of a set
quad-of : (l : List ℕ) (x : Set) (i : ℕ) → length x ≡ 4 → ((q : ℕ) → q < 4 → get_or l (i + q) 0 ≡ get_or x q 0) → quad l i ≡ x
unfolding quad
quad-of l x i e h =
    let z : get_or l i 0 ≡ get_or l (i + 0) 0 = ap (λ j. get_or l j 0) (omega arith) in
    rw (z, h 0 (omega arith), h 1 (omega arith), h 2 (omega arith), h 3 (omega arith)) (sym (four_of x e))

-- ---- a table of 256 rows
set_words : (p : ℕ → Bool) → Words (set_of 256 p)
set_words p i = elim (lt_or_ge i 4) [
  | inl l ↦ proper_word _ (proper_of 256 (omega arith) p) i l
  | inr l ↦ rw (get_or-eq_default (set_of 256 p) 0 {n = i} (omega (arith, proper_length 256 _ (proper_of 256 (omega arith) p)))) (omega arith)
]

pub length-rows_of : (h : ℕ → Set) → length (rows_of h) ≡ 1024
unfolding rows_of
length-rows_of h = length-tabulate 1024 _

pub rows_of-at : (h : ℕ → Set) (s q : ℕ) → s < 256 → q < 4 → get_or (rows_of h) (4 * s + q) 0 ≡ get_or (h s) q 0
unfolding rows_of
rows_of-at h s q l m =
    let e : (4 * s + q) / 4 ≡ s = omega arith in
    let f : (4 * s + q) % 4 ≡ q = omega arith in
    tabulate-at 1024 (λ j. get_or (h (j / 4)) (j % 4) 0) 0 (4 * s + q) (omega arith) ∙ ap₂ (λ (a b : ℕ). get_or (h a) b 0) e f

pub row_of : (h : ℕ → Set) (s : ℕ) → s < 256 → length (h s) ≡ 4 → row (rows_of h) s ≡ h s
row_of h s l e = quad-of (rows_of h) (h s) (4 * s) e (λ q m. rows_of-at h s q l m)

pub words_of : (p : ℕ → ℕ → Bool) → Words (rows_of (λ s. set_of 256 (p s)))
unfolding rows_of
words_of p i = elim (lt_or_ge i 1024) [
  | inl l ↦ rw (tabulate-at 1024 word 0 i l) (set_words (p (i / 4)) (i % 4))
  | inr l ↦ rw (tabulate-past 1024 word 0 i l) (omega arith)
]
  where
    word : ℕ → ℕ
    word j = get_or (set_of 256 (p (j / 4))) (j % 4) 0

row-length : (rows : List ℕ) (s : ℕ) → length (row rows s) ≡ 4
unfolding quad
row-length rows s = refl

-- ---- one row put
row_put : (rows : List ℕ) (x : Set) (s : ℕ) → length x ≡ 4 → length rows ≡ 1024 → s < 256 → row (sets rows (4 * s) x) s ≡ x
row_put rows x s e long l = quad-of (sets rows (4 * s) x) x (4 * s) e (λ q m. sets_at 0 x rows (4 * s) q (omega arith) (omega arith))

pub row_other : (rows : List ℕ) (x : Set) (s v : ℕ) → length x ≡ 4 → v ≢ s → row (sets rows (4 * s) x) v ≡ row rows v
row_other rows x s v e n =
    quad-of (sets rows (4 * s) x) (row rows v) (4 * v) (row-length rows v)
    (λ q m. word q m (lt_or_ge v s) ∙ sym (quad_at rows (4 * v) q m))
  where
    word : (q : ℕ) → q < 4 → (v < s) ⊎ (s ≤ v) → get_or (sets rows (4 * s) x) (4 * v + q) 0 ≡ get_or rows (4 * v + q) 0
    word q m (inl h) = sets_before 0 x rows (4 * s) (4 * v + q) (omega arith)
    word q m (inr h) = sets_after 0 x rows (4 * s) (4 * v + q) (omega (arith, n))

pub words_set : (l : List ℕ) (i a : ℕ) → a < 2 ^ 64 → Words l → Words (set l i a)
words_set l i a h w j = elim (lt_or_ge i (length l)) [
  | inr o ↦ rw (set_out l i a o) (w j)
  | inl r ↦ elim (same_or j i) [
    | inl q ↦ rw (q, get_or-set_same l i a 0 r) h
    | inr n ↦ rw (get_or-set_other l i j a 0 n) (w j)
  ]
]

words_sets : (x l : List ℕ) (i : ℕ) → Words x → Words l → Words (sets l i x)
words_sets [] l i f w = w
words_sets (a ∷ x) l i f w = words_sets x (set l i a) (suc i) (λ j. f (suc j)) (words_set l i a (f 0) w)

-- ---- one move there or not
-- x with u or without it
abbrev edited : Set → ℕ → Bool → Set
edited x u there = cond there (with 256 x u) (without 256 x u)

module _ (x : Set) (u : ℕ) where
  edited-length : (there : Bool) → length (edited x u there) ≡ 4
  unfolding with without
  edited-length true = proper_length 256 _ (proper_of 256 (omega arith) (λ w. member x w || eqb w u))
  edited-length false = proper_length 256 _ (proper_of 256 (omega arith) (λ w. member x w && not (eqb w u)))

  or-cond : (a c : Bool) → (a || c) ≡ cond c true a
  or-cond true true = refl
  or-cond true false = refl
  or-cond false true = refl
  or-cond false false = refl

  and-cond : (a c : Bool) → (a && not c) ≡ cond c false a
  and-cond true true = refl
  and-cond true false = refl
  and-cond false true = refl
  and-cond false false = refl

  edited-member : (there : Bool) (w : ℕ) → w < 256 → member (edited x u there) w ≡ cond (eqb w u) there (member x w)
  unfolding with without
  edited-member true w l = member_of 256 (omega arith) (λ w. member x w || eqb w u) w l ∙ or-cond (member x w) (eqb w u)
  edited-member false w l = member_of 256 (omega arith) (λ w. member x w && not (eqb w u)) w l ∙ and-cond (member x w) (eqb w u)

  edited-words : (there : Bool) → Words (edited x u there)
  unfolding with without
  edited-words true = set_words _
  edited-words false = set_words _

-- the move from s to u, and every other bit the same
pub leads-with : (rows : List ℕ) (s u : ℕ) (there : Bool) → length rows ≡ 1024 → s < 256 → (v w : ℕ) → w < 256
    → leads (with_move rows s u there) v w ≡ cond (eqb v s && eqb w u) there (leads rows v w)
unfolding leads with_move
leads-with rows s u there long l v w m = elim (same_or v s) [
  | inl q ↦
      rw (q, eq-eqb s s refl, row_put rows (edited (row rows s) u there) s (edited-length (row rows s) u there) long l)
      (edited-member (row rows s) u there w m)
  | inr n ↦ rw (ne_eqb v s n, row_other rows (edited (row rows s) u there) s v (edited-length (row rows s) u there) n)
]

pub length-with : (rows : List ℕ) (s u : ℕ) (there : Bool) → length (with_move rows s u there) ≡ length rows
unfolding with_move
length-with rows s u there = length-sets rows (4 * s) (edited (row rows s) u there)

pub words_with : (rows : List ℕ) (s u : ℕ) (there : Bool) → Words rows → Words (with_move rows s u there)
unfolding with_move
words_with rows s u there w = words_sets (edited (row rows s) u there) rows (4 * s) (edited-words (row rows s) u there) w

-- ---- the same moves
pub leads-word : (rows : List ℕ) (s u : ℕ) → u < 256 → leads rows s u ≡ bit (get_or rows (4 * s + u / 64) 0) (u % 64)
unfolding leads member
leads-word rows s u l = ap (λ (w : ℕ). bit w (u % 64)) (quad_at rows (4 * s) (u / 64) (omega arith))

leads-bit : (rows : List ℕ) (i k : ℕ) → i < 1024 → k < 64 → leads rows (i / 4) (i % 4 * 64 + k) ≡ bit (get_or rows i 0) k
leads-bit rows i k l m =
    let at : 4 * (i / 4) + (i % 4 * 64 + k) / 64 ≡ i = omega arith in
    let r : (i % 4 * 64 + k) % 64 ≡ k = omega arith in
    leads-word rows (i / 4) (i % 4 * 64 + k) (omega arith) ∙ ap₂ (λ (a b : ℕ). bit (get_or rows a 0) b) at r

pub same_moves : (a b : List ℕ) → length a ≡ 1024 → length b ≡ 1024 → Words a → Words b
    → ((s u : ℕ) → s < 256 → u < 256 → leads a s u ≡ leads b s u) → a ≡ b
same_moves a b la lb wa wb h = ext_get_or 0 a b (la ∙ sym lb) (λ i l. word i (omega arith))
  where
    word : (i : ℕ) → i < 1024 → get_or a i 0 ≡ get_or b i 0
    word i l =
        pack-of 64 (get_or a i 0) (bit (get_or b i 0)) (wa i)
        (λ k m. sym (leads-bit a i k l m) ∙ h (i / 4) (i % 4 * 64 + k) (omega arith) (omega arith) ∙ leads-bit b i k l m)
        ∙ sym (pack-of 64 (get_or b i 0) (bit (get_or b i 0)) (wb i) (λ k m. refl))
