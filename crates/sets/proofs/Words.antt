-- What code does word by word, in the vocabulary of the definitions.
use Prim.Native.Nat.{ℕ, zero, suc, ◌+◌, ◌-◌, ◌*◌, ◌/◌, ◌%◌, ◌^◌, ◌≤◌, ◌<◌, min}
use native.Mathlib.Nat.{one-mul, add-zero}
use native.Mathlib.Numerals.{add-one}
use native.Mathlib.Omega.{arith}
use mathlib.Core.Path.{◌≡◌, refl, sym, ap, ap₂, ◌∙◌}
use mathlib.Core.Logic.{◌⊎◌, inl, inr, ◌≢◌}
use mathlib.Core.Bool.{Bool, true, false, not, ◌&&◌, ◌||◌, or-false, and-true}
use mathlib.Core.List.{List, [], ◌∷◌}
use Rattle.std.specs.Prelude.{Some, None}
use borrow.Author.Tests.{eq-eqb, ne_eqb}
use lib.Bits.{bit_and, bit_or, and_lt, or_lt, and_mask, and_le_r, or_add_and, or_comm}
use lib.Count.{ones, count_trailing_zeros}
use lib.Dec.{eqb, lit<}
use lib.ListN.{get_or, length, set, length-set, drop, take, drop_of_length-le}
use lib.Pow.{shl_exact, pow-lt}
use lib.Seq.{ext_get_or, sets, sets-eq, take_at, set_out, drop-cons, get_or-set_same, get_or-set_other}
use mir.Syntax.{w64}
use mir.Val.{Fits}
use Rattle.sets.specs.Search.{sum}
use Rattle.sets.specs.Sets.{Set, Proper, empty, digit, bit, member, word_of, set_of, full, within, meet, join, minus, with, without, count, smallest, quad}
use Rattle.sets.proofs.Bits.{bit-and, bit-or, bit-zero, bit_not, bit-shift, bit-power, eqb-odd, pack-true, ones_sum, First, trailing_first}
use Rattle.sets.proofs.Members.{proper_four, proper_of, proper_ext, proper_empty, proper_length, proper_word, member_of, member-empty}
use Rattle.sets.proofs.Members.{member-minus, member-word, set-ext}
use Rattle.sets.proofs.Search.{here, nowhere, least-of, sum-add, sum-ext}
use Rattle.sets.proofs.Tests.{Says, pass, fail, clash, eqb-says, lt_or_ge, same_or}
use Rattle.sets.proofs.Within.{Within, Beyond, within-says}

-- ---- four words
pub four_of : (x : Set) → length x ≡ 4 → x ≡ get_or x 0 0 ∷ get_or x 1 0 ∷ get_or x 2 0 ∷ get_or x 3 0 ∷ []
four_of x e = ext_get_or 0 x _ e go
  where
    go : (i : ℕ) → i < length x → get_or x i 0 ≡ get_or (get_or x 0 0 ∷ get_or x 1 0 ∷ get_or x 2 0 ∷ get_or x 3 0 ∷ []) i 0
    go zero l = refl
    go (suc zero) l = refl
    go (suc (suc zero)) l = refl
    go (suc (suc (suc zero))) l = refl
    go (suc (suc (suc (suc i)))) l = absurd (omega arith)

-- the words of a set in code; at a goal: `proper_words _ (search rules) (λ j. search rules)`
pub proper_words : (x : Set) → length x ≡ 4 → ((j : ℕ) → Fits w64 (get_or x j 0)) → Proper 256 x
proper_words x e f = rw (four_of x e) (proper_four _ _ _ _ (f 0).fits (f 1).fits (f 2).fits (f 3).fits)

-- an operation on the words
abbrev pub zip : (ℕ → ℕ → ℕ) → Set → Set → Set
zip h x y = h (get_or x 0 0) (get_or y 0 0) ∷ h (get_or x 1 0) (get_or y 1 0) ∷ h (get_or x 2 0) (get_or y 2 0) ∷ h (get_or x 3 0) (get_or y 3 0) ∷ []

zip-at : (h : ℕ → ℕ → ℕ) (x y : Set) (q : ℕ) → q < 4 → get_or (zip h x y) q 0 ≡ h (get_or x q 0) (get_or y q 0)
zip-at h x y zero l = refl
zip-at h x y (suc zero) l = refl
zip-at h x y (suc (suc zero)) l = refl
zip-at h x y (suc (suc (suc zero))) l = refl
zip-at h x y (suc (suc (suc (suc q)))) l = absurd (omega arith)

-- one that goes bit by bit is the set of its test
module _ (h : ℕ → ℕ → ℕ) (o : Bool → Bool → Bool) (lt : (a b : ℕ) → a < 2 ^ 64 → b < 2 ^ 64 → h a b < 2 ^ 64)
    (law : (a b i : ℕ) → b < 2 ^ 64 → i < 64 → bit (h a b) i ≡ o (bit a i) (bit b i))
    (x y : Set) (hx : Proper 256 x) (hy : Proper 256 y) where
  zip-fits : (q : ℕ) → q < 4 → h (get_or x q 0) (get_or y q 0) < 2 ^ 64
  zip-fits q l = lt _ _ (proper_word x hx q l) (proper_word y hy q l)

  zip-set : zip h x y ≡ set_of 256 (λ s. o (member x s) (member y s))
  unfolding member
  zip-set =
      proper_ext 256 (omega arith)
      (proper_four _ _ _ _ (zip-fits 0 (omega arith)) (zip-fits 1 (omega arith)) (zip-fits 2 (omega arith)) (zip-fits 3 (omega arith)))
      (proper_of 256 (omega arith) (λ s. o (member x s) (member y s)))
      (λ s l. ap (λ w. bit w (s % 64)) (zip-at h x y (s / 64) (omega arith)) ∙ law _ _ (s % 64) (proper_word y hy (s / 64) (omega arith)) (omega arith)
      ∙ sym (member_of 256 (omega arith) (λ s. o (member x s) (member y s)) s l))

pub meet-words : (x y : Set) → Proper 256 x → Proper 256 y → zip bit_and x y ≡ meet 256 x y
unfolding meet
meet-words = zip-set bit_and ◌&&◌ (and_lt 64) (λ a b i l m. bit-and a b i)

pub join-words : (x y : Set) → Proper 256 x → Proper 256 y → zip bit_or x y ≡ join 256 x y
unfolding join
join-words = zip-set bit_or ◌||◌ (or_lt 64) (λ a b i l m. bit-or a b i)

-- `a & !b`
abbrev pub but_not : ℕ → ℕ → ℕ
but_not a b = bit_and a (2 ^ 64 - 1 - b)

but_not-lt : (a b : ℕ) → a < 2 ^ 64 → b < 2 ^ 64 → but_not a b < 2 ^ 64
but_not-lt a b l m = and_lt 64 a (2 ^ 64 - 1 - b) l (omega arith)

pub but_not-bit : (a b i : ℕ) → b < 2 ^ 64 → i < 64 → bit (but_not a b) i ≡ (bit a i && not (bit b i))
but_not-bit a b i l m = bit-and a (2 ^ 64 - 1 - b) i ∙ ap (λ c. bit a i && c) (bit_not 64 b i l m)

pub minus-words : (x y : Set) → Proper 256 x → Proper 256 y → zip but_not x y ≡ minus 256 x y
unfolding minus
minus-words = zip-set but_not (λ a b. a && not b) but_not-lt but_not-bit

-- ---- within: nothing is left of x without y
or-le : (a b : ℕ) → a ≤ bit_or a b
or-le a b = omega (arith, or_add_and a b, and_le_r a b)

-- the words of a set, joined into one
abbrev pub all_words : Set → ℕ
all_words z = bit_or (bit_or (bit_or (get_or z 0 0) (get_or z 1 0)) (get_or z 2 0)) (get_or z 3 0)

all-zero : (a b c d : ℕ) → bit_or (bit_or (bit_or a b) c) d ≡ 0 → (a ≡ 0) × (b ≡ 0) × (c ≡ 0) × (d ≡ 0)
all-zero a b c d e =
    let p : bit_or (bit_or a b) c ≤ bit_or (bit_or (bit_or a b) c) d = or-le _ d in
    let q : bit_or a b ≤ bit_or (bit_or a b) c = or-le _ c in
    let r : a ≤ bit_or a b = or-le a b in
    let p' : d ≤ bit_or (bit_or (bit_or a b) c) d = rw (or_comm (bit_or (bit_or a b) c) d) (or-le d _) in
    let q' : c ≤ bit_or (bit_or a b) c = rw (or_comm (bit_or a b) c) (or-le c _) in
    let r' : b ≤ bit_or a b = rw (or_comm a b) (or-le b a) in
    (omega arith, omega arith, omega arith, omega arith)

no_words : (z : Set) → all_words z ≡ 0 → (j : ℕ) → j < 4 → get_or z j 0 ≡ 0
no_words z e = pick (all-zero _ _ _ _ e)
  where
    pick : (get_or z 0 0 ≡ 0) × (get_or z 1 0 ≡ 0) × (get_or z 2 0 ≡ 0) × (get_or z 3 0 ≡ 0) → (j : ℕ) → j < 4 → get_or z j 0 ≡ 0
    pick h zero l = h.0
    pick h (suc zero) l = h.1
    pick h (suc (suc zero)) l = h.2
    pick h (suc (suc (suc zero))) l = h.3
    pick h (suc (suc (suc (suc j)))) l = absurd (omega arith)

no_members : (z : Set) → all_words z ≡ 0 → (s : ℕ) → s < 256 → member z s ≡ false
unfolding member
no_members z e s l = rw (no_words z e (s / 64) (omega arith)) (bit-zero (s % 64))

but_none : (a b : Bool) → (a ≡ true → b ≡ true) → (a && not b) ≡ false
but_none true b h = rw (h refl)
but_none false b h = refl

module _ (x y : Set) where
  minus-none : Within 256 x y → minus 256 x y ≡ empty
  unfolding minus
  minus-none h =
      proper_ext 256 (omega arith) (proper_of 256 (omega arith) _) (proper_empty 256 (omega arith))
      (λ s l. member_of 256 (omega arith) _ s l ∙ but_none (member x s) (member y s) (h.at s l) ∙ sym (member-empty s))

  pub within-minus : (z : Set) → z ≡ minus 256 x y → eqb (all_words z) 0 ≡ within 256 x y
  unfolding empty
  within-minus z e = go (within-says 256 x y)
    where
      go : {b : Bool} → Says (Within 256 x y) (Beyond 256 x y) b → eqb (all_words z) 0 ≡ b
      go (pass h) = rw (e ∙ minus-none h)
      go (fail w) =
          ne_eqb _ _ (λ (q : all_words z ≡ 0). clash
          (rw e (member-minus 256 (omega arith) x y w.who w.below ∙ rw (w.is, w.not)))
          (no_members z q w.who w.below))

-- ---- one member, one member more, one member less
pub member-code : (x : Set) (s : ℕ) → eqb (bit_and (get_or x (s / 64) 0 / 2 ^ (s % 64)) 1) 1 ≡ member x s
unfolding member
member-code x s =
    ap (λ (v : ℕ). eqb v 1) (and_mask (get_or x (s / 64) 0 / 2 ^ (s % 64)) 1)
    ∙ eqb-odd (get_or x (s / 64) 0 / 2 ^ (s % 64) % 2) (omega arith)
    ∙ sym (bit-shift (get_or x (s / 64) 0) (s % 64))

pub one_shl : (k : ℕ) → k < 64 → 1 * 2 ^ k % 18446744073709551616 ≡ 2 ^ k
one_shl k h = shl_exact {a = 1} 1 k 64 (lit< tt) (omega arith) ∙ one-mul (2 ^ k)

pub shift_lt : (k : ℕ) → k < 64 → 2 ^ k < 2 ^ 64
shift_lt k h = pow-lt h

pub same_state : (s u : ℕ) → u / 64 ≡ s / 64 → eqb (u % 64) (s % 64) ≡ eqb u s
same_state s u e = go (eqb-says u s)
  where
    go : {b : Bool} → Says (u ≡ s) (u ≢ s) b → eqb (u % 64) (s % 64) ≡ b
    go (pass q) = eq-eqb _ _ (ap (λ (v : ℕ). v % 64) q)
    go (fail n) = ne_eqb _ _ (λ (r : u % 64 ≡ s % 64). let q : u ≡ s = omega arith in n q)

-- another word in the place of s: the set of a test that says what its bits say there, and elsewhere what x holds
module _ (x : Set) (s v : ℕ) (hx : Proper 256 x) (l : s < 256) (fits : v < 2 ^ 64) where
  word_fits : (j : ℕ) → (j ≡ s / 64) ⊎ (j ≢ s / 64) → j < 4 → get_or (set x (s / 64) v) j 0 < 2 ^ 64
  word_fits j (inl q) m = rw (q, get_or-set_same x (s / 64) v 0 (omega (arith, proper_length 256 x hx))) fits
  word_fits j (inr n) m = rw (get_or-set_other x (s / 64) j v 0 n) (proper_word x hx j m)

  changed_proper : Proper 256 (set x (s / 64) v)
  changed_proper =
      rw (four_of (set x (s / 64) v) (length-set x (s / 64) v ∙ proper_length 256 x hx))
      (proper_four _ _ _ _ (word 0 (omega arith)) (word 1 (omega arith)) (word 2 (omega arith)) (word 3 (omega arith)))
    where
      word : (j : ℕ) → j < 4 → get_or (set x (s / 64) v) j 0 < 2 ^ 64
      word j m = word_fits j (same_or j (s / 64)) m

  changed : (p : ℕ → Bool) → ((u : ℕ) → u / 64 ≡ s / 64 → bit v (u % 64) ≡ p u) → ((u : ℕ) → u ≢ s → member x u ≡ p u)
      → set x (s / 64) v ≡ set_of 256 p
  unfolding member
  changed p in_word elsewhere =
      proper_ext 256 (omega arith) changed_proper (proper_of 256 (omega arith) p)
      (λ u m. at u (same_or (u / 64) (s / 64)) ∙ sym (member_of 256 (omega arith) p u m))
    where
      at : (u : ℕ) → (u / 64 ≡ s / 64) ⊎ (u / 64 ≢ s / 64) → member (set x (s / 64) v) u ≡ p u
      at u (inl q) =
          ap (λ (j : ℕ). bit (get_or (set x (s / 64) v) j 0) (u % 64)) q
          ∙ ap (λ (w : ℕ). bit w (u % 64)) (get_or-set_same x (s / 64) v 0 (omega (arith, proper_length 256 x hx)))
          ∙ in_word u q
      at u (inr n) =
          ap (λ (w : ℕ). bit w (u % 64)) (get_or-set_other x (s / 64) (u / 64) v 0 n)
          ∙ elsewhere u (λ q. n (ap (λ (w : ℕ). w / 64) q))

module _ (x : Set) (s : ℕ) (hx : Proper 256 x) where
  -- of the bits of its word, 2 ^ (s % 64) holds that of s alone
  its_bit : (u : ℕ) → u / 64 ≡ s / 64 → bit (2 ^ (s % 64)) (u % 64) ≡ eqb u s
  its_bit u q = bit-power (s % 64) (u % 64) ∙ same_state s u q

  word-of : (u : ℕ) → u / 64 ≡ s / 64 → bit (get_or x (s / 64) 0) (u % 64) ≡ member x u
  unfolding member
  word-of u q = ap (λ (j : ℕ). bit (get_or x j 0) (u % 64)) (sym q)

  with-other : (u : ℕ) → u ≢ s → member x u ≡ (member x u || eqb u s)
  with-other u n = sym (or-false (member x u)) ∙ ap (λ (b : Bool). member x u || b) (sym (ne_eqb u s n))

  without_other : (u : ℕ) → u ≢ s → member x u ≡ (member x u && not (eqb u s))
  without_other u n = sym (and-true (member x u)) ∙ ap (λ (b : Bool). member x u && not b) (sym (ne_eqb u s n))

  pub with-words : s < 256 → set x (s / 64) (bit_or (get_or x (s / 64) 0) (2 ^ (s % 64))) ≡ with 256 x s
  unfolding with
  with-words l =
      changed x s _ hx l (or_lt 64 _ _ (proper_word x hx (s / 64) (omega arith)) (shift_lt (s % 64) (omega arith))) _
      (λ u q. bit-or (get_or x (s / 64) 0) (2 ^ (s % 64)) (u % 64) ∙ ap₂ ◌||◌ (word-of u q) (its_bit u q))
      with-other

  pub without-words : s < 256 → set x (s / 64) (but_not (get_or x (s / 64) 0) (2 ^ (s % 64))) ≡ without 256 x s
  unfolding without
  without-words l =
      changed x s _ hx l (but_not-lt _ _ (proper_word x hx (s / 64) (omega arith)) (shift_lt (s % 64) (omega arith))) _
      (λ u q. but_not-bit (get_or x (s / 64) 0) (2 ^ (s % 64)) (u % 64) (shift_lt (s % 64) (omega arith)) (omega arith)
      ∙ ap₂ (λ (a b : Bool). a && not b) (word-of u q) (its_bit u q))
      without_other

  -- a number from 256 up is no member, and adds nothing
  pub with_nothing : 256 ≤ s → x ≡ with 256 x s
  unfolding with
  with_nothing l = sym hx.is ∙ set-ext 256 _ _ (λ u m. with-other u (λ (q : u ≡ s). omega arith))

  pub without-nothing : 256 ≤ s → x ≡ without 256 x s
  unfolding without
  without-nothing l = sym hx.is ∙ set-ext 256 _ _ (λ u m. without_other u (λ (q : u ≡ s). omega arith))

-- ---- the full set
abbrev pub ones_from : ℕ → ℕ → ℕ
ones_from n k = 2 ^ min (n - k) 64 - 1

pub full-words : (N a b c d : ℕ) → a ≡ ones_from N 0 → b ≡ ones_from N 64 → c ≡ ones_from N 128 → d ≡ ones_from N 192 → a ∷ b ∷ c ∷ d ∷ [] ≡ full N
unfolding full set_of word_of
full-words N a b c d p q r s = rw (p, q, r, s, pack-true, pack-true, pack-true, pack-true)

-- ---- the number of members
pub count-words : (x : Set) → Proper 256 x → ones (get_or x 0 0) + ones (get_or x 1 0) + ones (get_or x 2 0) + ones (get_or x 3 0) ≡ count 256 x
unfolding count
count-words x hx =
    ap₂ ◌+◌ (ap₂ ◌+◌ (ap₂ ◌+◌ (word 0 (omega arith)) (word 1 (omega arith))) (word 2 (omega arith))) (word 3 (omega arith))
    ∙ sym (sum-add 192 64 h ∙ ap (λ (n : ℕ). n + part 3) (sum-add 128 64 h ∙ ap (λ (n : ℕ). n + part 2) (sum-add 64 64 h ∙ ap (λ (n : ℕ). n + part 1) first)))
  where
    h : ℕ → ℕ
    h s = digit (member x s)

    part : ℕ → ℕ
    part j = sum 64 (λ k. h (j * 64 + k))

    word : (j : ℕ) → j < 4 → ones (get_or x j 0) ≡ part j
    word j l = ones_sum 64 (get_or x j 0) (proper_word x hx j l)
        ∙ sum-ext 64 (λ k. digit (bit (get_or x j 0) k)) (λ k. h (j * 64 + k)) (λ k m. ap digit (sym (member-word x j k m)))

    first : sum 64 h ≡ part 0
    first = sum-ext 64 h (λ k. h (0 * 64 + k)) (λ k m. let e : k ≡ 0 * 64 + k = omega arith in ap h e)

-- ---- the smallest member, from the trailing zeros of the words in turn
-- no member in the first n words
Clear : Set → ℕ → Type 0
Clear x n = (s : ℕ) → s < n * 64 → member x s ≡ false

module _ (x : Set) (n z : ℕ) (e : z ≡ count_trailing_zeros 64 (get_or x n 0)) (c : Clear x n) where
  f : First 64 (get_or x n 0) z
  f = rw e (trailing_first 64 (get_or x n 0))

  in_word : (s : ℕ) → s < n * 64 + min z 64 → member x s ≡ false
  unfolding Clear
  in_word s l = elim (lt_or_ge s (n * 64)) [
    | inl a ↦ c s a
    | inr a ↦
        let q : n * 64 + (s - n * 64) ≡ s = omega arith in
        ap (member x) (sym q) ∙ member-word x n (s - n * 64) (omega arith) ∙ f.before (s - n * 64) (omega arith)
  ]

  clear_more : 64 ≤ z → Clear x (suc n)
  unfolding Clear
  clear_more h s l = in_word s (omega arith)

  here_is : (v : ℕ) → v ≡ n * 64 + z → n < 4 → z < 64 → Some v ≡ smallest x
  unfolding smallest
  here_is v q m h = least-of 256 (member x) (here v (omega arith) (ap (member x) q ∙ member-word x n z h ∙ f.there h) (λ s l. in_word s (omega arith)))

module _ (x : Set) (a : ℕ) (pa : a ≡ count_trailing_zeros 64 (get_or x 0 0)) where
  c0 : Clear x 0
  unfolding Clear
  c0 s l = absurd (omega arith)

  pub smallest-0 : a < 64 → Some a ≡ smallest x
  smallest-0 = here_is x 0 a pa c0 a (omega arith) (omega arith)

  module _ (ha : 64 ≤ a) (b : ℕ) (pb : b ≡ count_trailing_zeros 64 (get_or x 1 0)) where
    c1 : Clear x 1
    c1 = clear_more x 0 a pa c0 ha

    pub smallest-1 : b < 64 → Some (64 + b) ≡ smallest x
    smallest-1 = here_is x 1 b pb c1 (64 + b) (omega arith) (omega arith)

    module _ (hb : 64 ≤ b) (d : ℕ) (pd : d ≡ count_trailing_zeros 64 (get_or x 2 0)) where
      c2 : Clear x 2
      c2 = clear_more x 1 b pb c1 hb

      pub smallest-2 : d < 64 → Some (128 + d) ≡ smallest x
      smallest-2 = here_is x 2 d pd c2 (128 + d) (omega arith) (omega arith)

      module _ (hd : 64 ≤ d) (e : ℕ) (pe : e ≡ count_trailing_zeros 64 (get_or x 3 0)) where
        c3 : Clear x 3
        c3 = clear_more x 2 d pd c2 hd

        pub smallest-3 : e < 64 → Some (192 + e) ≡ smallest x
        smallest-3 = here_is x 3 e pe c3 (192 + e) (omega arith) (omega arith)

        pub smallest-nothing : 64 ≤ e → None ≡ smallest x
        unfolding smallest Clear
        smallest-nothing he = least-of 256 (member x) (nowhere (clear_more x 3 e pe c3 he))

-- ---- a set in a list of words
pub quad_at : (b : List ℕ) (i q : ℕ) → q < 4 → get_or (quad b i) q 0 ≡ get_or b (i + q) 0
unfolding quad
quad_at b i zero l = let e : i ≡ i + 0 = omega arith in ap (λ j. get_or b j 0) e
quad_at b i (suc zero) l = refl
quad_at b i (suc (suc zero)) l = refl
quad_at b i (suc (suc (suc zero))) l = refl
quad_at b i (suc (suc (suc (suc q)))) l = absurd (omega arith)

-- no place left to write to
pub sets_past : (x l : List ℕ) (i : ℕ) → length l ≤ i → sets l i x ≡ l
sets_past [] l i h = refl
sets_past (a ∷ x) l i h = rw (set_out l i a h) (sets_past x l (suc i) (omega arith))

-- one word written, the rest left to write
pub sets_step : (l x : List ℕ) (i k : ℕ) → k < length x → sets l (i + k) (drop k x) ≡ sets (set l (i + k) (get_or x k 0)) (i + (k + 1)) (drop (k + 1) x)
sets_step l x i k h = let e : i + (k + 1) ≡ suc (i + k) = omega arith in rw (drop-cons x k 0 h, e, add-one)

-- what is put over the front of a list stands there
pub sets_four : (l x : List ℕ) (i : ℕ) → length x ≡ 4
    → set (set (set (set l i (get_or x 0 0)) (i + 1) (get_or x 1 0)) (i + 2) (get_or x 2 0)) (i + 3) (get_or x 3 0) ≡ sets l i x
sets_four l x i e =
    let p : i + 1 ≡ suc i = omega arith in
    let q : i + 2 ≡ suc (suc i) = omega arith in
    let r : i + 3 ≡ suc (suc (suc i)) = omega arith in
    rw (p, q, r) (ap (sets l i) (sym (four_of x e)))

-- the loop of `write` at word k: the words of v from k on are still to be put
pub record Writing (b₀ : List ℕ) (at : ℕ) (v b : List ℕ) (k : ℕ) : Type 0 where
  pub in-range : k ≤ 4
  pub long : length b ≡ length b₀
  pub rest : sets b (at + k) (drop k v) ≡ sets b₀ at v

pub write_begins : (b₀ : List ℕ) (at : ℕ) (v : List ℕ) → Writing b₀ at v b₀ 0
write_begins b₀ at v = record { in-range = omega arith; long = refl; rest = rw add-zero }

module _ (b₀ : List ℕ) (at : ℕ) (v b : List ℕ) (k : ℕ) (w : Writing b₀ at v b k) where
  -- the list ends before the place, or before word k
  pub write_off : length b ≤ at → b ≡ sets b₀ at v
  write_off l = sym (sets_past (drop k v) b (at + k) (omega arith)) ∙ w.rest

  pub write_out : length b - at ≤ k → b ≡ sets b₀ at v
  write_out l = sym (sets_past (drop k v) b (at + k) (omega arith)) ∙ w.rest

  pub write_goes : length v ≡ 4 → k < 4 → Writing b₀ at v (set b (at + k) (get_or v k 0)) (k + 1)
  write_goes e l =
      record { in-range = omega arith; long = simp length-set w.long; rest = sym (sets_step b v at k (omega arith)) ∙ w.rest }

  pub write_ends : length v ≡ 4 → 4 ≤ k → b ≡ sets b₀ at v
  write_ends e l =
      let d : drop k v ≡ [] = drop_of_length-le v {i = k} (omega arith) in
      rw d at w.rest

pub take-sets : (w l : List ℕ) → length w ≤ length l → take (length w) (sets l 0 w) ≡ w
take-sets w l h = rw (sets-eq w l 0 (omega arith)) (take_at w (drop (0 + length w) l) (length w) refl)
