-- The second table as the loops build it, bit by bit: one word of a row, one row, the rows so far; agreement.
use Prim.Native.Nat.{ℕ, ◌+◌, ◌-◌, ◌*◌, ◌/◌, ◌%◌, ◌^◌, ◌≤◌, ◌<◌}
use native.Mathlib.Omega.{arith}
use mathlib.Core.Bool.{Bool, true, false, not, ◌&&◌, ◌||◌, or-false, and-false, and-not_self, and-true as and-true-is}
use mathlib.Core.List.{List}
use mathlib.Core.Logic.{◌⊎◌, inl, inr, ◌≢◌}
use mathlib.Core.Path.{◌≡◌, refl, sym, ap, ap₂, ◌∙◌}
use borrow.Author.Tests.{eq-eqb, ne_eqb, eqb-true, lt-ltb, le-ltb}
use lib.Bits.{bit_and, bit_or, and_le_l, or_lt}
use lib.Count.{count_trailing_zeros}
use lib.Dec.{eqb, ltb}
use lib.ListN.{length, get_or, set, length-set, replicate, length-replicate, get_or-replicate, get_or-eq_default}
use lib.Seq.{get_or-set_same, get_or-set_other}
use Rattle.std.specs.Cmp.Lexicographic.{pointwise, bytes_decides}
use Rattle.sets.proofs.Bits.{bit-and, bit-or, bit-power, bit-zero, pack-of, trailing_first}
use Rattle.sets.proofs.Tests.{and-true, clash, never, same_or, lt_or_ge}
use Rattle.sets.proofs.Words.{but_not, but_not-bit, one_shl, shift_lt, same_state}
use Rattle.sets.specs.Sets.{Set, Words, member, bit}
use Rattle.rules.proofs.Rows.{leads-word, same_moves, words_set}
use Rattle.rules.proofs.Second.{second_laws, second_length, second_words, leads-second, sound-between}
use Rattle.rules.specs.Second.{second_of, agree}
use Rattle.rules.specs.Table.{row, leads, sound_rows}
use Rattle.edits.specs.Inner.{StatePut, LedIn, LedAll}

-- ---- one bit put: s into row t
put-bit : (l : List ℕ) (t s : ℕ) → length l ≡ 1024 → t < 256 → s < 256 → (a v : ℕ) → a < 256 → v < 256
    → leads (set l (4 * t + s / 64) (bit_or (get_or l (4 * t + s / 64) 0) (2 ^ (s % 64)))) a v ≡ (leads l a v || (eqb a t && eqb v s))
put-bit l t s long lt ls a v la lv = leads-word (set l i new) a v lv ∙ go (same_or (4 * a + v / 64) i)
  where
    i : ℕ
    i = 4 * t + s / 64

    new : ℕ
    new = bit_or (get_or l i 0) (2 ^ (s % 64))

    other : 4 * a + v / 64 ≢ i → (eqb a t && eqb v s) ≡ false
    other n = never (eqb a t && eqb v s) (λ e.
        let both = and-true (eqb a t) (eqb v s) e in
        let p : a ≡ t = eqb-true a t both.0 in
        let q : v ≡ s = eqb-true v s both.1 in
        n (ap₂ (λ (x y : ℕ). 4 * x + y / 64) p q))

    go : (4 * a + v / 64 ≡ i) ⊎ (4 * a + v / 64 ≢ i) → bit (get_or (set l i new) (4 * a + v / 64) 0) (v % 64) ≡ (leads l a v || (eqb a t && eqb v s))
    go (inl q) =
        let row_is : a ≡ t = omega arith in
        let word_is : v / 64 ≡ s / 64 = omega arith in
        ap (λ (j : ℕ). bit (get_or (set l i new) j 0) (v % 64)) q
        ∙ ap (λ (w : ℕ). bit w (v % 64)) (get_or-set_same l i new 0 (omega arith))
        ∙ bit-or (get_or l i 0) (2 ^ (s % 64)) (v % 64)
        ∙ ap₂ ◌||◌ (ap (λ (j : ℕ). bit (get_or l j 0) (v % 64)) (sym q) ∙ sym (leads-word l a v lv))
        (bit-power (s % 64) (v % 64) ∙ same_state s v word_is ∙ ap (λ (c : Bool). c && eqb v s) (sym (eq-eqb a t row_is)))
    go (inr n) =
        ap (λ (w : ℕ). bit w (v % 64)) (get_or-set_other l i (4 * a + v / 64) new 0 n)
        ∙ sym (leads-word l a v lv) ∙ sym (or-false (leads l a v)) ∙ ap (λ (c : Bool). leads l a v || c) (sym (other n))

pub state-put : (l l' : List ℕ) (t s : ℕ) → length l ≡ 1024 → t < 256 → s < 256
    → l' ≡ set l (4 * t + s / 64) (bit_or (get_or l (4 * t + s / 64) 0) (1 * 2 ^ (s % 64) % 18446744073709551616)) → StatePut l l' t s
state-put l l' t s long lt ls e = record {
  long = ap length e ∙ length-set l _ _ ∙ long;
  words = λ w.
      rw (e, one_shl (s % 64) (omega arith))
      (words_set l (4 * t + s / 64) _ (or_lt 64 _ _ (w (4 * t + s / 64)) (shift_lt (s % 64) (omega arith))) w);
  at = λ a v la lv. ap (λ (x : List ℕ). leads x a v) (e ∙ rw (one_shl (s % 64) (omega arith))) ∙ put-bit l t s long lt ls a v la lv;
}

-- ---- the loop of `lead_in`: `rest` holds the bits of w still to be put
pub record Leading (second₀ second : List ℕ) (w q s rest : ℕ) : Type 0 where
  pub long : length second ≡ 1024
  pub words : Words second₀ → Words second
  pub at : (t v : ℕ) → t < 256 → v < 256
      → leads second t v ≡ (leads second₀ t v || (eqb v s && (eqb (t / 64) q && (bit w (t % 64) && not (bit rest (t % 64))))))
  pub part : (k : ℕ) → bit rest k ≡ true → bit w k ≡ true

pub lead_begins : (second : List ℕ) (w q s : ℕ) → length second ≡ 1024 → Leading second second w q s w
lead_begins second w q s long = record {
  long = long;
  words = λ h. h;
  at = λ t v lt lv.
      sym (ap (λ (c : Bool). leads second t v || (eqb v s && (eqb (t / 64) q && c))) (and-not_self (bit w (t % 64)))
      ∙ ap (λ (c : Bool). leads second t v || (eqb v s && c)) (and-false (eqb (t / 64) q))
      ∙ ap (λ (c : Bool). leads second t v || c) (and-false (eqb v s)) ∙ or-false (leads second t v));
  part = λ k e. e;
}

-- a bit more: `was` there before, `col` its column, `wrd` its word, `all` of w, `left` of the rest, `this` the bit now put
more : (was col wrd all left this : Bool) → (this ≡ true → (left ≡ true) × (all ≡ true))
    → ((was || (col && (wrd && (all && not left)))) || ((wrd && this) && col)) ≡ (was || (col && (wrd && (all && not (left && not this)))))
more true col wrd all left this h = refl
more false false wrd all left this h = and-false (wrd && this)
more false true false all left this h = refl
more false true true all left true h = rw ((h refl).0, (h refl).1)
more false true true all left false h = or-false (all && not left) ∙ ap (λ (c : Bool). all && not c) (sym (and-true-is left))

-- row 64 q + k, by word and bit
row-parts : (t q k : ℕ) → k < 64 → eqb t (64 * q + k) ≡ (eqb (t / 64) q && eqb (t % 64) k)
row-parts t q k l = elim (same_or t (64 * q + k)) [
  | inl e ↦
      let f : t / 64 ≡ q = omega arith in
      let g : t % 64 ≡ k = omega arith in
      rw (eq-eqb t (64 * q + k) e, eq-eqb (t / 64) q f, eq-eqb (t % 64) k g)
  | inr n ↦ ne_eqb t (64 * q + k) n ∙ sym (never (eqb (t / 64) q && eqb (t % 64) k) (λ e.
      let both = and-true (eqb (t / 64) q) (eqb (t % 64) k) e in
      let f : t / 64 ≡ q = eqb-true (t / 64) q both.0 in
      let g : t % 64 ≡ k = eqb-true (t % 64) k both.1 in
      n (omega arith)))
]

-- a word that is not 0 has a bit that is set
pub lowest_below : (w : ℕ) → w < 2 ^ 64 → w ≢ 0 → count_trailing_zeros 64 w < 64
lowest_below w fits n = elim (lt_or_ge (count_trailing_zeros 64 w) 64) [
  | inl l ↦ l
  | inr h ↦ absurd (n (
      pack-of 64 w (λ k. false) fits (λ k l. (trailing_first 64 w).before k (omega arith))
      ∙ sym (pack-of 64 0 (λ k. false) (omega arith) (λ k l. bit-zero k))))
]

module _ (rest k : ℕ) (e : k ≡ count_trailing_zeros 64 rest) (l : k < 64) where
  -- the lowest bit that is set
  lowest : bit rest k ≡ true
  lowest = rw e ((trailing_first 64 rest).there (omega arith))

  cleared : (i : ℕ) → i < 64 → bit (but_not rest (2 ^ k)) i ≡ (bit rest i && not (eqb i k))
  cleared i m = but_not-bit rest (2 ^ k) i (shift_lt k l) m ∙ ap (λ (c : Bool). bit rest i && not c) (bit-power k i)

  -- the loop comes to its end
  pub rest-shrinks : (rest' : ℕ) → rest' ≡ bit_and rest (2 ^ 64 - 1 - 1 * 2 ^ k % 18446744073709551616) → rest' < rest
  rest-shrinks rest' r = rw (r, one_shl k l) (omega (arith, and_le_l rest (2 ^ 64 - 1 - 2 ^ k), apart))
    where
      apart : but_not rest (2 ^ k) ≢ rest
      apart q = clash (ap (λ (w : ℕ). bit w k) q ∙ lowest) (cleared k l ∙ rw (eq-eqb k k refl) (and-false (bit rest k)))

  module _ (second₀ second second' : List ℕ) (w q s : ℕ) (rest' : ℕ) where
    pub lead_goes : Leading second₀ second w q s rest → StatePut second second' (64 * q + k) s
        → rest' ≡ bit_and rest (2 ^ 64 - 1 - 1 * 2 ^ k % 18446744073709551616) → Leading second₀ second' w q s rest'
    lead_goes v p r = rw (r, one_shl k l) (record {
      long = p.long;
      words = λ h. p.words (v.words h);
      at = λ t a lt la.
          p.at t a lt la
          ∙ ap₂ (λ (c d : Bool). c || (d && eqb a s)) (v.at t a lt la) (row-parts t q k l)
          ∙ more (leads second₀ t a) (eqb a s) (eqb (t / 64) q) (bit w (t % 64)) (bit rest (t % 64)) (eqb (t % 64) k) (there t)
          ∙ ap (λ (c : Bool). leads second₀ t a || (eqb a s && (eqb (t / 64) q && (bit w (t % 64) && not c)))) (sym (cleared (t % 64) (omega arith)));
      part = λ i b. v.part i (fewer i b);
    })
      where
        there : (t : ℕ) → eqb (t % 64) k ≡ true → (bit rest (t % 64) ≡ true) × (bit w (t % 64) ≡ true)
        there t b = let g : t % 64 ≡ k = eqb-true (t % 64) k b in rw g (lowest, v.part k lowest)

        fewer : (i : ℕ) → bit (but_not rest (2 ^ k)) i ≡ true → bit rest i ≡ true
        fewer i b = (and-true (bit rest i) (bit (2 ^ 64 - 1 - 2 ^ k) i) (sym (bit-and rest (2 ^ 64 - 1 - 2 ^ k) i) ∙ b)).0

pub lead_ends : (second₀ second : List ℕ) (w q s rest : ℕ) → Leading second₀ second w q s rest → rest ≡ 0 → LedIn second₀ second w q s
lead_ends second₀ second w q s rest v z = record {
  long = v.long;
  words = v.words;
  at = λ t a lt la.
      v.at t a lt la
      ∙ ap (λ (c : Bool). leads second₀ t a || (eqb a s && (eqb (t / 64) q && c)))
      (ap (λ (c : Bool). bit w (t % 64) && not c) (ap (λ (r : ℕ). bit r (t % 64)) z ∙ bit-zero (t % 64)) ∙ and-true-is (bit w (t % 64)));
}

-- ---- the loop of `lead_all` at q: the words of the row before q
pub record LeadingAll (second₀ second : List ℕ) (x : Set) (s q : ℕ) : Type 0 where
  pub in-range : q ≤ 4
  pub long : length second ≡ 1024
  pub words : Words second₀ → Words second
  pub at : (t v : ℕ) → t < 256 → v < 256 → leads second t v ≡ (leads second₀ t v || (eqb v s && (ltb (t / 64) q && member x t)))

pub all-begin : (second : List ℕ) (x : Set) (s : ℕ) → length second ≡ 1024 → LeadingAll second second x s 0
all-begin second x s long = record {
  in-range = omega arith;
  long = long;
  words = λ h. h;
  at = λ t v lt lv.
      sym (ap (λ (c : Bool). leads second t v || (eqb v s && (c && member x t))) (le-ltb (t / 64) 0 (omega arith))
      ∙ ap (λ (c : Bool). leads second t v || c) (and-false (eqb v s)) ∙ or-false (leads second t v));
}

module _ (second₀ second second' : List ℕ) (x : Set) (s q : ℕ) (v : LeadingAll second₀ second x s q) where
  pub all_go : (w : ℕ) → q < 4 → w ≡ get_or x q 0 → LedIn second second' w q s → LeadingAll second₀ second' x s (q + 1)
  unfolding member
  all_go w l e p = record {
    in-range = omega arith;
    long = p.long;
    words = λ h. p.words (v.words h);
    at = λ t a lt la.
        p.at t a lt la ∙ ap₂ (λ (c : Bool) (u : ℕ). c || (eqb a s && (eqb (t / 64) q && bit u (t % 64)))) (v.at t a lt la) e
        ∙ joins (leads second₀ t a) (eqb a s) _ _ _ (step t (same_or (t / 64) q) (lt_or_ge (t / 64) q));
  }
    where
      step : (t : ℕ) → (t / 64 ≡ q) ⊎ (t / 64 ≢ q) → (t / 64 < q) ⊎ (q ≤ t / 64)
          → ((ltb (t / 64) q && member x t) || (eqb (t / 64) q && bit (get_or x q 0) (t % 64))) ≡ (ltb (t / 64) (q + 1) && member x t)
      step t (inl z) h = rw (z, le-ltb q q (omega arith), eq-eqb q q refl, lt-ltb q (q + 1) (omega arith))
      step t (inr n) (inl h) = rw (lt-ltb (t / 64) q h, ne_eqb (t / 64) q n, lt-ltb (t / 64) (q + 1) (omega arith)) (or-false _)
      step t (inr n) (inr h) = rw (le-ltb (t / 64) q h, ne_eqb (t / 64) q n, le-ltb (t / 64) (q + 1) (omega (arith, n)))

      joins : (was col a b c : Bool) → (a || b) ≡ c → ((was || (col && a)) || (col && b)) ≡ (was || (col && c))
      joins true col a b c h = refl
      joins false true a b c h = h
      joins false false a b c h = refl

  pub all_end : 4 ≤ q → LedAll second₀ second x s
  all_end l = record {
    long = v.long;
    words = v.words;
    at = λ t a lt la. v.at t a lt la ∙ ap (λ (c : Bool). leads second₀ t a || (eqb a s && (c && member x t))) (lt-ltb (t / 64) q (omega arith));
  }

-- ---- the loop of `second_of` at s: the moves of the states before s
pub record Turning (rows second : List ℕ) (n s : ℕ) : Type 0 where
  pub in-range : s ≤ n
  pub long : length second ≡ 1024
  pub words : Words second
  pub at : (t v : ℕ) → t < 256 → v < 256 → leads second t v ≡ (ltb v s && leads rows v t)

-- no bit is set at first
pub turn_begins : (rows : List ℕ) (n : ℕ) → Turning rows (replicate 1024 0) n 0
turn_begins rows n = record {
  in-range = omega arith;
  long = length-replicate {A = ℕ} 1024 0;
  words = λ i. elim (lt_or_ge i 1024) [
    | inl l ↦ rw (get_or-replicate {A = ℕ} 1024 i 0 0 l) (omega arith)
    | inr l ↦ rw (get_or-eq_default {A = ℕ} (replicate 1024 0) 0 {n = i} (omega (arith, length-replicate {A = ℕ} 1024 0))) (omega arith)
  ];
  at = λ t v lt lv.
      leads-word (replicate 1024 0) t v lv ∙ ap (λ (w : ℕ). bit w (v % 64)) (get_or-replicate {A = ℕ} 1024 (4 * t + v / 64) 0 0 (omega arith))
      ∙ bit-zero (v % 64) ∙ sym (ap (λ (c : Bool). c && leads rows v t) (le-ltb v 0 (omega arith)));
}

-- end is n
pub turn_goes : (rows second second' : List ℕ) (x : Set) (n s end : ℕ) → end ≡ n → Turning rows second n s → s < end → x ≡ row rows s
    → LedAll second second' x s → Turning rows second' n (s + 1)
unfolding leads
turn_goes rows second second' x n s end d v l e a = record {
  in-range = omega arith;
  long = a.long;
  words = a.words v.words;
  at = λ t w lt lw. a.at t w lt lw ∙ rw (v.at t w lt lw, e) (step t w (same_or w s) (lt_or_ge w s));
}
  where
    step : (t w : ℕ) → (w ≡ s) ⊎ (w ≢ s) → (w < s) ⊎ (s ≤ w)
        → ((ltb w s && leads rows w t) || (eqb w s && leads rows s t)) ≡ (ltb w (s + 1) && leads rows w t)
    step t w (inl q) h = rw (q, le-ltb s s (omega arith), eq-eqb s s refl, lt-ltb s (s + 1) (omega arith))
    step t w (inr n) (inl h) = rw (lt-ltb w s h, ne_eqb w s n, lt-ltb w (s + 1) (omega arith)) (or-false (leads rows w t))
    step t w (inr n) (inr h) = rw (le-ltb w s h, ne_eqb w s n, le-ltb w (s + 1) (omega (arith, n)))

-- from n up a sound table has no move
pub turn_ends : (rows second : List ℕ) (n s end : ℕ) → end ≡ n → Turning rows second n s → end ≤ s → sound_rows n rows ≡ true
    → second ≡ second_of rows
turn_ends rows second n s end d v l sound =
    same_moves second (second_of rows) v.long (second_length rows) v.words (second_words rows)
    (λ t a lt la. v.at t a lt la ∙ past t a lt la (lt_or_ge a s) ∙ sym (leads-second rows t a lt la))
  where
    past : (t a : ℕ) → t < 256 → a < 256 → (a < s) ⊎ (s ≤ a) → (ltb a s && leads rows a t) ≡ leads rows a t
    past t a lt la (inl h) = ap (λ (c : Bool). c && leads rows a t) (lt-ltb a s h)
    past t a lt la (inr h) =
        ap (λ (c : Bool). c && leads rows a t) (le-ltb a s h)
        ∙ sym (never (leads rows a t) (λ e. let low = (sound-between n rows sound).at a t la lt e in omega (arith, low.0)))

-- ---- agreement: a table of 1,024 words agrees where it is the one made; other is made again
both_ways : (a b : Bool) → (a ≡ true → b ≡ true) → (b ≡ true → a ≡ true) → a ≡ b
both_ways true b h k = sym (h refl)
both_ways false true h k = k refl
both_ways false false h k = refl

pub tables_agree : (rows second made other : List ℕ) (r : Bool) → length second ≡ 1024 → Words second → made ≡ second_of rows → other ≡ made
    → r ≡ pointwise eqb second other → r ≡ agree rows second
tables_agree rows second made other r long words made-is other-is e = e ∙ both_ways _ _ there back
  where
    is : other ≡ second_of rows
    is = other-is ∙ made-is

    there : pointwise eqb second other ≡ true → agree rows second ≡ true
    there h = ap (agree rows) ((bytes_decides second other).0 h ∙ is) ∙ second_laws.made rows

    back : agree rows second ≡ true → pointwise eqb second other ≡ true
    back h = (bytes_decides second other).1 ((second_laws.agreed rows second long words h).is ∙ sym is)
