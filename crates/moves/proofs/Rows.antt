-- f, g, soundness and the number of moves row by row, as the loops work them out; on sound rows they are f and g.
use Prim.Native.Nat.{ℕ, suc, ◌+◌, ◌-◌, ◌*◌, ◌%◌, ◌^◌, ◌≤◌, ◌<◌, min}
use native.Mathlib.Nat.{zero-mul}
use native.Mathlib.Numerals.{add-one}
use native.Mathlib.Omega.{arith}
use mathlib.Core.Bool.{Bool, true, false, not, ◌&&◌, ◌||◌, or-false}
use mathlib.Core.List.{List, [], ◌∷◌}
use mathlib.Core.Logic.{◌⊎◌, inl, inr}
use mathlib.Core.Path.{◌≡◌, refl, sym, ap, ap₂, ◌∙◌}
use borrow.Author.Tests.{lt-ltb, eq-eqb, ne_eqb}
use lib.Bits.{bit_or, or_lt, or_zero_r}
use lib.Dec.{ltb}
use lib.Pow.{pow-lt}
use lib.Seq.{sets}
use mir.Val.{bool_byte}
use Rattle.moves.specs.Wide.{forward256, backward256, ends_in}
use Rattle.rules.specs.Table.{Table, row, leads, sound_row, sound_rows, sound_table, move_count, with_move, forward, backward}
use Rattle.sets.proofs.Members.{member_of, set-ext, set-pad, member-empty, proper_of, proper_empty, proper_ext}
use Rattle.sets.proofs.Count.{count-max}
use Rattle.sets.proofs.Search.{any-says, all-says, any-suc, all-stop, sum-max}
use Rattle.sets.proofs.Tests.{passed, passes, fails, clash, and-true, not-true, not-false, implies, implied, leb-says, lt_or_ge}
use Rattle.sets.proofs.Tests.{Says, pass, fail}
use Rattle.sets.specs.Search.{least, found, any, all, sum}
use Rattle.sets.proofs.Bits.{bit-or, bit-power, pack-of, pack-lt, pack-out, pack-pad, bit-pack}
use Rattle.sets.proofs.Words.{one_shl}
use Rattle.sets.specs.Sets.{join, Set, member, bit, pack, word_of, set_of, empty, within, sound, with, without, count, quad}

-- ---- f
pub forward-none : (rows : List ℕ) (x : Set) → 0 ∷ 0 ∷ 0 ∷ 0 ∷ [] ≡ forward256 0 rows x
unfolding forward256 any least found empty
forward-none rows x =
    proper_ext 256 (omega arith) (proper_empty 256 (omega arith)) (proper_of 256 (omega arith) _)
    (λ s l. member-empty s ∙ sym (member_of 256 (omega arith) _ s l))

pub forward-in : (rows : List ℕ) (x : Set) (s : ℕ) → member x s ≡ true → join 256 (forward256 s rows x) (row rows s) ≡ forward256 (s + 1) rows x
unfolding forward256 join leads
forward-in rows x s e =
    set-ext 256 _ _ (λ u l. rw (member_of 256 (omega arith) (λ u. any s (λ a. member x a && member (row rows a) u)) u l, add-one, any-suc, e))

pub forward-out : (rows : List ℕ) (x : Set) (s : ℕ) → member x s ≡ false → forward256 s rows x ≡ forward256 (s + 1) rows x
unfolding forward256
forward-out rows x s e = set-ext 256 _ _ (λ u l. rw (add-one, any-suc, e) (sym (or-false _)))

-- the loop of `forward` at s
pub record Joining (N : ℕ) (rows : List ℕ) (x acc : Set) (s : ℕ) : Type 0 where
  pub in-range : s ≤ N
  pub is : acc ≡ forward256 s rows x

pub join-begins : (N : ℕ) (rows : List ℕ) (x : Set) → Joining N rows x (0 ∷ 0 ∷ 0 ∷ 0 ∷ []) 0
join-begins N rows x = record { in-range = omega arith; is = forward-none rows x }

module _ (N : ℕ) (rows : List ℕ) (x acc : Set) (s : ℕ) (r : Bool) (v : Joining N rows x acc s) (l : s < N) (e : r ≡ member x s) where
  pub join-in : (acc' y : Set) → r ≡ true → y ≡ row rows s → acc' ≡ join 256 acc y → Joining N rows x acc' (s + 1)
  join-in acc' y q d f = record { in-range = omega arith; is = f ∙ ap₂ (join 256) v.is d ∙ forward-in rows x s (sym e ∙ q) }

  pub join-out : (acc' : Set) → r ≡ false → acc' ≡ acc → Joining N rows x acc' (s + 1)
  join-out acc' q f = record { in-range = omega arith; is = f ∙ v.is ∙ forward-out rows x s (sym e ∙ q) }

pub join-ends : (N : ℕ) (rows : List ℕ) (x acc : Set) (s : ℕ) → Joining N rows x acc s → N ≤ s → acc ≡ forward256 N rows x
join-ends N rows x acc s v l = let e : s ≡ N = omega (arith, v.in-range) in rw e at v.is

-- ---- g
pack-none : (p : ℕ → Bool) → 0 ≡ pack 0 p
unfolding pack
pack-none p = refl

-- a word with one state more
module _ (k : ℕ) (p : ℕ → Bool) where
  pack-in : p k ≡ true → bit_or (pack k p) (2 ^ k) ≡ pack (k + 1) p
  pack-in e =
      pack-of (k + 1) _ p (or_lt (k + 1) (pack k p) (2 ^ k) (omega (arith, pack-lt k p, up)) up)
      (λ i l. bit-or (pack k p) (2 ^ k) i ∙ at i (lt_or_ge i k) l)
    where
      up : 2 ^ k < 2 ^ (k + 1)
      up = pow-lt (omega arith)

      at : (i : ℕ) → (i < k) ⊎ (k ≤ i) → i < k + 1 → (bit (pack k p) i || bit (2 ^ k) i) ≡ p i
      at i (inl h) l = rw (bit-pack k p i h, bit-power k i, ne_eqb i k (λ (q : i ≡ k). omega arith)) (or-false (p i))
      at i (inr h) l = let q : i ≡ k = omega arith in rw (q, pack-out k p k (omega arith), bit-power k k, eq-eqb k k refl) (sym e)

  pack-skip : p k ≡ false → pack k p ≡ pack (k + 1) p
  pack-skip e = pack-pad k (k + 1) p (omega arith) (λ j h l. let q : j ≡ k = omega arith in rw q e)

  -- as the loop does it: b is 1 for a state that passes, else 0
  pack-step : (k < 64) → (b : ℕ) → ((b ≡ 1) × (p k ≡ true)) ⊎ ((b ≡ 0) × (p k ≡ false)) → (w : ℕ) → w ≡ pack k p
      → bit_or w (b * 2 ^ k % 18446744073709551616) ≡ pack (k + 1) p
  pack-step l b (inl h) w e = rw (h.0, one_shl k l, e) (pack-in h.1)
  pack-step l b (inr h) w e = rw (h.0, zero-mul, or_zero_r, e) (pack-skip h.1)

ends-in : (rows : List ℕ) (x : Set) (s : ℕ) → within 256 (row rows s) x ≡ ends_in rows x s
unfolding ends_in within leads
ends-in rows x s = refl

-- the row that the code reads
ends_at : (rows : List ℕ) (x r : Set) (at s : ℕ) → at ≡ 4 * s → r ≡ quad rows at → within 256 r x ≡ ends_in rows x s
ends_at rows x r at s e q = rw (q, e) (ends-in rows x s)

-- the loop of word q at its state k: w holds the states before it all of whose moves end in x
pub record Packing (rows : List ℕ) (x : Set) (q m w k : ℕ) : Type 0 where
  pub in-range : k ≤ m
  pub packed : w ≡ pack k (λ i. ends_in rows x (q * 64 + i))

module _ (rows : List ℕ) (x : Set) (q m : ℕ) where
  pub pack-begins : Packing rows x q m 0 0
  pack-begins = record { in-range = omega arith; packed = pack-none _ }

  -- r is the row of the state, and b is 1 where it is within x, else 0
  digit_says : (i : Bool) {b : ℕ} → b ≡ bool_byte i → ((b ≡ 1) × (i ≡ true)) ⊎ ((b ≡ 0) × (i ≡ false))
  digit_says true e = inl (e, refl)
  digit_says false e = inr (e, refl)

  pub pack-goes : {w k b at : ℕ} {r : Set} {i : Bool} → Packing rows x q m w k → k < m → k < 64 → at ≡ 4 * (q * 64 + k) → r ≡ quad rows at
      → i ≡ within 256 r x → b ≡ bool_byte i
      → Packing rows x q m (bit_or w (b * 2 ^ k % 18446744073709551616)) (k + 1)
  pack-goes {w} {k} {b} {at} {r} {i} v l l' ea er ei h =
      let is : ends_in rows x (q * 64 + k) ≡ i = sym (ei ∙ ends_at rows x r at (q * 64 + k) ea er) in
      record {
        in-range = omega arith;
        packed = pack-step k _ l' b (elim (digit_says i h) [ inl y ↦ inl (y.0, is ∙ y.1) | inr y ↦ inr (y.0, is ∙ y.1) ]) w v.packed;
      }

  -- the word is done where its count is
  pub pack-ends : (N w k : ℕ) → Packing rows x q m w k → m ≡ min (N - q * 64) 64 → m ≤ k → w ≡ word_of N (ends_in rows x) q
  unfolding word_of
  pack-ends N w k v e l =
      let done : k ≡ min (N - q * 64) 64 = omega (arith, v.in-range) in
      v.packed ∙ rw done

pub four_words : (N : ℕ) (rows : List ℕ) (x : Set) (a b c d : ℕ) → a ≡ word_of N (ends_in rows x) 0 → b ≡ word_of N (ends_in rows x) 1
    → c ≡ word_of N (ends_in rows x) 2 → d ≡ word_of N (ends_in rows x) 3 → a ∷ b ∷ c ∷ d ∷ [] ≡ backward256 N rows x
unfolding backward256 set_of
four_words N rows x a b c d ea eb ec ed = rw (ea, eb, ec, ed)

-- ---- on sound rows
module _ (N : ℕ) (rows : List ℕ) (big : N ≤ 256) (ok : sound_rows N rows ≡ true) where
  -- no move leads from N up
  pub leads-below : (s u : ℕ) → s < N → u < 256 → leads rows s u ≡ true → u < N
  unfolding sound_rows sound_row sound leads
  leads-below s u l m e =
      passed (leb-says (suc u) N)
      (implied (member (row rows s) u) (ltb u N)
      (passed (all-says 256 _) (rw (lt-ltb s N l) at (passed (all-says 256 (sound_row N rows)) ok s (omega arith))) u m) e)

  pub forward-is : (x : Set) → forward256 N rows x ≡ forward N rows x
  unfolding forward256 forward
  forward-is x = sym (set-pad N big (λ u. any N (λ s. member x s && leads rows s u))
      (λ u a l. fails (any-says N _) (λ w.
      let leads-to = (and-true (member x w.0) (leads rows w.0 u) w.2).1 in
      let d : u < N = leads-below w.0 u w.1 l leads-to in
      omega arith)))

  pub backward-is : (x : Set) → backward256 N rows x ≡ backward N rows x
  unfolding backward256 ends_in backward
  backward-is x = set-ext N _ _ (λ s l. go s l (all-says N (λ u. not (leads rows s u) || member x u)))
    where
      go : (s : ℕ) → s < N → {b : Bool}
          → Says ((u : ℕ) → u < N → (not (leads rows s u) || member x u) ≡ true) ((u : ℕ) × (u < N) × ((not (leads rows s u) || member x u) ≡ false)) b
          → all 256 (λ u. not (leads rows s u) || member x u) ≡ b
      go s l (pass h) = passes (all-says 256 _) (λ w. clash (implies (leads rows s w.0) (member x w.0)
          (λ e. implied (leads rows s w.0) (member x w.0) (h w.0 (leads-below s w.0 l w.1 e)) e)) w.2)
      go s l (fail w) = all-stop 256 _ w.0 (omega (arith, w.1)) w.2

-- ---- soundness, test by test
module _ (t : Table) (a : Bool) (e : a ≡ sound t.size t.starts) where
  pub unsound_starts : not a ≡ true → false ≡ sound_table t
  unfolding sound_table
  unsound_starts h = rw (sym e ∙ not-true a h)

  module _ (h : not a ≡ false) (b : Bool) (f : b ≡ sound t.size t.safe) where
    pub unsound_safe : not b ≡ true → false ≡ sound_table t
    unfolding sound_table
    unsound_safe k = rw (sym e ∙ not-false a h, sym f ∙ not-true b k)

    pub sound-rest : not b ≡ false → (r : Bool) → r ≡ sound_rows t.size t.rows → r ≡ sound_table t
    unfolding sound_table
    sound-rest k r q = q ∙ rw (sym e ∙ not-false a h, sym f ∙ not-false b k)

-- ---- the number of moves: the loop of `count_moves` at s
pub record Counting (rows : List ℕ) (total s : ℕ) : Type 0 where
  pub in-range : s ≤ 256
  pub is : total ≡ sum s (λ u. count 256 (row rows u))
  pub small : total ≤ s * 256

pub count-begins : (rows : List ℕ) → Counting rows 0 0
unfolding sum
count-begins rows = record { in-range = omega arith; is = refl; small = omega arith }

module _ (rows : List ℕ) (total s : ℕ) (v : Counting rows total s) (l : s < 256) (x : Set) (m : ℕ) (e : x ≡ row rows s) (q : m ≡ count 256 x) where
  row_count : m ≡ count 256 (row rows s)
  row_count = q ∙ ap (count 256) e

  pub count_room : total + m < 2 ^ 64
  count_room = omega (arith, v.small, row_count, count-max 256 (row rows s))

  pub count-goes : Counting rows (total + m) (s + 1)
  unfolding sum
  count-goes =
      record {
        in-range = omega arith;
        is = rw add-one (omega (arith, v.is, row_count));
        small = omega (arith, v.small, row_count, count-max 256 (row rows s));
      }

pub count-ends : (rows : List ℕ) (total s : ℕ) → Counting rows total s → 256 ≤ s → total ≡ move_count rows
unfolding move_count
count-ends rows total s v l = let e : s ≡ 256 = omega (arith, v.in-range) in rw e at v.is

-- 256 rows of 256 states
pub count_most : (rows : List ℕ) → move_count rows ≤ 65536
unfolding move_count
count_most rows = sum-max 256 256 _ (λ s l. count-max 256 (row rows s))

-- ---- a move there or not
module _ (rows rows' : List ℕ) (s u : ℕ) (there : Bool) (x y : Set) (e : x ≡ quad rows (4 * s)) (g : rows' ≡ sets rows (4 * s) y) where
  pub move-there : there ≡ true → y ≡ with 256 x u → rows' ≡ with_move rows s u there
  unfolding with_move
  move-there h q = g ∙ rw (h, q, e)

  pub move-gone : there ≡ false → y ≡ without 256 x u → rows' ≡ with_move rows s u there
  unfolding with_move
  move-gone h q = g ∙ rw (h, q, e)
