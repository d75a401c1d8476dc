-- Sets and the move table as loops build them, one number more at a time.
use Prim.Native.Nat.{ℕ, zero, suc, ◌+◌, ◌*◌, ◌/◌, ◌%◌, ◌≤◌, ◌<◌}
use native.Mathlib.Omega.{arith}
use mathlib.Core.Path.{◌≡◌, refl, sym, ap, ap₂, ◌∙◌}
use mathlib.Core.Logic.{◌⊎◌, inl, inr, ◌≢◌}
use mathlib.Core.Bool.{Bool, true, false, ◌||◌, or-false}
use mathlib.Core.List.{List, [], ◌∷◌, ◌++◌}
use borrow.Author.Tests.{eq-eqb, ne_eqb}
use lib.Dec.{eqb}
use lib.IntN.{ℤ, pos}
use lib.ListN.{length, get_or, set, replicate}
use lib.Seq.{sets, length-sets, ext_get_or}
use Rattle.rules.proofs.Rows.{length-rows_of, rows_of-at, row_of}
use Rattle.rules.specs.Table.{row, rows_of, with_move}
use Rattle.sets.specs.Sets.{Set, member, set_of, empty, with}
use Rattle.sets.proofs.Members.{proper_of, proper_empty, proper_length, member_of, member-empty, proper_ext, set-ext}
use Rattle.sets.proofs.Tests.{same_or, lt_or_ge}
use Rattle.sets.specs.Lists.{tabulate}
use Rattle.sets.proofs.Lists.{Filled, fill_none, fill_more, fill_all, tabulate-past, tabulate-at, tabulate-more, tabulate-ext}
use Rattle.sets.proofs.Lists.{sets_before, sets_after, sets_at}
use Rattle.tables.specs.Lists.{among}
use Rattle.tables.specs.Format.{Kind, bits16, signed, state_entry, state, number, move_entry, move}
use Rattle.tables.specs.Control.{set_of_entries, row_of_entries, rows_of_entries}
use Rattle.tables.specs.Inner.{values}
use Rattle.tables.proofs.Lists.{among-append}

-- ---- entries by number
pub values-none : (K : Kind) (b : List ℕ) (at : ℕ) → values K b at 0 ≡ []
unfolding values tabulate
values-none K b at = refl

values-more : (K : Kind) (b : List ℕ) (at i : ℕ) → values K b at (i + 1) ≡ values K b at i ++ (K.value b (at + i * K.width) ∷ [])
unfolding values
values-more K b at i = tabulate-more i (λ i. K.value b (at + i * K.width))

-- ---- a set, one member more at a time
-- no test passes
set-of_none : (p : ℕ → Bool) → ((s : ℕ) → p s ≡ false) → empty ≡ set_of 256 p
set-of_none p h =
    proper_ext 256 (omega arith) (proper_empty 256 (omega arith)) (proper_of 256 (omega arith) p)
    (λ s l. member-empty s ∙ sym (member_of 256 (omega arith) p s l ∙ h s))

set-none : empty ≡ set_of_entries []
unfolding set_of_entries among
set-none = set-of_none (among []) (λ s. refl)

among-more : (vs : List ℕ) (v w : ℕ) → among (vs ++ (v ∷ [])) w ≡ (among vs w || eqb w v)
unfolding among
among-more vs v w = among-append vs (v ∷ []) w ∙ ap (λ b. among vs w || b) (or-false (eqb w v))

set_more : (vs : List ℕ) (v : ℕ) → with 256 (set_of_entries vs) v ≡ set_of_entries (vs ++ (v ∷ []))
unfolding with set_of_entries
set_more vs v = set-ext 256 _ _ (λ s l. ap (λ b. b || eqb s v) (member_of 256 (omega arith) (among vs) s l) ∙ sym (among-more vs v s))

-- ---- the move table
length-row : (vs : List ℕ) (s : ℕ) → length (row_of_entries vs s) ≡ 4
unfolding row_of_entries
length-row vs s = proper_length 256 _ (proper_of 256 (omega arith) (λ u. among vs (s * 65536 + u)))

pub length-rows : (vs : List ℕ) → length (rows_of_entries vs) ≡ 1024
unfolding rows_of_entries
length-rows vs = length-rows_of (row_of_entries vs)

rows_at : (vs : List ℕ) (s q : ℕ) → s < 256 → q < 4 → get_or (rows_of_entries vs) (4 * s + q) 0 ≡ get_or (row_of_entries vs s) q 0
unfolding rows_of_entries
rows_at vs s q h l = rows_of-at (row_of_entries vs) s q h l

-- row s of the table is the row of the moves from s
pub row_is : (vs : List ℕ) (s : ℕ) → s < 256 → row (rows_of_entries vs) s ≡ row_of_entries vs s
unfolding rows_of_entries
row_is vs s h = row_of (row_of_entries vs) s h (length-row vs s)

length-with : (x : Set) (u : ℕ) → length (with 256 x u) ≡ 4
unfolding with
length-with x u = proper_length 256 _ (proper_of 256 (omega arith) (λ w. member x w || eqb w u))

-- two moves from s are the same where they lead to the same
same_move : (s u v : ℕ) → v / 65536 ≡ s → u < 256 → eqb (s * 65536 + u) v ≡ eqb u (v % 65536)
same_move s u v e l = elim (same_or u (v % 65536)) [
  | inl q ↦ eq-eqb (s * 65536 + u) v (omega arith) ∙ sym (eq-eqb u (v % 65536) q)
  | inr q ↦ ne_eqb (s * 65536 + u) v (λ r. q (omega arith)) ∙ sym (ne_eqb u (v % 65536) q)
]

module _ (vs : List ℕ) (v : ℕ) where
  row_same : (s : ℕ) → v / 65536 ≡ s → s < 256 → row_of_entries (vs ++ (v ∷ [])) s ≡ with 256 (row (rows_of_entries vs) s) (v % 65536)
  unfolding with row_of_entries
  row_same s e h =
      rw (row_is vs s h)
      (set-ext 256 _ _ (λ u l. among-more vs v (s * 65536 + u)
      ∙ ap₂ ◌||◌ (sym (member_of 256 (omega arith) (λ u. among vs (s * 65536 + u)) u l)) (same_move s u v e l)))

  row_other : (s : ℕ) → v / 65536 ≢ s → row_of_entries (vs ++ (v ∷ [])) s ≡ row_of_entries vs s
  unfolding row_of_entries
  row_other s n =
      set-ext 256 _ _ (λ u l. among-more vs v (s * 65536 + u)
      ∙ ap (λ b. among vs (s * 65536 + u) || b) (ne_eqb (s * 65536 + u) v (λ r. n (omega arith))) ∙ or-false (among vs (s * 65536 + u)))

  -- one move more
  abbrev from : ℕ
  from = v / 65536

  abbrev new : Set
  new = with 256 (row (rows_of_entries vs) from) (v % 65536)

  four : length new ≡ 4
  four = length-with (row (rows_of_entries vs) from) (v % 65536)

  wide : length (sets (rows_of_entries vs) (4 * from) new) ≡ 1024
  wide = length-sets (rows_of_entries vs) (4 * from) new ∙ length-rows vs

  word : (s q : ℕ) → s < 256 → q < 4 → (from ≡ s) ⊎ (from ≢ s)
      → get_or (sets (rows_of_entries vs) (4 * from) new) (4 * s + q) 0 ≡ get_or (row_of_entries (vs ++ (v ∷ [])) s) q 0
  word s q h l (inl e) =
      rw (row_same s e h, ← e) (sets_at 0 new (rows_of_entries vs) (4 * from) q (omega (arith, four)) (omega (arith, length-rows vs)))
  word s q h l (inr n) =
      rw (row_other s n) (elim (lt_or_ge s from) [
        | inl a ↦ sets_before 0 new (rows_of_entries vs) (4 * from) (4 * s + q) (omega arith) ∙ rows_at vs s q h l
        | inr a ↦ sets_after 0 new (rows_of_entries vs) (4 * from) (4 * s + q) (omega (arith, four, n)) ∙ rows_at vs s q h l
      ])

  pub rows_more : with_move (rows_of_entries vs) from (v % 65536) true ≡ rows_of_entries (vs ++ (v ∷ []))
  unfolding with_move
  rows_more = ext_get_or 0 _ _ (wide ∙ sym (length-rows (vs ++ (v ∷ [])))) at
    where
      at : (j : ℕ) → j < length (sets (rows_of_entries vs) (4 * from) new)
          → get_or (sets (rows_of_entries vs) (4 * from) new) j 0 ≡ get_or (rows_of_entries (vs ++ (v ∷ []))) j 0
      at j h =
          let m : j < 1024 = omega (arith, wide) in
          let e : 4 * (j / 4) + j % 4 ≡ j = omega arith in
          rw (← e)
          (word (j / 4) (j % 4) (omega arith) (omega arith) (same_or from (j / 4))
          ∙ sym (rows_at (vs ++ (v ∷ [])) (j / 4) (j % 4) (omega arith) (omega arith)))

empty-at : (q : ℕ) → q < 4 → get_or empty q 0 ≡ 0
unfolding empty
empty-at zero l = refl
empty-at (suc zero) l = refl
empty-at (suc (suc zero)) l = refl
empty-at (suc (suc (suc zero))) l = refl
empty-at (suc (suc (suc (suc q)))) l = absurd (omega arith)

-- no moves
pub rows_none : tabulate 1024 (λ j. 0) ≡ rows_of_entries []
unfolding rows_of_entries rows_of row_of_entries among
rows_none =
    tabulate-ext 0 1024 _ _
    (λ j l. sym (empty-at (j % 4) (omega arith)) ∙ ap (λ (x : Set). get_or x (j % 4) 0) (set-of_none (λ u. false) (λ u. refl)))

-- .. as n zeros
zeros : (n : ℕ) → tabulate {A = ℕ} n (λ j. 0) ≡ replicate n 0
unfolding tabulate
zeros zero = refl
zeros (suc n) = ap (λ (l : List ℕ). 0 ∷ l) (zeros n)

pub zeros-none : (n : ℕ) → n ≡ 1024 → replicate n 0 ≡ rows_of_entries []
zeros-none n e = sym (zeros n) ∙ ap (λ (k : ℕ). tabulate {A = ℕ} k (λ j. 0)) e ∙ rows_none

-- ---- the loop of `set_of` at entry i
pub record Gathering (b : List ℕ) (start k : ℕ) (x : Set) (i : ℕ) : Type 0 where
  pub in-range : i ≤ k
  pub is : x ≡ set_of_entries (values (number 0) b start i)

module _ (b : List ℕ) (start k : ℕ) where
  pub gather_begins : Gathering b start k (0 ∷ 0 ∷ 0 ∷ 0 ∷ []) 0
  unfolding empty
  gather_begins = record { in-range = omega arith; is = set-none ∙ ap set_of_entries (sym (values-none (number 0) b start)) }

  pub gather_goes : (x : Set) (i : ℕ) → Gathering b start k x i → i < k → (s : ℕ) → s ≡ bits16 b (start + i * 2)
      → (x' : Set) → x' ≡ with 256 x s → Gathering b start k x' (i + 1)
  gather_goes x i v l s e x' q = record {
    in-range = omega arith;
    is =
        q ∙ ap₂ (with 256) v.is e
        ∙ set_more (values (number 0) b start i) (bits16 b (start + i * 2))
        ∙ ap set_of_entries (sym (values-more (number 0) b start i));
  }

  pub gather_ends : (x : Set) (i : ℕ) → Gathering b start k x i → k ≤ i → x ≡ set_of_entries (values (number 0) b start k)
  gather_ends x i v l = let e : i ≡ k = omega (arith, v.in-range) in rw e at v.is

-- ---- the loop of `fill_moves` at entry i
pub record Adding (b : List ℕ) (start k : ℕ) (rows : List ℕ) (i : ℕ) : Type 0 where
  pub in-range : i ≤ k
  pub is : rows ≡ rows_of_entries (values (move 0) b start i)

module _ (b : List ℕ) (start k : ℕ) (rows : List ℕ) where
  pub add_begins : rows ≡ rows_of_entries [] → Adding b start k rows 0
  add_begins e = record { in-range = omega arith; is = e ∙ ap rows_of_entries (sym (values-none (move 0) b start)) }

  -- a move from s to u
  pub add_goes : (i : ℕ) → Adding b start k rows i → i < k → (s u : ℕ) → s ≡ bits16 b (start + i * 4)
      → u ≡ bits16 b (start + i * 4 + 2) → u < 65536 → (rows' : List ℕ) → rows' ≡ with_move rows s u true → Adding b start k rows' (i + 1)
  unfolding move_entry
  add_goes i v l s u es eu small rows' r =
      let entry = move_entry b (start + i * 4) in
      let f : s ≡ entry / 65536 = omega arith in
      let g : u ≡ entry % 65536 = omega arith in
      record {
        in-range = omega arith;
        is =
            r ∙ rw (v.is, f, g) (rows_more (values (move 0) b start i) entry)
            ∙ ap rows_of_entries (sym (values-more (move 0) b start i));
      }

  pub add_ends : (i : ℕ) → Adding b start k rows i → k ≤ i → rows ≡ rows_of_entries (values (move 0) b start k)
  add_ends i v l = let e : i ≡ k = omega (arith, v.in-range) in rw e at v.is

-- ---- a loop that fills n places of l with h, at place i
pub record FilledTo {A : Type 0} (d : A) (h : ℕ → A) (l x : List A) (n i : ℕ) : Type 0 where
  pub in-range : i ≤ n
  pub so_far : Filled d h l x i

module _ {A : Type 0} (d : A) (h : ℕ → A) (l : List A) (n : ℕ) where
  pub fill_begins : FilledTo d h l l n 0
  fill_begins = record { in-range = omega arith; so_far = fill_none d h l }

  module _ (x : List A) (i : ℕ) (f : FilledTo d h l x n i) (m : length l ≡ n) where
    pub fill_goes : (v : A) → i < n → v ≡ h i → FilledTo d h l (set x i v) n (i + 1)
    fill_goes v k e = record { in-range = omega arith; so_far = fill_more d h l x i v f.so_far (omega arith) e }

    pub fill_ends : n ≤ i → x ≡ tabulate n h
    fill_ends k = fill_all d h l x i n f.so_far k m

-- ---- angles and modes, from the entry q of a state
abbrev pub angle_of : List ℕ → ℕ → ℤ
angle_of vs s = signed (get_or vs s 0 / 256)

abbrev pub mode_of : List ℕ → ℕ → ℕ
mode_of vs s = get_or vs s 0 % 256

-- what stands at state i of N, 0 from N on; m is the mode's byte
module _ (b : List ℕ) (N i : ℕ) where
  abbrev all : List ℕ
  all = values state b 2 N

  entry_in : i < N → get_or all i 0 ≡ bits16 b (2 + i * 3) * 256 + get_or b (2 + i * 3 + 2) 0
  unfolding values state_entry
  entry_in l = tabulate-at N (λ i. state_entry b (2 + i * 3)) 0 i l

  entry-out : N ≤ i → get_or all i 0 ≡ 0
  unfolding values
  entry-out l = tabulate-past N (λ i. state_entry b (2 + i * 3)) 0 i l

  module _ (small : get_or b (2 + i * 3 + 2) 0 < 256) where
    pub angle_in : i < N → signed (bits16 b (2 + i * 3)) ≡ angle_of all i
    angle_in l = let e : bits16 b (2 + i * 3) ≡ get_or all i 0 / 256 = omega (arith, entry_in l) in ap signed e

    pub mode_in : i < N → get_or b (2 + i * 3 + 2) 0 ≡ mode_of all i
    mode_in l = omega (arith, entry_in l)

  pub angle-out : N ≤ i → pos 0 ≡ angle_of all i
  unfolding signed
  angle-out l = rw (entry-out l)

  pub mode-out : N ≤ i → 0 ≡ mode_of all i
  mode-out l = omega (arith, entry-out l)
