-- Who leads here? (document 02, 1/12): a second table of 1,024 words beside the move table, row t holding the states with a move to t; a
-- move added or removed in both; g worked out from the second table. proofs/Second.antt proves the laws, `SecondLaws`.
use Rattle.std.specs.Prelude.{ℕ, ◌≤◌, ◌<◌, Bool, true, false, not, ◌&&◌, List, ◌≡◌, eqb, length}
use Rattle.sets.specs.Search.{any, all}
use Rattle.sets.specs.Sets.{Set, Words, member, set_of, full, minus}
use Rattle.rules.specs.Table.{row, leads, rows_of, with_move, sound_rows, backward}

-- the states with a move to t
unfoldable pub into : List ℕ → ℕ → Set
into rows t = set_of 256 (λ s. leads rows s t)

-- the second table: row t holds the states with a move to t
unfoldable pub second_of : List ℕ → List ℕ
second_of rows = rows_of (into rows)

-- the same truth value
unfoldable pub alike : Bool → Bool → Bool
alike true b = b
alike false b = not b

-- the two tables agree in every row and column up to 255
unfoldable pub agree : List ℕ → List ℕ → Bool
agree rows second = all 256 (λ s. all 256 (λ t. alike (leads rows s t) (leads second t s)))

-- the states that lead out of x: the union of the second table's rows over the states outside x
unfoldable pub leading_out : ℕ → List ℕ → Set → Set
leading_out N second x = set_of N (λ s. any N (λ t. not (member x t) && leads second t s))

-- g from the second table: the full set less that union
unfoldable pub backward_by_second : ℕ → List ℕ → Set → Set
backward_by_second N second x = minus N (full N) (leading_out N second x)

-- ---- what agreement says
pub record Agreed (rows second : List ℕ) : Type 0 where
  -- row t holds the states with a move to t
  pub row_is : (t : ℕ) → t < 256 → row second t ≡ into rows t
  -- there is one such table
  pub is : second ≡ second_of rows
  -- it is sound where the move table is
  pub sound : (N : ℕ) → sound_rows N rows ≡ true → sound_rows N second ≡ true
  -- g from it is g
  pub same_g : (N : ℕ) → N ≤ 256 → (x : Set) → backward_by_second N second x ≡ backward N rows x

-- ---- what an edit of two tables that agree leaves: the move from s to t is there or not, both below N
pub record Edited (N : ℕ) (rows second : List ℕ) (s t : ℕ) (there : Bool) : Type 0 where
  -- the one bit of each table
  pub this : (leads (with_move rows s t there) s t ≡ there) × (leads (with_move second t s there) t s ≡ there)
  -- every other bit the same
  pub other : (a b : ℕ) → a < 256 → b < 256 → (eqb a s && eqb b t) ≡ false
      → (leads (with_move rows s t there) a b ≡ leads rows a b) × (leads (with_move second t s there) b a ≡ leads second b a)
  -- 1,024 words of 64 bits, in step, sound
  pub lengths : (length (with_move rows s t there) ≡ 1024) × (length (with_move second t s there) ≡ 1024)
  pub words : Words (with_move rows s t there) × Words (with_move second t s there)
  pub agrees : agree (with_move rows s t there) (with_move second t s there) ≡ true
  pub sound : sound_rows N (with_move rows s t there) ≡ true
  -- the opposite edit gives back both tables, where this one changed something
  pub undone : leads rows s t ≡ not there
      → (with_move (with_move rows s t there) s t (not there) ≡ rows) × (with_move (with_move second t s there) t s (not there) ≡ second)

-- ---- what is proved, of tables of 1,024 words of 64 bits
pub record SecondLaws : Type 0 where
  -- the second table made agrees
  pub made : (rows : List ℕ) → agree rows (second_of rows) ≡ true
  pub agreed : (rows second : List ℕ) → length second ≡ 1024 → Words second → agree rows second ≡ true → Agreed rows second
  -- an edit between two states of a sound table and its second table
  pub edited : (N : ℕ) (rows second : List ℕ) (s t : ℕ) (there : Bool) → N ≤ 256 → length rows ≡ 1024 → length second ≡ 1024 → Words rows → Words second
      → agree rows second ≡ true → sound_rows N rows ≡ true → s < N → t < N → Edited N rows second s t there
