-- A test of two sets by the code looks at all 256 places, one of the definitions at those below N. They say the same where the first set
-- holds nothing from N up.
use Rattle.std.specs.Prelude.{ℕ, List, ◌≡◌}
use Rattle.moves.specs.Wide.{forward256, backward256}
use Rattle.rules.specs.Buffer.{decode}
use Rattle.rules.specs.Table.{Table, f, g}
use Rattle.sets.specs.Sets.{Set, within}

-- .. as do the sets of a sound table and of a buffer that has its shape, and what f and g make of any set
pub record Widths (t : Table) (b : List ℕ) : Type 0 where
  pub x : (j : ℕ) (u : Set) → within 256 ((decode b).x j) u ≡ within t.size ((decode b).x j) u
  pub starts : (u : Set) → within 256 t.starts u ≡ within t.size t.starts u
  pub safe : (u : Set) → within 256 t.safe u ≡ within t.size t.safe u
  pub forward : (x u : Set) → within 256 (forward256 t.size t.rows x) u ≡ within t.size (f t x) u
  pub backward : (u y : Set) → within 256 (backward256 t.size t.rows u) y ≡ within t.size (g t u) y
