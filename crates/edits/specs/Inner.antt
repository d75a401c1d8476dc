-- For the crate's own use: what a state, a word of a row and a whole row add to the second table.
use Rattle.std.specs.Prelude.{ℕ, ◌/◌, ◌%◌, ◌<◌, ◌&&◌, ◌||◌, List, ◌≡◌, eqb, length}
use Rattle.rules.specs.Table.{leads}
use Rattle.sets.specs.Sets.{Set, Words, member, bit}

-- s is put into row t
pub record StatePut (second second' : List ℕ) (t s : ℕ) : Type 0 where
  pub long : length second' ≡ 1024
  pub words : Words second → Words second'
  pub at : (a v : ℕ) → a < 256 → v < 256 → leads second' a v ≡ (leads second a v || (eqb a t && eqb v s))

-- s is put into each row t of the 64 from 64 q up where w has the bit of t
pub record LedIn (second second' : List ℕ) (w q s : ℕ) : Type 0 where
  pub long : length second' ≡ 1024
  pub words : Words second → Words second'
  pub at : (t v : ℕ) → t < 256 → v < 256 → leads second' t v ≡ (leads second t v || (eqb v s && (eqb (t / 64) q && bit w (t % 64))))

-- s is put into each row t that its own row x holds
pub record LedAll (second second' : List ℕ) (x : Set) (s : ℕ) : Type 0 where
  pub long : length second' ≡ 1024
  pub words : Words second → Words second'
  pub at : (t v : ℕ) → t < 256 → v < 256 → leads second' t v ≡ (leads second t v || (eqb v s && member x t))
