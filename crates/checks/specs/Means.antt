-- What the listing of `check` means, in the words of the demands, for a file that is taken. proofs/Means.antt proves it.
use Rattle.std.specs.Prelude.{ℕ, ◌≤◌, List, [], ◌↔◌, ◌≡◌, length}
use Rattle.sets.specs.Sets.{Set}
use Rattle.rules.specs.Demands.{Course}
use Rattle.rules.specs.Rules.{fresh}
use Rattle.rules.specs.Walks.{Walked, Bad, BadReached, RealWalk, Closed}
use Rattle.moves.specs.Models.{Control}
use Rattle.tables.specs.Control.{control_of}
use Rattle.tables.specs.Format.{Contents, taken, contents}
use Rattle.listings.specs.Listing.{safe_listing, reached_listing}
use Rattle.checks.specs.Check.{check_listing}

-- line 2 says safe: the listing is that of a safe run with some j, count of rules and set
pub record ListsSafe (c : Control) (bytes : List ℕ) : Type 0 where
  pub j : ℕ
  pub rules : ℕ
  pub set : Set
  pub is : bytes ≡ safe_listing c.table j rules set
  -- the count is that of the published rules from a fresh run, without hints
  pub counted : (k : Course c.table [] (fresh c.table)) → rules ≡ k.rules
  -- the members listed are those of a set that holds every start, no bad state, and every move out of its own members
  pub closed : Closed c.table set

-- line 2 says reached: the listing is that of a reached run with some count of rules and walk
pub record ListsReached (c : Control) (bytes : List ℕ) : Type 0 where
  pub rules : ℕ
  pub walk : List ℕ
  pub is : bytes ≡ reached_listing c rules walk
  pub counted : (k : Course c.table [] (fresh c.table)) → rules ≡ k.rules
  -- the walk listed is real, and has the fewest states of any walk from a start to a bad state
  pub real : RealWalk c.table walk
  pub fewest : (m u : ℕ) → Walked c.table m u → Bad c.table u → length walk ≤ m

-- of a control table and what is listed of it
pub record Means (c : Control) (bytes : List ℕ) : Type 0 where
  -- line 2 says safe exactly when no bad state can be reached, and reached exactly when one can
  pub safe_exactly : ListsSafe c bytes ↔ (BadReached c.table → ⊥)
  pub reached_exactly : ListsReached c bytes ↔ BadReached c.table
  -- no listing says both: a safe listing's second line is no reached one's
  pub not_both : (j rules : ℕ) (set : Set) (count : ℕ) (walk : List ℕ) → bytes ≡ safe_listing c.table j rules set
      → bytes ≡ reached_listing c count walk → ⊥

-- of a file that is taken, its table and what `check` lists of the file
pub record CheckMeans : Type 0 where
  pub means : (file : List ℕ) (l : Contents) → contents file ≡ taken l → Means (control_of l) (check_listing file)
