-- What is wanted, said without the search: walks, states that can be reached, and sets that no move leaves.
use Rattle.std.specs.Prelude.{ℕ, suc, ◌<◌, true, false, List, [], ◌∷◌, ◌≡◌}
use Rattle.sets.specs.Sets.{Set, member}
use Rattle.rules.specs.Table.{Table, leads}

module _ (t : Table) where
  -- some walk of m states goes from a start to u
  pub data Walked : ℕ → ℕ → Type 0 where
    start : {u : ℕ} → u < t.size → member t.starts u ≡ true → Walked 1 u
    move : {m s u : ℕ} → Walked m s → u < t.size → leads t.rows s u ≡ true → Walked (suc m) u

  -- a bad state: below N and not in P
  pub record Bad (u : ℕ) : Type 0 where
    pub below : u < t.size
    pub unsafe : member t.safe u ≡ false

  -- some walk reaches a bad state
  pub record BadReached : Type 0 where
    pub states : ℕ
    pub last : ℕ
    pub walked : Walked states last
    pub bad : Bad last

  -- w lists the states of a walk from s, one move from each to the next, to a bad state
  pub data LeadsToBad : ℕ → List ℕ → Type 0 where
    arrived : {s : ℕ} → Bad s → LeadsToBad s (s ∷ [])
    onward : {s u : ℕ} {w : List ℕ} → s < t.size → leads t.rows s u ≡ true → LeadsToBad u w → LeadsToBad s (s ∷ w)

  -- a real walk, from a start to a bad state
  pub record RealWalk (w : List ℕ) : Type 0 where
    pub first : ℕ
    pub start : member t.starts first ≡ true
    pub moves : LeadsToBad first w

  -- x holds every start, no bad state, and every move out of its own members
  pub record Closed (x : Set) : Type 0 where
    pub starts : (s : ℕ) → s < t.size → member t.starts s ≡ true → member x s ≡ true
    pub safe : (s : ℕ) → s < t.size → member x s ≡ true → member t.safe s ≡ true
    pub moves : (s u : ℕ) → s < t.size → u < t.size → member x s ≡ true → leads t.rows s u ≡ true → member x u ≡ true
