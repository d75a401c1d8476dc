-- The run buffer: 2,066 words that hold a state, and the entry check as a test on those words.
use Rattle.std.specs.Prelude.{ℕ, suc, ◌+◌, ◌-◌, ◌*◌, ◌≤◌, ◌<◌, ◌/◌, ◌%◌, Bool, true, not, ◌&&◌, cond, ◌||◌, List, [], ◌∷◌, ◌++◌, ◌≡◌, ltb, leb, get_or}
use Rattle.rules.specs.Rules.{state, State}
use Rattle.rules.specs.Table.{f, g, Table}
use Rattle.sets.specs.Lists.{tabulate}
use Rattle.sets.specs.Search.{all}
use Rattle.sets.specs.Sets.{Set, empty, within, sound, quad, Proper}

-- 258 sets, four words each
unfoldable pub flat : (ℕ → Set) → List ℕ
flat x = tabulate 1032 (λ i. get_or (x (i / 4)) (i % 4) 0)

-- word 0 is n, word 1 is k, x_j starts at word 2 + 4·j, y_j at word 1,034 + 4·j
unfoldable pub encode : State → List ℕ
encode s = s.n ∷ s.k ∷ (flat s.x ++ flat s.y)

-- the state that words hold
unfoldable pub decode : List ℕ → State
decode b =
    state (get_or b 0 0) (get_or b 1 0)
    (λ j. cond (ltb j (get_or b 0 0)) (quad b (2 + 4 * j)) empty)
    (λ j. cond (leb (get_or b 1 0) j && ltb j (get_or b 0 0)) (quad b (1034 + 4 * j)) empty)

-- every test of a list passes
unfoldable pub each : List Bool → Bool
each [] = true
each (b ∷ bs) = b && each bs

-- ---- the entry check, in document 01's order
-- n is 2 to N+2 and k is 1 to n
unfoldable pub ranges : ℕ → State → Bool
ranges N s = each (leb 2 s.n ∷ leb s.n (N + 2) ∷ leb 1 s.k ∷ leb s.k s.n ∷ [])

-- every word not in use is 0
module _ (b : List ℕ) where
  unfoldable pub clear_x : ℕ → Bool
  clear_x j = ltb j (get_or b 0 0) || sound 0 (quad b (2 + 4 * j))

  unfoldable pub clear_y : ℕ → Bool
  clear_y j = (leb (get_or b 1 0) j && ltb j (get_or b 0 0)) || sound 0 (quad b (1034 + 4 * j))

  unfoldable pub unused : Bool
  unused = each (all 258 clear_x ∷ all 258 clear_y ∷ [])

-- a condition on y_j, where it is held
unfoldable pub held : ℕ → ℕ → Bool → Bool
held k j b = not (leb k j) || b

-- no set has members from N up: of x_0 .. x_(m-1), and of the held y
abbrev pub sound_x : ℕ → State → ℕ → Bool
sound_x N s m = all m (λ j. sound N (s.x j))

abbrev pub sound_y : ℕ → State → Bool
sound_y N s = all s.n (λ j. held s.k j (sound N (s.y j)))

-- y_(n-1), if held, contains P
abbrev pub topped : ℕ → Set → State → Bool
topped N P s = held s.k (s.n - 1) (within N P (s.y (s.n - 1)))

-- x_j is not within its held y_j
unfoldable pub parts : ℕ → State → ℕ → Bool
parts N s j = held s.k j (not (within N (s.x j) (s.y j)))

module _ (t : Table) (s : State) where
  -- x_j, I and f(x_j) are within x_(j+1)
  unfoldable pub rises : ℕ → Bool
  rises j =
      each (within t.size (s.x j) (s.x (suc j))
      ∷ within t.size t.starts (s.x (suc j))
      ∷ within t.size (f t (s.x j)) (s.x (suc j))
      ∷ [])

  -- g(y_(j+1)) is within y_j for held neighbours
  unfoldable pub falls : ℕ → Bool
  falls j = held s.k j (within t.size (g t (s.y (suc j))) (s.y j))

  -- of x_0 .. x_(m-1): x_0 is empty; each x_j, I and f(x_j) are within x_(j+1); x_(m-2) is within P
  unfoldable pub chain : ℕ → Bool
  chain m = each (within t.size (s.x 0) empty ∷ all (m - 1) rises ∷ within t.size (s.x (m - 2)) t.safe ∷ [])

  -- of y_k .. y_(n-1): y_(n-1) contains P; g(y_(j+1)) is within y_j; no x_j is within y_j
  unfoldable pub obstacles : Bool
  obstacles = each (topped t.size t.safe s ∷ all (s.n - 1) falls ∷ all s.n (parts t.size s) ∷ [])

  -- what is asked of n, k and the order of the sets
  abbrev pub conditions : List Bool
  conditions = ranges t.size s ∷ chain s.n ∷ obstacles ∷ []

-- the entry check of a buffer of 2,066 words
abbrev pub entry_tests : Table → List ℕ → State → List Bool
entry_tests t b s = ranges t.size s ∷ unused b ∷ sound_x t.size s s.n ∷ sound_y t.size s ∷ chain t s s.n ∷ obstacles t s ∷ []

unfoldable pub entry_check : Table → List ℕ → Bool
entry_check t b = each (entry_tests t b (decode b))

-- the sets of a state hold no members from N up, and are empty where none is held
pub record Normal (N : ℕ) (s : State) : Type 0 where
  pub proper_x : (j : ℕ) → Proper N (s.x j)
  pub proper_y : (j : ℕ) → Proper N (s.y j)
  pub x_end : (j : ℕ) → s.n ≤ j → s.x j ≡ empty
  pub y_end : (j : ℕ) → s.n ≤ j → s.y j ≡ empty
  pub y_low : (j : ℕ) → j < s.k → s.y j ≡ empty
