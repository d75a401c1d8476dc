-- The rules as the slide of document 001 prints them, a constructor for each; to be read beside the slide.
use Rattle.std.specs.Prelude.{ℕ, suc, ◌+◌, ◌-◌, ◌<◌, true, ◌⊎◌, ◌≡◌}
use Rattle.sets.specs.Sets.{Set, member, full, empty, meet, join}
use Rattle.rules.specs.Table.{Table, f, g}
use Rattle.rules.specs.Rules.{State, state, put, cut, Rule, Unfold, Candidate, Decide, Conflict, Standing, safe, reached, unfinished}

module _ (t : Table) where
  -- the lattice: sets of states below N
  abbrev pub ◌⊑◌ : Set → Set → Type 0
  a ⊑ b = (s : ℕ) → s < t.size → member a s ≡ true → member b s ≡ true

  abbrev pub ◌⋢◌ : Set → Set → Type 0
  a ⋢ b = (a ⊑ b) → ⊥

  infix 20 ◌⊑◌
  infix 20 ◌⋢◌
  abbrev pub ⊤ : Set
  ⊤ = full t.size

  abbrev pub ◌⊓◌ : Set → Set → Set
  a ⊓ b = meet t.size a b

  abbrev pub ◌⊔◌ : Set → Set → Set
  a ⊔ b = join t.size a b

  infixl 60 ◌⊓◌
  infixl 50 ◌⊔◌
  -- from (x ‖ y)_(n,k), with the set z chosen; y = ε is k = n
  pub data Fires (s : State) (z : Set) : Rule → State → Type 0 where
    by-unfold :
        s.k ≡ s.n
        → s.x (s.n - 1) ⊑ t.safe
        → Fires s z Unfold (state (s.n + 1) (s.n + 1) (put s.x s.n ⊤) s.y)
    by-candidate :
        s.k ≡ s.n
        → s.x (s.n - 1) ⋢ t.safe
        → s.x (s.n - 1) ⋢ z
        → t.safe ⊑ z
        → Fires s z Candidate (state s.n (s.n - 1) s.x (put s.y (s.n - 1) z))
    by-decide :
        s.k < s.n
        → f t (s.x (s.k - 1)) ⋢ s.y s.k
        → s.x (s.k - 1) ⋢ z
        → g t (s.y s.k) ⊑ z
        → Fires s z Decide (state s.n (s.k - 1) s.x (put s.y (s.k - 1) z))
    by-conflict :
        s.k < s.n
        → f t (s.x (s.k - 1)) ⊑ s.y s.k
        → z ⊑ s.y s.k
        → f t (s.x (s.k - 1) ⊓ z) ⊔ t.starts ⊑ z
        → Fires s z Conflict (state s.n (s.k + 1) (cut t.size s.x s.k z) (put s.y s.k empty))

  -- x conclusive: x_(j+1) ⊑ x_j for some j from 0 to n-2
  pub record ConclusiveX (s : State) : Type 0 where
    pub j : ℕ
    pub below : suc j < s.n
    pub is : s.x (suc j) ⊑ s.x j

  -- y conclusive: k = 1 and i ⋢ y_1
  pub record ConclusiveY (s : State) : Type 0 where
    pub one : s.k ≡ 1
    pub is : t.starts ⋢ s.y 1

  -- x conclusive or y conclusive
  abbrev pub Conclusive : State → Type 0
  Conclusive s = ConclusiveX s ⊎ ConclusiveY s

  -- x conclusive at j, and at no smaller place
  pub record ConclusiveAt (s : State) (j : ℕ) : Type 0 where
    pub below : suc j < s.n
    pub is : s.x (suc j) ⊑ s.x j
    pub first : (i : ℕ) → i < j → s.x (suc i) ⋢ s.x i

  -- how a run stands in a state, in the slide's words: safe where x is conclusive, at the smallest j; reached where y is and x is
  -- not; unfinished where neither is
  pub data BySlide (s : State) : Standing → Type 0 where
    by_x : {j : ℕ} → ConclusiveAt s j → BySlide s (safe j)
    by_y : (ConclusiveX s → ⊥) → ConclusiveY s → BySlide s reached
    by_neither : (Conclusive s → ⊥) → BySlide s unfinished

  -- a step: x, y not conclusive, and a rule
  pub record Step (s : State) (rule : Rule) (z : Set) (s' : State) : Type 0 where
    pub open_x : ConclusiveX s → ⊥
    pub open_y : ConclusiveY s → ⊥
    pub fires : Fires s z rule s'
