-- The demands of the letter on a run, in its order; proofs/Demands.antt proves each.
use Rattle.std.specs.Prelude.{ℕ, ◌+◌, ◌*◌, ◌≤◌, ◌<◌, true, List, ◌↔◌, ◌≢◌, ◌≡◌, length}
use Rattle.rules.specs.Buffer.{encode, each, conditions, entry_check, Normal}
use Rattle.rules.specs.Published.{Step, BySlide, Conclusive}
use Rattle.rules.specs.Rules.{fresh, conclusion, due, allowed, house, fire, State, Standing, Rule, safe, reached, unfinished}
use Rattle.rules.specs.Runs.{followed_by, choose, run, Ran}
use Rattle.rules.specs.ShownWalk.{shown_walk}
use Rattle.rules.specs.Table.{f, g, Table}
use Rattle.rules.specs.Walks.{Walked, Bad, BadReached, RealWalk, Closed}
use Rattle.sets.specs.Sets.{Set, within, Proper}

-- a run that ended: it says safe, or it says reached
pub data Ended : Standing → Type 0 where
  ended_safe : (j : ℕ) → Ended (safe j)
  ended_reached : Ended reached

-- the same verdict
pub data Same : Standing → Standing → Type 0 where
  same_safe : (i j : ℕ) → Same (safe i) (safe j)
  same_reached : Same reached reached

-- 2·N·N + 2·N
abbrev pub bound : ℕ → ℕ
bound N = 2 * (N * N) + 2 * N

module _ (t : Table) where
  -- the conditions of the entry check hold
  abbrev pub Passes : State → Type 0
  Passes s = each (conditions t s) ≡ true

  -- f(X) is within Y exactly when X is within g(Y); both are monotone
  pub record Adjoint : Type 0 where
    pub exactly : (X Y : Set) → within t.size (f t X) Y ≡ within t.size X (g t Y)
    pub f_grows : (X Y : Set) → within t.size X Y ≡ true → within t.size (f t X) (f t Y) ≡ true
    pub g_grows : (X Y : Set) → within t.size X Y ≡ true → within t.size (g t X) (g t Y) ≡ true

  -- a fresh run passes the entry check; every rule keeps it, under every choice allowed; the house choice is one
  pub record Kept : Type 0 where
    pub fresh_passes : Passes (fresh t)
    pub rules_keep : (s : State) (z : Set) → Passes s → conclusion t s ≡ unfinished → allowed t (due t s) s z ≡ true → Passes (fire t.size (due t s) s z)
    pub house_allowed : (s : State) → Passes s → conclusion t s ≡ unfinished → allowed t (due t s) s (house t (due t s) s) ≡ true
    -- a run that has not concluded has a place for another set
    pub room : (s : State) → Passes s → conclusion t s ≡ unfinished → s.n ≤ t.size + 1

  -- a choice allowed makes a step of the published rules; every step of theirs is the rule due, with a choice allowed
  pub record Published : Type 0 where
    pub is_step : (s : State) (z : Set) → Passes s → conclusion t s ≡ unfinished → allowed t (due t s) s z ≡ true
        → Step t s (due t s) z (fire t.size (due t s) s z)
    pub step_is : (s : State) (rule : Rule) (z : Set) (s' : State) → Passes s → Step t s rule z s'
        → (conclusion t s ≡ unfinished) × (rule ≡ due t s) × (allowed t rule s z ≡ true) × (s' ≡ fire t.size rule s z)

  -- so many steps of the published rules, each with the set that the hints at hand give it (`choose` of specs/Runs.antt);
  -- so many hints taken and so many used, the hints before and the hints left
  pub data Steps : ℕ → ℕ → ℕ → List Set → State → List Set → State → Type 0 where
    no_step : {hints : List Set} {s : State} → Steps 0 0 0 hints s hints s
    one_more : {m taken used : ℕ} {hints left : List Set} {s s' s'' : State} {rule : Rule}
        → Step t s rule (choose t hints s).set s'
        → Steps m taken used (choose t hints s).left s' left s''
        → Steps (1 + m) ((choose t hints s).taken + taken) ((choose t hints s).used + used) hints s left s''

  -- the published rules under these hints, from a state on, to where x or y is conclusive
  pub record Course (hints : List Set) (s : State) : Type 0 where
    pub rules : ℕ
    pub taken : ℕ
    pub used : ℕ
    pub left : List Set
    pub end : State
    pub steps : Steps rules taken used hints s left end
    pub conclusive : Conclusive t end

  -- the hints and the state decide the steps: sequences that end conclusive have one length, one count of hints taken and used,
  -- and one end; and there is one, of at most 2·N·N + 2·N steps
  pub record Decided (hints : List Set) (s : State) : Type 0 where
    pub once : (c c' : Course hints s)
        → (c.rules ≡ c'.rules) × (c.taken ≡ c'.taken) × (c.used ≡ c'.used) × (c.left ≡ c'.left) × (c.end ≡ c'.end)
    pub ends : (c : Course hints s) × (c.rules ≤ bound t.size)

  -- what a run answers: what it came to, and the set or the walk that it shows
  module _ (s : State) (budget : ℕ) (hints : List Set) (o : Ran) (set : Set) (walk : List ℕ) where
    -- demand 2
    pub record Demand2 : Type 0 where
      -- the rules fired are those published, with the choices that the hints make, and the numbers are as reported
      pub rules_published : Steps o.rules o.taken o.used hints s o.left o.state
      -- it says how the state that it leaves stands, and is unfinished only where the budget is spent
      pub stands : BySlide t o.state o.standing
      pub spent : o.standing ≡ unfinished → o.rules ≡ budget
      -- the set shown is x_j of that state, the walk shown is its walk
      pub set_is : (j : ℕ) → o.standing ≡ safe j → set ≡ o.state.x j
      pub walk_is : o.standing ≡ reached → walk ≡ shown_walk t o.state
      -- safe: the reason holds every start, no bad state, and every move out of its own members
      pub safe_reason : (j : ℕ) → o.standing ≡ safe j → Closed t set
      -- reached: it shows a real walk
      pub reached_walk : o.standing ≡ reached → RealWalk t walk
      -- a run that ends says safe exactly when no bad state can be reached
      pub exactly : Ended o.standing → ((j : ℕ) × (o.standing ≡ safe j)) ↔ (BadReached t → ⊥)

    -- demand 3
    pub record Demand3 : Type 0 where
      -- it ends if the budget allows 2·N·N + 2·N rules, and never fires more
      pub ends : bound t.size ≤ budget → Ended o.standing
      pub in_bound : o.rules ≤ bound t.size
      -- it fires at most the budget's number of rules
      pub in_budget : o.rules ≤ budget
      -- the number reported is the number the published rules take under those hints
      pub counted : (c : Course hints s) → Ended o.standing → (o.rules ≡ c.rules) × (o.taken ≡ c.taken) × (o.used ≡ c.used)
      -- "unfinished" exactly when the published rules under these hints need more than the budget
      pub unfinished_exactly : (c : Course hints s) → (o.standing ≡ unfinished) ↔ (budget < c.rules)
      -- a walk shown has the fewest states of any walk from a start to a bad state
      pub fewest : o.standing ≡ reached → (m u : ℕ) → Walked t m u → Bad t u → length walk ≤ m

  -- demand 2 leaves one answer within the budget, and one set or walk that it shows
  pub record OneAnswer (s : State) (budget : ℕ) (hints : List Set) : Type 0 where
    pub one : (o o' : Ran) (set set' : Set) (walk walk' : List ℕ) → Demand2 s budget hints o set walk → Demand2 s budget hints o' set' walk'
        → o.rules ≤ budget → o'.rules ≤ budget
        → (o ≡ o') × ((j : ℕ) → o.standing ≡ safe j → set ≡ set') × (o.standing ≡ reached → walk ≡ walk')

  -- the verdict of a run that ends is the same for all hints, budgets and runs that pass the entry check
  pub record SameVerdict (o o' : Ran) : Type 0 where
    pub same : Ended o.standing → Ended o'.standing → Same o.standing o'.standing

  -- hints and budget
  pub record Budget (s : State) (budget : ℕ) (hints : List Set) : Type 0 where
    -- a budget, then more with the hints that remain, ends as both together do, the numbers added
    pub split : (more : ℕ) → run t (budget + more) hints s
        ≡ followed_by (run t budget hints s) (run t more (run t budget hints s).left (run t budget hints s).state)
    -- a budget of 0 on a concluded run gives the verdict
    pub concluded_at_once : conclusion t s ≢ unfinished → (run t 0 hints s).standing ≡ conclusion t s

  -- a buffer of 2,066 words passes the entry check exactly when it holds a state that meets the conditions, and then one
  pub record Encoding (b : List ℕ) : Type 0 where
    pub holds : entry_check t b ≡ true → (s : State) × (encode s ≡ b) × Normal t.size s × Passes s
    pub passes : (s : State) → encode s ≡ b → Normal t.size s → Passes s → entry_check t b ≡ true
    pub one : (s s' : State) → encode s ≡ b → encode s' ≡ b → Normal t.size s → Normal t.size s' → Passes s → Passes s' → s ≡ s'

  -- after every rule words not in use are 0: the next state's words pass again
  pub record Rewritten : Type 0 where
    pub again : (s : State) (z : Set) → Passes s → Normal t.size s → conclusion t s ≡ unfinished → Proper t.size z → allowed t (due t s) s z ≡ true
        → entry_check t (encode (fire t.size (due t s) s z)) ≡ true
