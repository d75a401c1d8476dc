-- Demands 2 and 3 of the letter, restated of what `run` promises: words in, words out.
use Rattle.std.specs.Prelude.{ℕ, ◌+◌, ◌-◌, ◌^◌, ◌≤◌, ◌<◌, true, List, Result, ◌↔◌, ◌⊎◌, ◌≡◌, length, get_or, take}
use Rattle.answers.specs.Answer.{refused, given}
use Rattle.answers.specs.declared.Refusal.{Refusal}
use Rattle.sets.specs.Sets.{Set, Proper, in_range}
use Rattle.rules.specs.Table.{Table, sound_table}
use Rattle.rules.specs.Walks.{Walked, Bad, BadReached, RealWalk, Closed}
use Rattle.rules.specs.Buffer.{decode, entry_check}
use Rattle.rules.specs.Demands.{bound, Steps, Course}
use Rattle.rules.specs.Published.{ConclusiveX, ConclusiveY, Conclusive, ConclusiveAt, Step}
use Rattle.rules.specs.Rules.{Rule}
use Rattle.rules.specs.ShownWalk.{shown_walk}
use Rattle.runs.specs.declared.RunAnswer.{RunAnswer}
use Rattle.runs.specs.Said.{safe_with, reached_with, not_ended, said, rules_of, taken_of, used_of}
use Rattle.runs.specs.Hints.{hints_at}
use Rattle.runs.specs.Promises.{lengths_ok}

-- an answer that is a refusal
abbrev pub Refuses : Result RunAnswer Refusal → Type 0
Refuses r = (k : ℕ) × (said r ≡ refused k)

-- a sound table, a run buffer that passes the entry check, hints good or bad, and buffers of the right lengths
pub record Lent (t : Table) (hints b set walk : List ℕ) : Type 0 where
  pub starts : Proper 256 t.starts
  pub safe : Proper 256 t.safe
  pub range : in_range t.size ≡ true
  pub rows : length t.rows ≡ 1024
  pub sound : sound_table t ≡ true
  pub long : length b ≡ 2066
  pub words : (i : ℕ) → get_or b i 0 < 2 ^ 64
  pub entry : entry_check t b ≡ true
  pub hint_words : (i : ℕ) → get_or hints i 0 < 2 ^ 64
  pub lengths : lengths_ok hints set walk ≡ true

-- what a caller knows without a look at the definitions: what it lent is words of 64 bits, and the answer is no refusal
pub record Known (t : Table) (hints b : List ℕ) (r : Result RunAnswer Refusal) : Type 0 where
  pub starts : Proper 256 t.starts
  pub safe : Proper 256 t.safe
  pub words : (i : ℕ) → get_or b i 0 < 2 ^ 64
  pub hint_words : (i : ℕ) → get_or hints i 0 < 2 ^ 64
  pub not_refused : Refuses r → ⊥

-- the run says safe; it says reached, with m states
abbrev pub SaysSafe : Result RunAnswer Refusal → Type 0
SaysSafe r = (j : ℕ) × (said r ≡ given (safe_with j))

abbrev pub SaysReached : Result RunAnswer Refusal → ℕ → Type 0
SaysReached r m = said r ≡ given (reached_with m)

-- it ended: "unfinished" is no verdict
abbrev pub Ends : Result RunAnswer Refusal → Type 0
Ends r = SaysSafe r ⊎ ((m : ℕ) × SaysReached r m)

-- where a run stops, in the slide's words, of the state that its buffer then holds
module _ (t : Table) (b' : List ℕ) where
  -- safe: x is conclusive at j, the smallest, and the set written is x_j
  pub record StopsSafe (set' : List ℕ) (j : ℕ) : Type 0 where
    pub conclusive : ConclusiveAt t (decode b') j
    pub set_is : set' ≡ (decode b').x j

  -- reached: y is conclusive and x is not, and the first n-1 places of the walk hold its walk
  pub record StopsReached (walk' : List ℕ) (m : ℕ) : Type 0 where
    pub open_x : ConclusiveX t (decode b') → ⊥
    pub conclusive : ConclusiveY t (decode b')
    pub states : m ≡ (decode b').n - 1
    pub walk_is : take m walk' ≡ shown_walk t (decode b')

  -- unfinished: neither is conclusive, and the budget is spent
  pub record StopsUnfinished (budget rules : ℕ) : Type 0 where
    pub neither : Conclusive t (decode b') → ⊥
    pub spent : rules ≡ budget

pub record RunDemand2 (t : Table) (hints : List ℕ) (budget : ℕ) (b b' set' walk' : List ℕ) (r : Result RunAnswer Refusal) : Type 0 where
  -- what was lent as it must be is not refused
  pub not_refused : Refuses r → ⊥
  -- the rules fired are those published, with the choices that the hints make; the numbers are as reported, the hints left
  -- are those after the hints taken, and the buffer holds the state after the last rule
  pub rules_published : Steps t (rules_of r) (taken_of r) (used_of r) (hints_at hints 0) (decode b) (hints_at hints (taken_of r)) (decode b')
  -- .. and passes the entry check again, so that words not in use are 0
  pub enters : entry_check t b' ≡ true
  -- it says what the state in the buffer says, and shows its set or its walk
  pub safe_there : (j : ℕ) → said r ≡ given (safe_with j) → StopsSafe t b' set' j
  pub reached_there : (m : ℕ) → SaysReached r m → StopsReached t b' walk' m
  pub unfinished_there : said r ≡ given not_ended → StopsUnfinished t b' budget (rules_of r)
  -- safe: the set written holds every start, no bad state, and every move out of its own members
  pub safe_reason : SaysSafe r → Closed t set'
  -- reached: the states written are a real walk
  pub reached_walk : (m : ℕ) → SaysReached r m → RealWalk t (take m walk')
  -- a run that ends says safe exactly when no bad state can be reached
  pub exactly : Ends r → SaysSafe r ↔ (BadReached t → ⊥)

pub record RunDemand3 (t : Table) (hints : List ℕ) (budget : ℕ) (b : List ℕ) (r : Result RunAnswer Refusal) : Type 0 where
  -- it ends if the budget allows 2·N·N + 2·N rules, and never fires more
  pub ends : bound t.size ≤ budget → Ends r
  pub in_bound : rules_of r ≤ bound t.size
  -- it fires at most the budget's number of rules
  pub in_budget : rules_of r ≤ budget
  -- the number reported is the number the published rules take under those hints
  pub counted : (c : Course t (hints_at hints 0) (decode b)) → Ends r → (rules_of r ≡ c.rules) × (taken_of r ≡ c.taken) × (used_of r ≡ c.used)
  -- "unfinished" exactly when the published rules under these hints need more than the budget
  pub unfinished_exactly : (c : Course t (hints_at hints 0) (decode b)) → (said r ≡ given not_ended) ↔ (budget < c.rules)
  -- a walk shown has the fewest states of any walk from a start to a bad state
  pub fewest : (m : ℕ) → SaysReached r m → (states u : ℕ) → Walked t states u → Bad t u → m ≤ states

-- a single rule: what it fired is a published step with the set proposed, which Unfold ignores, and the buffer it leaves passes the
-- entry check again
pub record SingleDemand (t : Table) (z : Set) (b b' : List ℕ) (rule : Rule) : Type 0 where
  pub published : Step t (decode b) rule z (decode b')
  pub enters : entry_check t b' ≡ true

-- two runs on one table, with any hints and budgets, from any buffers that pass the entry check, never disagree
pub record SameVerdict (r r' : Result RunAnswer Refusal) : Type 0 where
  pub both_safe : SaysSafe r → Ends r' → SaysSafe r'
  pub both_reached : (m : ℕ) → SaysReached r m → Ends r' → SaysReached r' m

-- b1 rules, then b2 with the hints that remain, end as b1 + b2 do, the numbers added, whatever set and walk each is lent
pub record SplitAnswer (r r₁ r₂ : Result RunAnswer Refusal) (b b₂ : List ℕ) : Type 0 where
  pub outcome : said r ≡ said r₂
  pub rules : rules_of r ≡ rules_of r₁ + rules_of r₂
  pub taken : taken_of r ≡ taken_of r₁ + taken_of r₂
  pub used : used_of r ≡ used_of r₁ + used_of r₂
  pub buffer : b ≡ b₂

-- .. and where the second is lent the set and the walk that the first left, these too end the same
pub record SplitBudget (r r₁ r₂ : Result RunAnswer Refusal) (b b₂ set set₂ walk walk₂ : List ℕ) : Type 0 where
  pub answer : SplitAnswer r r₁ r₂ b b₂
  pub set_same : set ≡ set₂
  pub walk_same : walk ≡ walk₂
