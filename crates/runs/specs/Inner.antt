-- For the crate's own private functions, and no part of what a reader must believe: what they ask for and hand on.
use Rattle.std.specs.Prelude.{ℕ, suc, ◌+◌, ◌-◌, ◌≤◌, ◌<◌, false, List, Result, Ok, Err, ◌≡◌, ◌≢◌, All, length, get_or}
use Rattle.answers.specs.declared.Refusal.{Refusal}
use Rattle.sets.proofs.Within.{Within, Beyond}
use Rattle.sets.specs.Sets.{Set, Proper, empty, minus, meet, smallest}
use Rattle.rules.specs.Table.{Table, g}
use Rattle.rules.specs.Rules.{State, state, put, closes, conclusion, due, house}
use Rattle.rules.specs.Runs as runs
use Rattle.rules.specs.Runs.{choose}
use Rattle.rules.specs.ShownWalk.{or_zero}
use Rattle.rules.specs.Buffer.{encode, decode, Normal}
use Rattle.rules.proofs.Ready.{Spans, Holds, Ready}
use Rattle.runs.specs.declared.Standing.{Standing}
use Rattle.runs.specs.declared.Rule.{Rule}
use Rattle.runs.specs.declared.Rule.TheVariants.{Conflict}
use Rattle.runs.specs.declared.RunAnswer.{RunAnswer}
use Rattle.runs.specs.declared.memo.Kept.{Kept}
use Rattle.runs.specs.declared.memo.Memo.{Memo}
use Rattle.runs.specs.declared.search.Ran.{Ran}
use Rattle.runs.specs.Said.{as_standing, rule_of, said}
use Rattle.runs.specs.Hints.{hints_at, chosen}
use Rattle.runs.specs.Promises.{run_answer, set_after, walk_after, Answered}

module _ (t : Table) (b : List ℕ) where
  -- how the run in the buffer stands; the rule due; its house choice
  abbrev pub Stands : Standing → Type 0
  Stands v = as_standing v ≡ conclusion t (decode b)

  abbrev pub IsDue : Rule → Type 0
  IsDue rule = rule ≡ rule_of (due t (decode b))

  abbrev pub IsHouse : Set → Type 0
  IsHouse h = h ≡ house t (due t (decode b)) (decode b)

-- the rule due and its house choice, in a buffer that passes the entry check
pub record AtRule (t : Table) (b : List ℕ) (rule : Rule) (h : Set) : Type 0 where
  -- the table and the buffer
  pub ready : Ready t b
  -- `rule` is due
  pub due : IsDue t b rule
  -- h is its house choice
  pub house : IsHouse t b h

-- ---- the memo
-- a place holds g of its set; where the set is empty, it holds nothing
abbrev pub Keeps : Table → Kept → Type 0
Keeps t k = k.set.words ≢ empty → k.image.words ≡ g t k.set.words

-- g of sets, kept for later
abbrev pub Remembers : Table → Memo → Type 0
Remembers t m = All (Keeps t) m.places

-- nothing is kept, of whatever table
abbrev pub Blank : Memo → Type 0
Blank m = (t : Table) → Remembers t m

-- w is g(y), and m a memo
pub record Recalled (t : Table) (y w : Set) (m : Memo) : Type 0 where
  -- what was asked for
  pub is : w ≡ g t y
  -- the memo, for the next time
  pub kept : Remembers t m

-- the rule due, its house choice, and the memo after g was asked for
pub record Ruled (t : Table) (b : List ℕ) (rule : Rule) (h : Set) (m : Memo) : Type 0 where
  -- `rule` is due
  pub due : IsDue t b rule
  -- h is its house choice
  pub house : IsHouse t b h
  -- the memo, for the next time
  pub kept : Remembers t m

-- ---- where a run can conclude
-- where x_(j+1) can lie within x_j
pub record Closing (N : ℕ) (s : State) (lo hi : ℕ) : Type 0 where
  -- at no j below lo
  pub low : (j : ℕ) → j < lo → closes N s j ≡ false
  -- and at none from hi up
  pub high : (j : ℕ) → hi ≤ j → suc j < s.n → closes N s j ≡ false
  -- lo is not above hi
  pub rise : lo ≤ hi
  -- and x_hi has its place
  pub end : hi < s.n

-- the conclusion is looked for from lo up to hi
pub record Looks (b : List ℕ) (lo hi : ℕ) : Type 0 where
  -- n and k are in range
  pub spans : Spans b
  -- it can be nowhere else
  pub closing : Closing 256 (decode b) lo hi
  -- the same of the words: lo is not above hi, and x_hi has its place
  pub rise : lo ≤ hi
  pub end : hi < get_or b 0 0

-- no x lies within the one below it: the run has not concluded safe
pub record Parted (N : ℕ) (s : State) : Type 0 where
  -- some state of x_(j+1) is none of x_j
  pub at : (j : ℕ) → suc j < s.n → Beyond N (s.x (suc j)) (s.x j)

-- the chain rises
pub record Climbs (s : State) : Type 0 where
  -- no x has members from 256 up
  pub proper : (j : ℕ) → Proper 256 (s.x j)
  -- each lies within those above it
  pub up : (j i : ℕ) → j ≤ i → i < s.n → Within 256 (s.x j) (s.x i)

-- Conflict with z leaves every x below m as it is
pub record Untouched (s : State) (z : Set) (m : ℕ) : Type 0 where
  -- it would reach up to x_k
  pub le : m ≤ s.k
  -- each is within z
  pub at : (j : ℕ) → j < m → meet 256 (s.x j) z ≡ s.x j

-- ---- a rule
-- the rule can be fired: there is room for one more x, and a y_k where Conflict drops one
pub record Fireable (N : ℕ) (b : List ℕ) (rule : Rule) : Type 0 where
  pub holds : Holds b
  pub big : N ≤ 256
  pub norm : Normal N (decode b)
  pub room : get_or b 0 0 < 258
  pub held : rule ≡ Conflict → get_or b 1 0 < get_or b 0 0
  -- the chain rises, so that Conflict can leave the lower x alone
  pub climbs : Climbs (decode b)

-- y_(i-1) becomes z, and k becomes i - 1: what Candidate does with n for i, and Decide with k
abbrev pub after_above : State → ℕ → Set → State
after_above s i z = state s.n (i - 1) s.x (put s.y (i - 1) z)

-- z is the set chosen from hint a on, with `taken` hints taken and `used` used
abbrev pub Chose : Table → List ℕ → ℕ → List ℕ → Set → ℕ → ℕ → Type 0
Chose t hints a b z taken used = choose t (hints_at hints a) (decode b) ≡ chosen z (hints_at hints (a + taken)) taken used

-- one rule done; the next state can close from lo up to hi
pub record Stepped (t : Table) (hints : List ℕ) (a : ℕ) (b b' : List ℕ) (taken used lo hi : ℕ) : Type 0 where
  pub next : b' ≡ encode (runs.next t (choose t (hints_at hints a) (decode b)) (decode b))
  pub left : (choose t (hints_at hints a) (decode b)).left ≡ hints_at hints (a + taken)
  pub took : (choose t (hints_at hints a) (decode b)).taken ≡ taken
  pub uses : (choose t (hints_at hints a) (decode b)).used ≡ used
  -- where the next state can close
  pub closing : Closing t.size (runs.next t (choose t (hints_at hints a) (decode b)) (decode b)) lo hi

-- a run done, as an outcome of the rules
pub record RanTo (o : runs.Ran) (b : List ℕ) (r : Ran) : Type 0 where
  pub standing : as_standing r.standing ≡ o.standing
  pub fired : r.rules ≡ o.rules
  pub took : r.taken ≡ o.taken
  pub uses : r.used ≡ o.used
  pub buffer : b ≡ encode o.state

-- .. from a buffer that passes the entry check: there is always room for the rule due
abbrev pub Advanced : Table → List ℕ → ℕ → List ℕ → List ℕ → Result Ran Refusal → Type 0
Advanced t hints budget b b' (Ok r) = RanTo (runs.run t budget (hints_at hints 0) (decode b)) b' r
Advanced t hints budget b b' (Err e) = ⊥

-- a run that stands so, and room for its reason
pub record Ending (t : Table) (b : List ℕ) (v : Standing) (set walk : List ℕ) : Type 0 where
  pub ready : Ready t b
  pub stands : Stands t b v
  pub set_four : length set ≡ 4
  pub walk_256 : length walk ≡ 256

-- what the end of a run answers and writes, by the state in the buffer
pub record Finished (t : Table) (b : List ℕ) (r : Ran) (a : RunAnswer) (set set' walk walk' : List ℕ) : Type 0 where
  pub outcome : said (Ok a) ≡ run_answer 0 (conclusion t (decode b)) (decode b)
  pub fired : a.rules ≡ r.rules
  pub took : a.taken ≡ r.taken
  pub uses : a.used ≡ r.used
  pub set_is : set' ≡ set_after 0 (conclusion t (decode b)) (decode b) set
  pub walk_is : walk' ≡ walk_after t 0 (conclusion t (decode b)) (decode b) walk

-- a run that is not refused
abbrev pub Gone : Table → List ℕ → ℕ → List ℕ → List ℕ → List ℕ → List ℕ → List ℕ → List ℕ → Result RunAnswer Refusal → Type 0
Gone t hints budget b b' set set' walk walk' a =
    Answered t 0 (runs.run t budget (hints_at hints 0) (decode b)) b b' set set' walk walk' a

-- the smallest member of a that is none of y, or 0
pub record Outside (a y : Set) (r : ℕ) : Type 0 where
  pub is : r ≡ or_zero (smallest (minus 256 a y))
  pub small : r < 256

-- the state of a buffer of zeros
abbrev pub nothing : State
nothing = state 0 0 (λ j. empty) (λ j. empty)
