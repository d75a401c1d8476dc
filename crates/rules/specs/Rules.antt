-- The rules of the search (document 001): the state of a run, its conclusion, the rule due, what it allows, what it does.
use Rattle.std.specs.Prelude.{ℕ, suc, ◌+◌, ◌-◌, Bool, true, false, not, ◌&&◌, cond, eqb, leb}
use Rattle.std.specs.Prelude.{Option, None, Some}
use Rattle.sets.specs.Search.{least}
use Rattle.sets.specs.Sets.{Set, within, meet, full, empty}
use Rattle.rules.specs.Table.{Table, f, g}

-- x_0 .. x_(n-1) and y_k .. y_(n-1); y is empty when k = n. Where no set is held, x and y are the empty set
pub record State : Type 0 where
  pub n : ℕ
  pub k : ℕ
  pub x : ℕ → Set
  pub y : ℕ → Set

abbrev pub state : ℕ → ℕ → (ℕ → Set) → (ℕ → Set) → State
state n k x y = record { n = n; k = k; x = x; y = y }

-- z in place i, the others as they are
unfoldable pub put : (ℕ → Set) → ℕ → Set → ℕ → Set
put x i z j = cond (eqb j i) z (x j)

-- every x_j with j up to k becomes x_j ∩ z
unfoldable pub cut : ℕ → (ℕ → Set) → ℕ → Set → ℕ → Set
cut N x k z j = cond (leb j k) (meet N (x j) z) (x j)

-- how a run stands; no room: Unfold is due and there is no place for another set
pub data Standing : Type 0 where
  safe : ℕ → Standing
  reached : Standing
  unfinished : Standing
  no_room : Standing

pub data Rule : Type 0 where
  Unfold : Rule
  Candidate : Rule
  Decide : Rule
  Conflict : Rule

-- safe at the j found; else reached, if so
unfoldable pub concludes : Option ℕ → Bool → Standing
concludes (Some j) b = safe j
concludes None true = reached
concludes None false = unfinished

-- a fresh run of N states: n = k = 2, x_0 empty, x_1 full, no y
unfoldable pub fresh_of : ℕ → State
fresh_of N = state 2 2 (put (λ j. empty) 1 (full N)) (λ j. empty)

-- x_(j+1) is within x_j
unfoldable pub closes : ℕ → State → ℕ → Bool
closes N s j = within N (s.x (suc j)) (s.x j)

-- the smallest j from 0 to n-2 that closes; k = 1 and I not within y_1
unfoldable pub conclusion_of : ℕ → Set → State → Standing
conclusion_of N I s = concludes (least (s.n - 1) (closes N s)) (eqb s.k 1 && not (within N I (s.y 1)))

-- z contains low and does not contain x
abbrev pub separates : ℕ → Set → Set → Set → Bool
separates N low x z = within N low z && not (within N x z)

-- the state after each rule, fired with z
abbrev pub after_unfold : ℕ → State → State
after_unfold N s = state (s.n + 1) (s.n + 1) (put s.x s.n (full N)) s.y

abbrev pub after_candidate : State → Set → State
after_candidate s z = state s.n (s.n - 1) s.x (put s.y (s.n - 1) z)

abbrev pub after_decide : State → Set → State
after_decide s z = state s.n (s.k - 1) s.x (put s.y (s.k - 1) z)

abbrev pub after_conflict : ℕ → State → Set → State
after_conflict N s z = state s.n (s.k + 1) (cut N s.x s.k z) (put s.y s.k empty)

unfoldable pub fire : ℕ → Rule → State → Set → State
fire N Unfold s z = after_unfold N s
fire N Candidate s z = after_candidate s z
fire N Decide s z = after_decide s z
fire N Conflict s z = after_conflict N s z

module _ (t : Table) where
  abbrev pub fresh : State
  fresh = fresh_of t.size

  abbrev pub conclusion : State → Standing
  conclusion s = conclusion_of t.size t.starts s

  -- y empty: x_(n-1) within P or not; y not empty: f(x_(k-1)) within y_k or not
  unfoldable pub due : State → Rule
  due s =
      elim (eqb s.k s.n) [
        | true ↦ elim (within t.size (s.x (s.n - 1)) t.safe) [ true ↦ Unfold | false ↦ Candidate ]
        | false ↦ elim (within t.size (f t (s.x (s.k - 1))) (s.y s.k)) [ true ↦ Conflict | false ↦ Decide ]
      ]

  -- z is within y, and contains I and f(x ∩ z)
  abbrev pub blocks : Set → Set → Set → Bool
  blocks y x z = within t.size z y && within t.size t.starts z && within t.size (f t (meet t.size x z)) z

  -- what the rule asks of the set z that is chosen
  unfoldable pub allowed : Rule → State → Set → Bool
  allowed Unfold s z = true
  allowed Candidate s z = separates t.size t.safe (s.x (s.n - 1)) z
  allowed Decide s z = separates t.size (g t (s.y s.k)) (s.x (s.k - 1)) z
  allowed Conflict s z = blocks (s.y s.k) (s.x (s.k - 1)) z

  -- the house choice: P, g(y_k) and y_k
  unfoldable pub house : Rule → State → Set
  house Unfold s = empty
  house Candidate s = t.safe
  house Decide s = g t (s.y s.k)
  house Conflict s = s.y s.k
