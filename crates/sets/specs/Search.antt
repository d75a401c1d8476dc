-- Searching the numbers below a bound by a test: the least that passes, whether any or all pass, and a sum over them.
use Rattle.std.specs.Prelude.{ℕ, zero, suc, ◌+◌, Bool, true, false, not}
use Rattle.std.specs.Prelude.{Option, None, Some}

-- what was found before, or else n where n passes
unfoldable pub or_else : Option ℕ → Bool → ℕ → Option ℕ
or_else (Some i) b n = Some i
or_else None true n = Some n
or_else None false n = None

-- the least number below n that passes a test
unfoldable pub least : ℕ → (ℕ → Bool) → Option ℕ
least zero p = None
least (suc n) p = or_else (least n p) (p n) n

unfoldable pub found : Option ℕ → Bool
found (Some i) = true
found None = false

-- some number below n passes
unfoldable pub any : ℕ → (ℕ → Bool) → Bool
any n p = found (least n p)

-- every number below n passes
unfoldable pub all : ℕ → (ℕ → Bool) → Bool
all n p = not (any n (λ i. not (p i)))

-- h 0 + .. + h (n - 1)
unfoldable pub sum : ℕ → (ℕ → ℕ) → ℕ
sum zero h = 0
sum (suc n) h = h n + sum n h
