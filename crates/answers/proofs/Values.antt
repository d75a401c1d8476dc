-- A refusal is no value.
use Prim.Native.Nat.{ℕ}
use native.Mathlib.Omega.{arith}
use mathlib.Core.Path.{◌≡◌}
use Rattle.answers.specs.Answer.{refused, given}

pub no_value : {A B : Type 0} {k : ℕ} {a : A} → refused k ≡ given a → B
no_value e = let z : ◌≡◌ {A = ℕ} 0 1 = cc in absurd (omega arith)
