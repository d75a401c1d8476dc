-- The square of a 16-bit number is far from 64 bits.
use Prim.Native.Nat.{ℕ, ◌*◌, ◌^◌, ◌≤◌, ◌<◌}
use native.Mathlib.Nat.{mul-le-mul_right}
use native.Mathlib.Omega.{arith}

pub square : (n : ℕ) → n < 2 ^ 16 → n * n < 2 ^ 32
square n small = let e : n * n ≤ 65535 * n = mul-le-mul_right n (omega arith) in omega (arith, e)
