-- 16 bits in two's complement: the definitions are what the code's operations on i16 come to, and they undo each other.
use Prim.Native.Nat.{ℕ, zero, suc, ◌+◌, ◌*◌, ◌-◌, ◌^◌, ◌≤◌, ◌<◌}
use native.Mathlib.Nat.{zero-add}
use native.Mathlib.Omega.{arith}
use mathlib.Core.Path.{◌≡◌, refl, sym, ap, ◌∙◌}
use mathlib.Core.Bool.{Bool, true, false, cond}
use lib.Dec.{eqb, ltb}
use lib.IntN.{ℤ, pos, negsuc, ◌-ℤ◌}
use lib.Signed.{mag}
use mir.Syntax.{w16}
use mir.Val.{to_z, of_z, sel, SFits}
use mir.ValLaws.{to_z_pos, to_z-of_z}
use borrow.Author.Tests.{ne_eqb, lt-ltb, le-ltb}
use Rattle.turns.proofs.Ints.{plus, minus}
use Rattle.tables.specs.Format.{signed, unsigned}
use Rattle.tables.specs.Control.{is_zero}

-- ---- they undo each other
pub signed_back : (u : ℕ) → u < 65536 → unsigned (signed u) ≡ u
unfolding signed unsigned
signed_back u h = go (ltb u 32768)
  where
    go : (t : Bool) → unsigned (cond t (pos u) (negsuc (65535 - u))) ≡ u
    go true = refl
    go false = omega arith

module _ (z : ℤ) (low : minus z ≤ 32768) (high : plus z < 32768) where
  pub unsigned_back : signed (unsigned z) ≡ z
  unfolding signed unsigned
  unsigned_back = go z low high
    where
      go : (z : ℤ) → minus z ≤ 32768 → plus z < 32768 → signed (unsigned z) ≡ z
      go (pos n) l h = rw (lt-ltb n 32768 h)
      go (negsuc n) l h = let e : 65535 - (65535 - n) ≡ n = omega arith in rw (le-ltb (65535 - n) 32768 (omega arith), e)

  pub unsigned_small : unsigned z < 65536
  unfolding unsigned
  unsigned_small = go z low high
    where
      go : (z : ℤ) → minus z ≤ 32768 → plus z < 32768 → unsigned z < 65536
      go (pos n) l h = omega arith
      go (negsuc n) l h = omega arith

-- ---- 16 bits read as an integer, and an integer's bits
pub signed_is : (u : ℕ) → to_z w16 u ≡ signed u
unfolding signed
signed_is u = go (ltb u 32768)
  where
    go : (t : Bool) → sel t (pos u) (negsuc (65536 - suc u)) ≡ cond t (pos u) (negsuc (65535 - u))
    go true = refl
    go false = ap negsuc (omega arith)

pub unsigned_is : (z : ℤ) → of_z w16 z ≡ unsigned z
unfolding unsigned
unsigned_is (pos n) = refl
unsigned_is (negsuc n) = omega arith

-- .. half by half: the lower half is itself, the upper half is `-1 - (65535 - u)`
pub signed_lower : (u : ℕ) → u < 32768 → to_z w16 u ≡ signed u
signed_lower u h = signed_is u

-- -1 less v
minus_one : (v : ℕ) → negsuc 0 -ℤ pos v ≡ negsuc v
minus_one zero = refl
minus_one (suc v) = rw (zero-add v)

module _ (u : ℕ) (h : 32768 ≤ u) (k : u < 65536) where
  upper : negsuc 0 -ℤ to_z w16 (65535 - u) ≡ negsuc (65535 - u)
  upper =
      let low : 65535 - u < 2 ^ 15 = omega arith in
      ap (λ (z : ℤ). negsuc 0 -ℤ z) (to_z_pos w16 (65535 - u) low) ∙ minus_one (65535 - u)

  pub upper_fits : SFits w16 (negsuc 0 -ℤ to_z w16 (65535 - u))
  upper_fits = let small : 65535 - u < 32768 = omega arith in rw upper (record { sfits = small })

  pub signed-upper : to_z w16 (of_z w16 (negsuc 0 -ℤ to_z w16 (65535 - u))) ≡ signed u
  unfolding signed
  signed-upper = to_z-of_z w16 _ upper_fits ∙ upper ∙ rw (le-ltb u 32768 h)

-- the bytes are x and y
pub signed-bytes : (z : ℤ) (x y : ℕ) → mag z < 32768 → z ≡ to_z w16 (x + y * 256) → to_z w16 (of_z w16 z) ≡ signed (x + 256 * y)
signed-bytes z x y ok e =
    let q : x + y * 256 ≡ x + 256 * y = omega arith in
    to_z-of_z w16 z (record { sfits = ok }) ∙ e ∙ rw q (signed_is (x + 256 * y))

-- bits that are all 0 are those of 0
pub zero_bits : (z : ℤ) → mag z < 32768 → is_zero z ≡ eqb (of_z w16 z) 0
unfolding is_zero
zero_bits (pos n) h = refl
zero_bits (negsuc n) h = sym (ne_eqb (65536 - suc n) 0 (λ e. omega arith))
