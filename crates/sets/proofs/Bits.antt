-- The bits of a word: under the machine's operations, of a packed word, counted, and the first that is set.
use Prim.Native.Nat.{ℕ, zero, suc, ◌+◌, ◌-◌, ◌*◌, ◌/◌, ◌%◌, ◌^◌, ◌≤◌, ◌<◌, min, max, suc-le-suc}
use native.Mathlib.Nat.{mul-mod_left, mul-div_cancel, mod-lt, zero-lt-suc, le_refl, div-add-mod', pow-suc, le_of_suc-le-suc, not-suc-le-zero}
use native.Mathlib.Numerals.{one-add}
use native.Mathlib.Omega.{arith}
use mathlib.Core.Path.{◌≡◌, refl, sym, ap, ap₂, ◌∙◌}
use mathlib.Core.Bool.{Bool, true, false, not, ◌&&◌, ◌||◌}
use lib.Dec.{eqb, eqb-suc-zero, eqb-zero-suc, eqb-suc-suc}
use lib.Arith.{digits_div, digits_mod, lt-one}
use lib.Bits.{bit_and, bit_or, and_step, or_step}
use lib.Count.{ones, ones_step, count_trailing_zeros, under}
use lib.Pow.{shr-shr, pow_pos}
use Rattle.sets.specs.Search.{sum}
use Rattle.sets.specs.Sets.{odd, digit, bit, pack}
use Rattle.sets.proofs.Search.{sum_first}

two_pos : 0 < 2
two_pos = zero-lt-suc 1

pub digit_lt : (b : Bool) → digit b < 2
digit_lt true = le_refl 2
digit_lt false = two_pos

odd-digit : (b : Bool) → odd (digit b) ≡ b
odd-digit true = refl
odd-digit false = refl

digit-odd : (n : ℕ) → n < 2 → digit (odd n) ≡ n
digit-odd zero h = refl
digit-odd (suc zero) h = refl
digit-odd (suc (suc n)) h = absurd (omega arith)

odd-min : (a b : ℕ) → a < 2 → b < 2 → odd (min a b) ≡ (odd a && odd b)
odd-min zero zero p q = refl
odd-min zero (suc zero) p q = refl
odd-min (suc zero) zero p q = refl
odd-min (suc zero) (suc zero) p q = refl
odd-min zero (suc (suc b)) p q = absurd (omega arith)
odd-min (suc zero) (suc (suc b)) p q = absurd (omega arith)
odd-min (suc (suc a)) zero p q = absurd (omega arith)
odd-min (suc (suc a)) (suc b) p q = absurd (omega arith)

odd-max : (a b : ℕ) → a < 2 → b < 2 → odd (max a b) ≡ (odd a || odd b)
odd-max zero zero p q = refl
odd-max zero (suc zero) p q = refl
odd-max (suc zero) zero p q = refl
odd-max (suc zero) (suc zero) p q = refl
odd-max zero (suc (suc b)) p q = absurd (omega arith)
odd-max (suc zero) (suc (suc b)) p q = absurd (omega arith)
odd-max (suc (suc a)) zero p q = absurd (omega arith)
odd-max (suc (suc a)) (suc b) p q = absurd (omega arith)

-- an operation that goes digit by digit goes bit by bit
module _ (op : ℕ → ℕ → ℕ) (low : ℕ → ℕ → ℕ) (o : Bool → Bool → Bool)
    (step : (a b : ℕ) → op a b ≡ op (a / 2) (b / 2) * 2 + low (a % 2) (b % 2))
    (small : (a b : ℕ) → a < 2 → b < 2 → low a b < 2)
    (law : (a b : ℕ) → a < 2 → b < 2 → odd (low a b) ≡ o (odd a) (odd b)) where
  bit-op : (a b k : ℕ) → bit (op a b) k ≡ o (bit a k) (bit b k)
  unfolding bit
  bit-op a b zero =
      ap (λ (x : ℕ). odd (x % 2)) (step a b)
      ∙ ap odd (digits_mod (op (a / 2) (b / 2)) (small (a % 2) (b % 2) (mod-lt a two_pos) (mod-lt b two_pos)))
      ∙ law (a % 2) (b % 2) (mod-lt a two_pos) (mod-lt b two_pos)
  bit-op a b (suc k) =
      ap (λ (x : ℕ). bit (x / 2) k) (step a b)
      ∙ ap (λ (x : ℕ). bit x k) (digits_div (op (a / 2) (b / 2)) (small (a % 2) (b % 2) (mod-lt a two_pos) (mod-lt b two_pos)))
      ∙ bit-op (a / 2) (b / 2) k

pub bit-and : (a b k : ℕ) → bit (bit_and a b) k ≡ (bit a k && bit b k)
bit-and = bit-op bit_and min ◌&&◌ and_step (λ a b p q. omega arith) odd-min

pub bit-or : (a b k : ℕ) → bit (bit_or a b) k ≡ (bit a k || bit b k)
bit-or = bit-op bit_or max ◌||◌ or_step (λ a b p q. omega arith) odd-max

pub bit-zero : (k : ℕ) → bit 0 k ≡ false
unfolding bit
bit-zero zero = refl
bit-zero (suc k) = bit-zero k

-- as the code tests it: `(w >> k) & 1`
pub bit-shift : (w k : ℕ) → bit w k ≡ odd (w / 2 ^ k % 2)
unfolding bit
bit-shift w zero = let e : w ≡ w / 1 = omega arith in ap (λ (x : ℕ). odd (x % 2)) e
bit-shift w (suc k) =
    bit-shift (w / 2) k
    ∙ ap (λ (x : ℕ). odd (x % 2)) (shr-shr w 1 k ∙ ap (λ (x : ℕ). w / 2 ^ x) (one-add k))

pub eqb-odd : (n : ℕ) → n < 2 → eqb n 1 ≡ odd n
eqb-odd zero h = refl
eqb-odd (suc zero) h = refl
eqb-odd (suc (suc n)) h = absurd (omega arith)

-- 2 ^ k has bit k alone
pub bit-power : (k i : ℕ) → bit (2 ^ k) i ≡ eqb i k
unfolding bit
bit-power zero zero = refl
bit-power zero (suc i) = bit-zero i ∙ sym (eqb-suc-zero i)
bit-power (suc k) zero =
    ap (λ (x : ℕ). odd (x % 2)) (pow-suc 2 k) ∙ ap odd (mul-mod_left (2 ^ k) 2) ∙ sym (eqb-zero-suc k)
bit-power (suc k) (suc i) =
    ap (λ (x : ℕ). bit (x / 2) i) (pow-suc 2 k) ∙ ap (λ (x : ℕ). bit x i) (mul-div_cancel (2 ^ k) two_pos)
    ∙ bit-power k i ∙ sym (eqb-suc-suc i k)

odd-flip : (b : ℕ) → b < 2 → odd (1 - b) ≡ not (odd b)
odd-flip zero h = refl
odd-flip (suc zero) h = refl
odd-flip (suc (suc b)) h = absurd (omega arith)

-- the complement in d bits
pub bit_not : (d w k : ℕ) → w < 2 ^ d → k < d → bit (2 ^ d - 1 - w) k ≡ not (bit w k)
unfolding bit
bit_not zero w k h l = absurd (not-suc-le-zero l)
bit_not (suc d) w zero h l =
    let e : (2 ^ suc d - 1 - w) % 2 ≡ 1 - w % 2 = omega (arith, pow-suc 2 d) in
    ap odd e ∙ odd-flip (w % 2) (mod-lt w two_pos)
bit_not (suc d) w (suc k) h l =
    let e : (2 ^ suc d - 1 - w) / 2 ≡ 2 ^ d - 1 - w / 2 = omega (arith, pow-suc 2 d) in
    ap (λ (x : ℕ). bit x k) e ∙ bit_not d (w / 2) k (omega (arith, pow-suc 2 d)) (le_of_suc-le-suc l)

-- ---- packed words
pub bit-pack : (d : ℕ) (p : ℕ → Bool) (k : ℕ) → k < d → bit (pack d p) k ≡ p k
unfolding bit pack
bit-pack zero p k h = absurd (not-suc-le-zero h)
bit-pack (suc d) p zero h = ap odd (digits_mod (pack d (λ k. p (suc k))) (digit_lt (p 0))) ∙ odd-digit (p 0)
bit-pack (suc d) p (suc k) h =
    ap (λ (x : ℕ). bit x k) (digits_div (pack d (λ k. p (suc k))) (digit_lt (p 0))) ∙ bit-pack d (λ k. p (suc k)) k (le_of_suc-le-suc h)

-- no bit from d up
pub pack-out : (d : ℕ) (p : ℕ → Bool) (k : ℕ) → d ≤ k → bit (pack d p) k ≡ false
unfolding bit pack
pack-out zero p k h = bit-zero k
pack-out (suc d) p zero h = absurd (omega arith)
pack-out (suc d) p (suc k) h =
    ap (λ (x : ℕ). bit x k) (digits_div (pack d (λ k. p (suc k))) (digit_lt (p 0))) ∙ pack-out d (λ k. p (suc k)) k (omega arith)

pub pack-lt : (d : ℕ) (p : ℕ → Bool) → pack d p < 2 ^ d
unfolding pack
pack-lt zero p = zero-lt-suc 0
pack-lt (suc d) p = omega (arith, pack-lt d (λ k. p (suc k)), digit_lt (p 0), pow-suc 2 d)

-- a word of d bits is what its bits make
pub pack-of : (d w : ℕ) (p : ℕ → Bool) → w < 2 ^ d → ((k : ℕ) → k < d → bit w k ≡ p k) → w ≡ pack d p
unfolding bit pack
pack-of zero w p h e = lt-one h
pack-of (suc d) w p h e =
    sym (div-add-mod' w 2)
    ∙ ap₂ (λ (x y : ℕ). x * 2 + y)
    (pack-of d (w / 2) (λ k. p (suc k)) (omega (arith, pow-suc 2 d)) (λ k l. e (suc k) (suc-le-suc l)))
    (sym (digit-odd (w % 2) (mod-lt w two_pos)) ∙ ap digit (e 0 (zero-lt-suc d)))

pub pack-ext : (d : ℕ) (p q : ℕ → Bool) → ((k : ℕ) → k < d → p k ≡ q k) → pack d p ≡ pack d q
pack-ext d p q h = pack-of d (pack d p) q (pack-lt d p) (λ k l. bit-pack d p k l ∙ h k l)

-- bits that are not set do not count
pub pack-pad : (m n : ℕ) (p : ℕ → Bool) → m ≤ n → ((k : ℕ) → m ≤ k → k < n → p k ≡ false) → pack m p ≡ pack n p
unfolding pack
pack-pad zero zero p h o = refl
pack-pad zero (suc n) p h o =
    rw (o 0 (omega arith) (omega arith), ← (pack-pad zero n (λ k. p (suc k)) (omega arith) (λ k a l. o (suc k) (omega arith) (omega arith))))
pack-pad (suc m) zero p h o = absurd (omega arith)
pack-pad (suc m) (suc n) p h o = rw (pack-pad m n (λ k. p (suc k)) (omega arith) (λ k a l. o (suc k) (omega arith) (omega arith)))

pub pack-true : (d : ℕ) → pack d (λ k. true) ≡ 2 ^ d - 1
unfolding pack
pack-true zero = refl
pack-true (suc d) = rw (pack-true d) (omega (arith, pow-suc 2 d, pow_pos d))

-- ---- the number of bits that are set, and the first
pub ones_sum : (d w : ℕ) → w < 2 ^ d → ones w ≡ sum d (λ k. digit (bit w k))
unfolding bit ones sum
ones_sum zero w h = ap ones (lt-one h)
ones_sum (suc d) w h =
    ones_step w
    ∙ ap₂ ◌+◌ (sym (digit-odd (w % 2) (mod-lt w two_pos))) (ones_sum d (w / 2) (omega (arith, pow-suc 2 d)))
    ∙ sym (sum_first d (λ k. digit (bit w k)))

-- what trailing zeros say: nothing before, and there it is
pub record First (d w z : ℕ) : Type 0 where
  pub before : (k : ℕ) → k < z → bit w k ≡ false
  pub there : z < d → bit w z ≡ true

pub trailing_first : (d w : ℕ) → First d w (count_trailing_zeros d w)
unfolding bit count_trailing_zeros
trailing_first zero w = record { before = λ k l. absurd (not-suc-le-zero l); there = λ l. absurd (not-suc-le-zero l) }
trailing_first (suc d) w = step (w % 2) refl (trailing_first d (w / 2))
  where
    step : (b : ℕ) → w % 2 ≡ b → First d (w / 2) (count_trailing_zeros d (w / 2)) → First (suc d) w (under b (count_trailing_zeros d (w / 2)))
    step zero e f = record { before = below; there = λ l. f.there (le_of_suc-le-suc l) }
      where
        below : (k : ℕ) → k < suc (count_trailing_zeros d (w / 2)) → bit w k ≡ false
        below zero l = ap odd e
        below (suc k) l = f.before k (le_of_suc-le-suc l)
    step (suc b) e f = record { before = λ k l. absurd (not-suc-le-zero l); there = λ l. ap odd e }
