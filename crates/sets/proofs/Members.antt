-- Members: of a set given by a test, and of what code makes word by word. A set is known by its members.
use Prim.Native.Nat.{ℕ, zero, suc, ◌+◌, ◌-◌, ◌*◌, ◌/◌, ◌%◌, ◌^◌, ◌≤◌, ◌<◌, min}
use native.Mathlib.Omega.{arith}
use mathlib.Core.Path.{◌≡◌, refl, sym, ◌∙◌}
use mathlib.Core.Logic.{inl, inr}
use mathlib.Core.Bool.{Bool, true, false, not, ◌&&◌, ◌||◌}
use mathlib.Core.List.{[], ◌∷◌}
use lib.Dec.{ltb}
use lib.ListN.{get_or, length}
use Rattle.sets.specs.Sets.{Set, Proper, bit, member, word_of, set_of, empty, full, sound, meet, join, minus, smallest}
use Rattle.sets.proofs.Bits.{bit-zero, bit-pack, pack-out, pack-lt, pack-of, pack-ext, pack-pad}
use Rattle.sets.proofs.Search.{Least, least-is, all-says}
use Rattle.sets.proofs.Tests.{passed, passes, fails, clash, never, implied, leb-says, lt_or_ge}

-- ---- a set given by a test
pub word_at : (N : ℕ) (p : ℕ → Bool) (q : ℕ) → q < 4 → get_or (set_of N p) q 0 ≡ word_of N p q
unfolding set_of
word_at N p zero h = refl
word_at N p (suc zero) h = refl
word_at N p (suc (suc zero)) h = refl
word_at N p (suc (suc (suc zero))) h = refl
word_at N p (suc (suc (suc (suc q)))) h = absurd (omega arith)

word_past : (N : ℕ) (p : ℕ → Bool) (q : ℕ) → 4 ≤ q → get_or (set_of N p) q 0 ≡ 0
unfolding set_of
word_past N p zero h = absurd (omega arith)
word_past N p (suc zero) h = absurd (omega arith)
word_past N p (suc (suc zero)) h = absurd (omega arith)
word_past N p (suc (suc (suc zero))) h = absurd (omega arith)
word_past N p (suc (suc (suc (suc q)))) h = refl

-- its members below N are the states that pass
pub member_of : (N : ℕ) → N ≤ 256 → (p : ℕ → Bool) (s : ℕ) → s < N → member (set_of N p) s ≡ p s
unfolding member word_of
member_of N big p s lt =
    let e : s / 64 * 64 + s % 64 ≡ s = omega arith in
    rw (word_at N p (s / 64) (omega arith), bit-pack (min (N - s / 64 * 64) 64) (λ i. p (s / 64 * 64 + i)) (s % 64) (omega arith), e)

-- and it has none from N up
pub member-past : (N : ℕ) (p : ℕ → Bool) (s : ℕ) → N ≤ s → member (set_of N p) s ≡ false
unfolding member word_of
member-past N p s h =
    elim (lt_or_ge (s / 64) 4) [
      | inl l ↦ rw (word_at N p (s / 64) l) (pack-out (min (N - s / 64 * 64) 64) (λ i. p (s / 64 * 64 + i)) (s % 64) (omega arith))
      | inr l ↦ rw (word_past N p (s / 64) l) (bit-zero (s % 64))
    ]

word_ext : (N : ℕ) (p q : ℕ → Bool) → ((s : ℕ) → s < N → p s ≡ q s) → (w : ℕ) → word_of N p w ≡ word_of N q w
unfolding word_of
word_ext N p q h w = pack-ext (min (N - w * 64) 64) (λ i. p (w * 64 + i)) (λ i. q (w * 64 + i)) (λ i l. h (w * 64 + i) (omega arith))

-- tests that agree below N give one set
pub set-ext : (N : ℕ) (p q : ℕ → Bool) → ((s : ℕ) → s < N → p s ≡ q s) → set_of N p ≡ set_of N q
unfolding set_of
set-ext N p q h = rw (word_ext N p q h 0, word_ext N p q h 1, word_ext N p q h 2, word_ext N p q h 3)

word_pad : (N : ℕ) → N ≤ 256 → (p : ℕ → Bool) → ((s : ℕ) → N ≤ s → s < 256 → p s ≡ false) → (q : ℕ) → q < 4 → word_of N p q ≡ word_of 256 p q
unfolding word_of
word_pad N big p low q h =
    pack-pad (min (N - q * 64) 64) (min (256 - q * 64) 64) (λ i. p (q * 64 + i)) (omega arith) (λ i a l. low (q * 64 + i) (omega arith) (omega arith))

-- a test that nothing from N up passes has one set, of N or of 256
pub set-pad : (N : ℕ) → N ≤ 256 → (p : ℕ → Bool) → ((s : ℕ) → N ≤ s → s < 256 → p s ≡ false) → set_of N p ≡ set_of 256 p
unfolding set_of
set-pad N big p low =
    rw (word_pad N big p low 0 (omega arith), word_pad N big p low 1 (omega arith), word_pad N big p low 2 (omega arith), word_pad N big p low 3 (omega arith))

-- ---- proper sets
pub proper_length : (N : ℕ) (x : Set) → Proper N x → length x ≡ 4
unfolding set_of
proper_length N x h = rw (← h.is)

pub proper_word : (x : Set) → Proper 256 x → (q : ℕ) → q < 4 → get_or x q 0 < 2 ^ 64
unfolding word_of
proper_word x h q l =
    let m : min (256 - q * 64) 64 ≡ 64 = omega arith in
    rw (← h.is, word_at 256 (member x) q l) (rw m (pack-lt 64 (λ i. member x (q * 64 + i))))

pub member-word : (x : Set) (q i : ℕ) → i < 64 → member x (q * 64 + i) ≡ bit (get_or x q 0) i
unfolding member
member-word x q i h =
    let e₁ : (q * 64 + i) / 64 ≡ q = omega arith in
    let e₂ : (q * 64 + i) % 64 ≡ i = omega arith in
    rw (e₁, e₂)

word_is : (x : Set) (q : ℕ) → q < 4 → get_or x q 0 < 2 ^ 64 → word_of 256 (member x) q ≡ get_or x q 0
unfolding word_of
word_is x q four lt =
    let m : min (256 - q * 64) 64 ≡ 64 = omega arith in
    rw m (sym (pack-of 64 (get_or x q 0) (λ i. member x (q * 64 + i)) lt (λ i l. sym (member-word x q i l))))

pub proper_four : (a b c d : ℕ) → a < 2 ^ 64 → b < 2 ^ 64 → c < 2 ^ 64 → d < 2 ^ 64 → Proper 256 (a ∷ b ∷ c ∷ d ∷ [])
unfolding set_of
proper_four a b c d ha hb hc hd =
    let x : Set = a ∷ b ∷ c ∷ d ∷ [] in
    record { is = rw (word_is x 0 (omega arith) ha, word_is x 1 (omega arith) hb, word_is x 2 (omega arith) hc, word_is x 3 (omega arith) hd) }

-- ---- the empty set
word_empty : (q : ℕ) → get_or empty q 0 ≡ 0
unfolding empty
word_empty zero = refl
word_empty (suc zero) = refl
word_empty (suc (suc zero)) = refl
word_empty (suc (suc (suc zero))) = refl
word_empty (suc (suc (suc (suc q)))) = refl

pub member-empty : (s : ℕ) → member empty s ≡ false
unfolding member
member-empty s = rw (word_empty, bit-zero)

module _ (N : ℕ) (big : N ≤ 256) where
  pub proper_of : (p : ℕ → Bool) → Proper N (set_of N p)
  proper_of p = record { is = set-ext N (member (set_of N p)) p (λ s l. member_of N big p s l) }

  pub proper_empty : Proper N empty
  unfolding empty
  proper_empty = record {
    is = set-pad N big (member empty) (λ s a l. member-empty s)
        ∙ (proper_four 0 0 0 0 (omega arith) (omega arith) (omega arith) (omega arith)).is;
  }

  -- sets are equal by their members
  pub proper_ext : {x y : Set} → Proper N x → Proper N y → ((s : ℕ) → s < N → member x s ≡ member y s) → x ≡ y
  proper_ext {x} {y} hx hy h = sym hx.is ∙ set-ext N (member x) (member y) h ∙ hy.is

  pub proper_past : {x : Set} → Proper N x → (s : ℕ) → N ≤ s → member x s ≡ false
  proper_past {x} h s l = rw (← h.is) (member-past N (member x) s l)

  pub proper_up : {x : Set} → Proper N x → Proper 256 x
  proper_up {x} h = record { is = sym (set-pad N big (member x) (λ s a l. proper_past h s a)) ∙ h.is }

  -- `sound` as the equation
  pub proper_sound : (x : Set) → Proper 256 x → sound N x ≡ true → Proper N x
  unfolding sound
  proper_sound x h e =
      record {
        is =
            set-pad N big (member x) (λ s a l. never (member x s) (λ m. past s a (passed (all-says 256 (λ s. not (member x s) || ltb s N)) e s l) m))
            ∙ h.is;
      }
    where
      past : (s : ℕ) → N ≤ s → (not (member x s) || ltb s N) ≡ true → member x s ≡ true → ⊥
      past s a q m = clash (implied (member x s) (ltb s N) q m) (fails (leb-says (suc s) N) (λ l. omega arith))

  -- ---- members of what the operations make
  pub member-full : (s : ℕ) → member (full N) s ≡ ltb s N
  unfolding full
  member-full s = elim (lt_or_ge s N) [
    | inl l ↦ member_of N big (λ s. true) s l ∙ sym (passes (leb-says (suc s) N) (λ h. omega arith))
    | inr l ↦ member-past N (λ s. true) s l ∙ sym (fails (leb-says (suc s) N) (λ h. omega arith))
  ]

  module _ (x y : Set) (s : ℕ) (l : s < N) where
    pub member-meet : member (meet N x y) s ≡ (member x s && member y s)
    unfolding meet
    member-meet = member_of N big (λ s. member x s && member y s) s l

    pub member-join : member (join N x y) s ≡ (member x s || member y s)
    unfolding join
    member-join = member_of N big (λ s. member x s || member y s) s l

    pub member-minus : member (minus N x y) s ≡ (member x s && not (member y s))
    unfolding minus
    member-minus = member_of N big (λ s. member x s && not (member y s)) s l

-- the smallest member is the least
pub smallest-is : (x : Set) → Least 256 (member x) (smallest x)
unfolding smallest
smallest-is x = least-is 256 (member x)
