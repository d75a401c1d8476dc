-- What is appended to an output one part after another: the entries of a section, the members of a set, the states, the moves.
use Prim.Native.Nat.{ℕ, zero, suc, ◌+◌, ◌-◌, ◌*◌, ◌/◌, ◌%◌, ◌≤◌, ◌<◌}
use native.Mathlib.Omega.{arith}
use mathlib.Core.Bool.{Bool, true, false}
use mathlib.Core.List.{List, [], ◌∷◌, ◌++◌, append_assoc, append-nil}
use mathlib.Core.Path.{◌≡◌, refl, sym, ap, ap₂, ◌∙◌}
use lib.IntN.{ℤ, pos}
use lib.ListN.{length, get_or, length-append}
use lib.Signed.{mag}
use mir.Syntax.{w16}
use mir.Val.{to_z, of_z}
use mir.ValLaws.{to_z-of_z}
use Rattle.rules.specs.Table.{row, leads, move_count}
use Rattle.sets.specs.Search.{sum}
use Rattle.sets.specs.Sets.{Set, digit, member, count, quad}
use Rattle.sets.proofs.Bits.{bit-zero}
use Rattle.sets.proofs.Search.{sum-ext}
use Rattle.tables.specs.Lists.{passing}
use Rattle.tables.specs.Format.{bytes16, Kind, number, move, entries_bytes, section_bytes}
use Rattle.tables.specs.Control.{state_number, is_move}
use Rattle.outputs.specs.Appends.{Appends}
use Rattle.outputs.specs.declared.Output.{Output}
use Rattle.outputs.proofs.Puts.{appends_none, appends_then}
use Rattle.tables.specs.Inner.{member_from, members_from, set_bytes, move_bytes}
use Rattle.tables.proofs.Lists.{passing-none, passing-add, passing-more, passing-ext, passing-nothing}
use Rattle.tables.proofs.Lists.{passing-count, sum-none, sum_more}
use Rattle.tables.proofs.Signed.{unsigned_is}

-- ---- entries
entries-append : (K : Kind) (xs ys : List ℕ) → entries_bytes K (xs ++ ys) ≡ entries_bytes K xs ++ entries_bytes K ys
unfolding entries_bytes
entries-append K [] ys = refl
entries-append K (x ∷ xs) ys =
    ap (λ (l : List ℕ). K.bytes x ++ l) (entries-append K xs ys) ∙ sym (append_assoc (K.bytes x) (entries_bytes K xs) (entries_bytes K ys))

entries-last : (K : Kind) (vs : List ℕ) (v : ℕ) → entries_bytes K vs ++ K.bytes v ≡ entries_bytes K (vs ++ (v ∷ []))
unfolding entries_bytes
entries-last K vs v = sym (entries-append K vs (v ∷ []) ∙ ap (λ (l : List ℕ). entries_bytes K vs ++ l) (append-nil (K.bytes v)))

pub entries-length : (K : Kind) → ((v : ℕ) → length (K.bytes v) ≡ K.width) → (vs : List ℕ) → length (entries_bytes K vs) ≡ length vs * K.width
unfolding entries_bytes
entries-length K h [] = omega arith
entries-length K h (v ∷ vs) = length-append (K.bytes v) (entries_bytes K vs) ∙ rw (h v, entries-length K h vs) (omega arith)

pub section-length : (K : Kind) → ((v : ℕ) → length (K.bytes v) ≡ K.width) → (vs : List ℕ) → length (section_bytes K vs) ≡ 2 + length vs * K.width
unfolding section_bytes
section-length K h vs = rw (entries-length K h vs) (omega arith)

-- no entry, one more, several more
module _ (K : Kind) (o : Output) where
  pub enter_none : Appends o (entries_bytes K []) o
  unfolding entries_bytes
  enter_none = appends_none o

  module _ (vs : List ℕ) {o' o'' : Output} (p : Appends o (entries_bytes K vs) o') where
    pub enter_one : (v : ℕ) → Appends o' (K.bytes v) o'' → Appends o (entries_bytes K (vs ++ (v ∷ []))) o''
    enter_one v q = rw (← entries-last K vs v) (appends_then p q)

    pub enter_more : (ws : List ℕ) → Appends o' (entries_bytes K ws) o'' → Appends o (entries_bytes K (vs ++ ws)) o''
    enter_more ws q = rw (entries-append K vs ws) (appends_then p q)

-- ---- the loop of `put_members` at state s
module _ (base : ℕ) (x : Set) where
  pub from_is : (s : ℕ) → member_from base x (base + s) ≡ member x s
  unfolding member_from
  from_is s = let e : base + s - base ≡ s = omega arith in ap (member x) e

  -- those below s
  abbrev pub members_up_to : ℕ → List ℕ
  members_up_to s = passing (member_from base x) base s

  -- r is whether s is a member, n its number as the code has it
  module _ (K : Kind) (s : ℕ) {o o' : Output} (p : Appends o (entries_bytes K (members_up_to s)) o') (r : Bool) (e : r ≡ member x s) where
    pub member-in : r ≡ true → (n : ℕ) → n ≡ base + s → {o'' : Output} → Appends o' (K.bytes n) o'' → Appends o (entries_bytes K (members_up_to (s + 1))) o''
    member-in y n z q =
        let more : members_up_to (s + 1) ≡ members_up_to s ++ (n ∷ []) = passing-more (member_from base x) base s ∙ rw (from_is s, ← e, y, z) in
        rw more (enter_one K o (members_up_to s) p n q)

    pub member-out : r ≡ false → Appends o (entries_bytes K (members_up_to (s + 1))) o'
    member-out y =
        let same : members_up_to (s + 1) ≡ members_up_to s = passing-more (member_from base x) base s ∙ rw (from_is s, ← e, y, append-nil) in
        rw same p

-- ---- the section of a set: how many members, then the members
from_zero : (x : Set) → members_from 0 x ≡ passing (member x) 0 256
unfolding member_from
from_zero x = passing-ext (member_from 0 x) (member x) 256 0 (λ i l. let e : 0 + i - 0 ≡ 0 + i = omega arith in ap (member x) e)

pub members_count : (x : Set) → length (passing (member x) 0 256) ≡ count 256 x
unfolding count
members_count x =
    passing-count (member x) 0 256 ∙ sum-ext 256 _ _ (λ i l. let e : 0 + i ≡ i = omega arith in ap (λ (s : ℕ). digit (member x s)) e)

-- k is the count of a section's entries as the code has it
module _ (K : Kind) (vs : List ℕ) (k : ℕ) (e : k ≡ length vs) where
  pub section-is_both : section_bytes K vs ≡ bytes16 k ++ entries_bytes K vs
  unfolding section_bytes
  section-is_both = rw e

pub set-put : (x : Set) {o o' o'' : Output} (k : ℕ) → k ≡ count 256 x → Appends o (bytes16 k) o' → Appends o' (entries_bytes (number 0) (members_from 0 x)) o''
    → Appends o (set_bytes x) o''
set-put x k e p q =
    rw (section-is_both (number 0) (passing (member x) 0 256) k (e ∙ sym (members_count x)), ← from_zero x) (appends_then p q)

-- the entry of state s, of its angle's bits and its mode as they are cast
pub state-is : (angles : List ℤ) (modes : List ℕ) (s : ℕ) → mag (get_or angles s (pos 0)) < 32768
    → (u v : ℕ) → u ≡ of_z w16 (to_z w16 (of_z w16 (get_or angles s (pos 0)))) → v ≡ u → (m : ℕ) → m ≡ get_or modes s 0
    → v * 256 + m ≡ state_number angles modes s
unfolding state_number
state-is angles modes s ok u v e q m em =
    let z = get_or angles s (pos 0) in
    ap₂ (λ (x y : ℕ). x * 256 + y) (q ∙ e ∙ ap (of_z w16) (to_z-of_z w16 z (record { sfits = ok })) ∙ unsigned_is z) em

-- ---- the moves, row by row
quad-past : (b : List ℕ) (i q : ℕ) → 4 ≤ q → get_or (quad b i) q 0 ≡ 0
unfolding quad
quad-past b i zero h = absurd (omega arith)
quad-past b i (suc zero) h = absurd (omega arith)
quad-past b i (suc (suc zero)) h = absurd (omega arith)
quad-past b i (suc (suc (suc zero))) h = absurd (omega arith)
quad-past b i (suc (suc (suc (suc q)))) h = refl

pub row-past : (rows : List ℕ) (s u : ℕ) → 256 ≤ u → member (row rows s) u ≡ false
unfolding member
row-past rows s u h = rw (quad-past rows (4 * s) (u / 64) (omega arith)) (bit-zero (u % 64))

module _ (rows : List ℕ) where
  pub move-is : (s u : ℕ) → u < 65536 → is_move rows (s * 65536 + u) ≡ member (row rows s) u
  unfolding is_move leads
  move-is s u l =
      let e : (s * 65536 + u) / 65536 ≡ s = omega arith in
      let f : (s * 65536 + u) % 65536 ≡ u = omega arith in
      ap₂ (λ (a c : ℕ). member (row rows a) c) e f

  -- the moves from s, and those from rows before it
  abbrev of_row : ℕ → List ℕ
  of_row s = members_from (s * 65536) (row rows s)

  abbrev pub before : ℕ → List ℕ
  before s = passing (is_move rows) 0 (s * 65536)

  row-passing : (s : ℕ) → passing (is_move rows) (s * 65536) 65536 ≡ of_row s
  row-passing s =
      passing-add (is_move rows) (s * 65536) 256 65280 ∙ ap₂ ◌++◌ firsts (passing-nothing (is_move rows) 65280 (s * 65536 + 256) others) ∙ append-nil _
    where
      firsts : passing (is_move rows) (s * 65536) 256 ≡ of_row s
      firsts =
          passing-ext (is_move rows) (member_from (s * 65536) (row rows s)) 256 (s * 65536)
          (λ i l. move-is s i (omega arith) ∙ sym (from_is (s * 65536) (row rows s) i))

      others : (i : ℕ) → i < 65280 → is_move rows (s * 65536 + 256 + i) ≡ false
      others i l =
          let e : s * 65536 + 256 + i ≡ s * 65536 + (256 + i) = omega arith in
          rw e (move-is s (256 + i) (omega arith) ∙ row-past rows s (256 + i) (omega arith))

  pub rows_more : (s : ℕ) → before (s + 1) ≡ before s ++ of_row s
  rows_more s =
      let e : (s + 1) * 65536 ≡ s * 65536 + 65536 = omega arith in
      let f : 0 + s * 65536 ≡ s * 65536 = omega arith in
      rw e (passing-add (is_move rows) 0 (s * 65536) 65536 ∙ ap (λ (l : List ℕ). before s ++ l) (rw f (row-passing s)))

  -- their number
  row_count : (s : ℕ) → length (of_row s) ≡ count 256 (row rows s)
  unfolding count
  row_count s =
      passing-count (member_from (s * 65536) (row rows s)) (s * 65536) 256
      ∙ sum-ext 256 _ _ (λ i l. ap digit (from_is (s * 65536) (row rows s) i))

  count-rows : (s : ℕ) → length (before s) ≡ sum s (λ u. count 256 (row rows u))
  count-rows zero = ap length (passing-none (is_move rows) 0) ∙ sum-none _
  count-rows (suc s) =
      let e : suc s ≡ s + 1 = omega arith in
      rw e
      (ap length (rows_more s) ∙ length-append (before s) _ ∙ ap₂ ◌+◌ (count-rows s) (row_count s) ∙ sum_more s (λ u. count 256 (row rows u)))

  pub moves-count : move_count rows ≡ length (passing (is_move rows) 0 16777216)
  unfolding move_count
  moves-count = sym (count-rows 256)

-- ---- the section of the moves: how many, then the moves
pub moves_put : (rows : List ℕ) {o o' o'' : Output} (k : ℕ) → k ≡ move_count rows → Appends o (bytes16 k) o'
    → Appends o' (entries_bytes (move 0) (passing (is_move rows) 0 16777216)) o'' → Appends o (move_bytes rows) o''
moves_put rows k e p q = rw (section-is_both (move 0) (passing (is_move rows) 0 16777216) k (e ∙ moves-count rows)) (appends_then p q)
