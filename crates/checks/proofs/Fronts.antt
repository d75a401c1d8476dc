-- What is listed of a file is what is listed of its first 18,185 bytes: no section reads past 18,184, and one byte more is left over.
use Prim.Native.Nat.{ℕ, zero, suc, ◌+◌, ◌*◌, ◌≤◌, ◌<◌}
use native.Mathlib.Nat.{mul-le-mul}
use native.Mathlib.Omega.{arith}
use mathlib.Core.List.{List}
use mathlib.Core.Logic.{inl, inr}
use mathlib.Core.Path.{◌≡◌, refl, ap, ap₂}
use borrow.Author.Tests.{ltb-false, lt-ltb, le-ltb}
use lib.Dec.{ltb}
use lib.ListN.{length, get_or, take}
use lib.Seq.{length-take-le, take_all, get_or-take}
use Rattle.sets.proofs.Tests.{lt_or_ge}
use Rattle.tables.proofs.Sections.{entry-is, neither, section-is}
use Rattle.tables.specs.Format.{bits16, state_entry, move_entry, Kind, count, Section, states, numbers, moves, Contents}
use Rattle.tables.specs.Format.{Taken, refused_at, taken, and_then, entry, entries, section, past, ending, at2, at3, at4, at5, contents}
use Rattle.moves.specs.Models.{Control}
use Rattle.checks.specs.File.{read_listing, file_listing}
use Rattle.checks.specs.Check.{table_listing, check_listing}

-- what is taken after the same thing is the same
then_same : {A B : Type 0} (x y : Taken A) (f g : A → Taken B) → x ≡ y → ((a : A) → x ≡ taken a → f a ≡ g a) → and_then x f ≡ and_then y g
unfolding and_then
then_same (refused_at k at) y f g e h = rw (← e) refl
then_same (taken a) y f g e h = rw (← e) (h a refl)

-- ---- two files of at least n bytes, the first n of them the same
module _ (b c : List ℕ) (n : ℕ) (long : n ≤ length b) (long' : n ≤ length c) (same : (i : ℕ) → i < n → get_or b i 0 ≡ get_or c i 0) where
  -- the numbers that stand there
  bits_same : (at : ℕ) → at + 2 ≤ n → bits16 b at ≡ bits16 c at
  unfolding bits16
  bits_same at h = ap₂ (λ (x y : ℕ). x + 256 * y) (same at (omega arith)) (same (at + 1) (omega arith))

  state-same : (at : ℕ) → at + 3 ≤ n → state_entry b at ≡ state_entry c at
  unfolding state_entry
  state-same at h = ap₂ (λ (x y : ℕ). x * 256 + y) (bits_same at (omega arith)) (same (at + 2) (omega arith))

  move_same : (at : ℕ) → at + 4 ≤ n → move_entry b at ≡ move_entry c at
  unfolding move_entry
  move_same at h = ap₂ (λ (x y : ℕ). x * 65536 + y) (bits_same at (omega arith)) (bits_same (at + 2) (omega arith))

  -- a kind of which the same numbers stand in both
  abbrev Alike : Kind → Type 0
  Alike K = (at : ℕ) → at + K.width ≤ n → K.value b at ≡ K.value c at

  -- an entry, entries and a section that end within the n bytes
  entry-same : (K : Kind) → Alike K → (at low : ℕ) → at + K.width ≤ n → entry K b at low ≡ entry K c at low
  unfolding entry
  entry-same K alike at low h =
      rw (le-ltb (length b) (at + K.width) (omega arith), le-ltb (length c) (at + K.width) (omega arith), alike at h) refl

  entries-same : (K : Kind) → Alike K → (at low k : ℕ) → at + k * K.width ≤ n → entries K b at low k ≡ entries K c at low k
  unfolding entries
  entries-same K alike at low zero h = refl
  entries-same K alike at low (suc k) h =
      then_same (entry K b at low) (entry K c at low) _ _ (entry-same K alike at low (omega arith))
      (λ v e. then_same (entries K b (at + K.width) (suc v) k) _ _ _ (entries-same K alike (at + K.width) (suc v) k (omega arith)) (λ vs f. refl))

  section-same : (S : Section) → Alike S.kind → (at : ℕ) → at + 2 + S.most * S.kind.width ≤ n → section S b at ≡ section S c at
  unfolding section
  section-same S alike at h =
      then_same (entry (count S.least S.most) b at 0) _ _ _ (entry-same (count S.least S.most) bits_same at 0 (omega arith))
      (λ k e. entries-same S.kind alike (at + 2) 0 k (within k (counted k e)))
    where
      counted : (k : ℕ) → entry (count S.least S.most) b at 0 ≡ taken k → k ≤ S.most
      counted k e =
          let good = (entry-is (count S.least S.most) b at 0 k e).good in
          ltb-false S.most k (neither (ltb k S.least) (ltb S.most k) good).1

      within : (k : ℕ) → k ≤ S.most → at + 2 + k * S.kind.width ≤ n
      within k l = let m : k * S.kind.width ≤ S.most * S.kind.width = mul-le-mul l (omega arith) in omega arith

  -- an end before the n bytes do
  ending-same : (at : ℕ) (l : Contents) → at < n → ending b at l ≡ ending c at l
  unfolding ending
  ending-same at l h = rw (lt-ltb at (length b) (omega arith), lt-ltb at (length c) (omega arith)) refl

  -- the whole file, where n is past the longest one
  contents-same : 18184 < n → contents b ≡ contents c
  unfolding contents past
  contents-same h =
      then_same (section states b 0) _ _ _ (section-same states state-same 0 (omega arith)) (λ s es.
      let few = (section-is states b 0 s es).most in
      then_same _ _ _ _ (section-same (numbers (length s)) bits_same (at2 s) (omega arith)) (λ i ei.
      let starts = (section-is (numbers (length s)) b (at2 s) i ei).most in
      then_same _ _ _ _ (section-same (numbers (length s)) bits_same (at3 s i) (omega arith)) (λ p ep.
      let safe = (section-is (numbers (length s)) b (at3 s i) p ep).most in
      then_same _ _ _ _ (section-same (moves (length s)) move_same (at4 s i p) (omega arith)) (λ m em.
      let most = (section-is (moves (length s)) b (at4 s i p) m em).most in
      ending-same (at5 s i p m) (record { states = s; starts = i; safe = p; moves = m }) (omega arith)))))

-- ---- the front of a file
contents-front : (n : ℕ) (file : List ℕ) → 18184 < n → contents (take n file) ≡ contents file
contents-front n file h = elim (lt_or_ge (length file) n) [
  | inl l ↦ ap contents (take_all n file (omega arith))
  | inr l ↦ contents-same (take n file) file n (omega (arith, length-take-le n file l)) l (λ i k. get_or-take n file i 0 k) h
]

-- the same is listed of 18,185 bytes or more of a file, whatever is listed of a table
file_from : (ofTable : Control → List ℕ) (n : ℕ) (file : List ℕ) → 18184 < n → file_listing ofTable (take n file) ≡ file_listing ofTable file
unfolding file_listing
file_from ofTable n file h = ap (read_listing ofTable) (contents-front n file h)

pub file_front : (ofTable : Control → List ℕ) (file : List ℕ) → file_listing ofTable (take 18185 file) ≡ file_listing ofTable file
file_front ofTable file = file_from ofTable 18185 file (omega arith)

-- so of the 18,185 bytes that `check` reads
pub check_front : (file : List ℕ) → check_listing (take 18185 file) ≡ check_listing file
check_front = file_front table_listing
