-- The line of a refused file is short: its number has at most two digits, and its offset is no more than the file's length.
use Prim.Native.Nat.{ℕ, zero, suc, ◌+◌, ◌^◌, ◌≤◌, ◌<◌}
use native.Mathlib.Omega.{arith}
use mathlib.Core.Bool.{Bool, true, false, ◌&&◌, cond}
use mathlib.Core.List.{List}
use mathlib.Core.Path.{◌≡◌, refl}
use lib.Dec.{ltb}
use lib.ListN.{length}
use Rattle.moves.specs.Models.{Control}
use Rattle.tables.proofs.Sections.{entry-is, section-is}
use Rattle.tables.specs.Control.{control_of}
use Rattle.tables.specs.Format.{Kind, count, Section, states, numbers, moves, Contents, at2, at3, at4, at5}
use Rattle.tables.specs.Format.{Taken, refused_at, taken, and_then, entry, entries, section, past, ending, contents}
use Rattle.checks.specs.File.{read_listing, file_listing}
use Rattle.checks.proofs.Lengths.{refused_length}

-- a refusal's number has at most two digits, and its offset is no more than n
data Stops {A : Type 0} (n : ℕ) : Taken A → Type 0 where
  stops : (k at : ℕ) → k < 100 → at ≤ n → Stops n (refused_at k at)
  goes : (a : A) → Stops n (taken a)

then-stops :
    {A B : Type 0} (n : ℕ) (x : Taken A) (f : A → Taken B) → Stops n x → ((a : A) → x ≡ taken a → Stops n (f a)) → Stops n (and_then x f)
unfolding and_then
then-stops n (refused_at k at) f (stops _ _ h l) g = stops k at h l
then-stops n (taken a) f s g = g a refl

module _ (b : List ℕ) where
  -- so is that of an entry, of entries, of a section, of the end and of a whole file
  entry-stops : (K : Kind) (at low : ℕ) → K.refusal < 100 → at ≤ length b → Stops (length b) (entry K b at low)
  unfolding entry
  entry-stops K at low h l = go (ltb (length b) (at + K.width)) (K.bad (K.value b at)) (K.rises && ltb (K.value b at) low)
    where
      go : (r s t : Bool)
          → Stops (length b) (cond r (refused_at 1 at) (cond s (refused_at K.refusal at) (cond t (refused_at 5 at) (taken (K.value b at)))))
      go true s t = stops 1 at (omega arith) l
      go false true t = stops K.refusal at h l
      go false false true = stops 5 at (omega arith) l
      go false false false = goes _

  entries-stop : (K : Kind) (at low k : ℕ) → K.refusal < 100 → at ≤ length b → Stops (length b) (entries K b at low k)
  unfolding entries
  entries-stop K at low zero h l = goes _
  entries-stop K at low (suc k) h l =
      then-stops (length b) (entry K b at low) _ (entry-stops K at low h l)
      (λ v e.
      then-stops (length b) (entries K b (at + K.width) (suc v) k) _
      (entries-stop K (at + K.width) (suc v) k h (entry-is K b at low v e).room) (λ vs e. goes _))

  section-stops : (S : Section) (at : ℕ) → S.kind.refusal < 100 → at ≤ length b → Stops (length b) (section S b at)
  unfolding section
  section-stops S at h l =
      then-stops (length b) (entry (count S.least S.most) b at 0) _ (entry-stops (count S.least S.most) at 0 (omega arith) l)
      (λ k e. entries-stop S.kind (at + 2) 0 k h (entry-is (count S.least S.most) b at 0 k e).room)

  ending-stops : (at : ℕ) (l : Contents) → at ≤ length b → Stops (length b) (ending b at l)
  unfolding ending
  ending-stops at l h = go (ltb at (length b))
    where
      go : (t : Bool) → Stops (length b) (cond t (refused_at 6 at) (taken l))
      go true = stops 6 at (omega arith) h
      go false = goes l

  contents-stops : Stops (length b) (contents b)
  unfolding contents past
  contents-stops =
      then-stops (length b) (section states b 0) _ (section-stops states 0 (omega arith) (omega arith)) (λ s es.
      let room = (section-is states b 0 s es).room in
      then-stops (length b) _ _ (section-stops (numbers (length s)) (at2 s) (omega arith) room) (λ i ei.
      let room = (section-is (numbers (length s)) b (at2 s) i ei).room in
      then-stops (length b) _ _ (section-stops (numbers (length s)) (at3 s i) (omega arith) room) (λ p ep.
      let room = (section-is (numbers (length s)) b (at3 s i) p ep).room in
      then-stops (length b) _ _ (section-stops (moves (length s)) (at4 s i p) (omega arith) room) (λ m em.
      ending-stops (at5 s i p m) _ (section-is (moves (length s)) b (at4 s i p) m em).room))))

-- so the listing of a file whose length is a number of 64 bits, and so below 10^20, has room where that of its table has
pub file-fits :
    (ofTable : Control → List ℕ) (room : ℕ) (file : List ℕ) → length file < 10 ^ 20 → 35 ≤ room
    → ((l : Contents) → contents file ≡ taken l → length (ofTable (control_of l)) ≤ room) → length (file_listing ofTable file) ≤ room
unfolding file_listing read_listing
file-fits ofTable room file short most fits = go (contents file) refl (contents-stops file)
  where
    go : (x : Taken Contents) → contents file ≡ x → Stops (length file) x → length (read_listing ofTable x) ≤ room
    go (refused_at k at) e (stops _ _ h l) = omega (arith, refused_length k at h (omega arith))
    go (taken l) e s = fits l e
