-- The numbers that a reading refuses with: 1 to 5 in a section, 6 after the last, so that 0 says that the file was taken.
use Prim.Native.Nat.{ℕ, zero, suc, ◌+◌}
use mathlib.Core.Path.{◌≡◌, refl}
use mathlib.Core.Bool.{Bool, true, false, ◌&&◌, ◌||◌, cond}
use mathlib.Core.List.{List, [], ◌∷◌}
use lib.Dec.{eqb, ltb}
use lib.IntN.{ℤ}
use lib.ListN.{length}
use Rattle.answers.specs.Refusals.{one_of}
use Rattle.tables.specs.Format.{Kind, count, Section, states, numbers, moves, section_number, Contents}
use Rattle.tables.specs.Format.{Taken, refused_at, taken, and_then, entry, entries, section, ending, contents}
use Rattle.tables.specs.Control.{sized, reading}
use Rattle.tables.specs.Said.{section_step}

-- taken, or refused with one of some numbers
pub data Numbered (ns : List ℕ) {A : Type 0} : Taken A → Type 0 where
  off : {k at : ℕ} → one_of ns k ≡ true → Numbered ns (refused_at k at)
  on : {a : A} → Numbered ns (taken a)

then_numbered : (ns : List ℕ) {A B : Type 0} (x : Taken A) (f : A → Taken B) → Numbered ns x → ((a : A) → Numbered ns (f a)) → Numbered ns (and_then x f)
unfolding and_then
then_numbered ns (refused_at k at) f (off h) g = off h
then_numbered ns (taken a) f on g = g a

module _ (ns : List ℕ) (one : one_of ns 1 ≡ true) (five : one_of ns 5 ≡ true) where
  module _ (K : Kind) (h : one_of ns K.refusal ≡ true) (b : List ℕ) where
    entry-numbered : (at low : ℕ) → Numbered ns (entry K b at low)
    unfolding entry
    entry-numbered at low = go (ltb (length b) (at + K.width)) (K.bad (K.value b at)) (K.rises && ltb (K.value b at) low)
      where
        go : (r s t : Bool)
            → Numbered ns (cond r (refused_at 1 at) (cond s (refused_at K.refusal at) (cond t (refused_at 5 at) (taken (K.value b at)))))
        go true s t = off one
        go false true t = off h
        go false false true = off five
        go false false false = on

    entries-numbered : (k at low : ℕ) → Numbered ns (entries K b at low k)
    unfolding entries
    entries-numbered zero at low = on
    entries-numbered (suc k) at low =
        then_numbered ns _ _ (entry-numbered at low) (λ v. then_numbered ns _ _ (entries-numbered k (at + K.width) (suc v)) (λ vs. on))

  section-numbered : (S : Section) → one_of ns 2 ≡ true → one_of ns S.kind.refusal ≡ true → (b : List ℕ) (at : ℕ) → Numbered ns (section S b at)
  unfolding section
  section-numbered S two h b at =
      then_numbered ns _ _ (entry-numbered (count S.least S.most) two b at 0) (λ k. entries-numbered S.kind h b k (at + 2) 0)

-- what `take` and `section_of` refuse with
abbrev in_section : List ℕ
in_section = 1 ∷ 2 ∷ 3 ∷ 4 ∷ 5 ∷ []

pub step_numbered : (i N : ℕ) (b : List ℕ) (at : ℕ) → Numbered in_section (section_step (section_number i N) b at)
unfolding section_step section_number one_of
step_numbered i N b at = then_numbered in_section _ _ (go (eqb i 1) (eqb i 4)) (λ vs. on)
  where
    go : (p q : Bool) → Numbered in_section (section (cond p states (cond q (moves N) (numbers N))) b at)
    go true q = section-numbered in_section refl refl states refl refl b at
    go false true = section-numbered in_section refl refl (moves N) refl refl b at
    go false false = section-numbered in_section refl refl (numbers N) refl refl b at

-- what reading a file refuses with
abbrev in_file : List ℕ
in_file = 1 ∷ 2 ∷ 3 ∷ 4 ∷ 5 ∷ 6 ∷ []

contents-numbered : (b : List ℕ) → Numbered in_file (contents b)
unfolding contents ending one_of
contents-numbered b =
    then_numbered in_file _ _ (section-numbered in_file refl refl states refl refl b 0) (λ s.
    then_numbered in_file _ _ (section-numbered in_file refl refl (numbers (length s)) refl refl b _) (λ i.
    then_numbered in_file _ _ (section-numbered in_file refl refl (numbers (length s)) refl refl b _) (λ p.
    then_numbered in_file _ _ (section-numbered in_file refl refl (moves (length s)) refl refl b _) (λ m.
    end (ltb _ (length b)) _ _))))
  where
    end : (t : Bool) (at : ℕ) (l : Contents) → Numbered in_file (cond t (refused_at 6 at) (taken l))
    end true at l = off refl
    end false at l = on

pub reading-numbered : (b rows : List ℕ) (angles : List ℤ) (modes : List ℕ) → Numbered (7 ∷ in_file) (reading b rows angles modes)
unfolding reading one_of
reading-numbered b rows angles modes = go (sized rows angles modes) (contents b) (contents-numbered b)
  where
    or-true : (a b : Bool) → b ≡ true → (a || b) ≡ true
    or-true true b e = refl
    or-true false b e = e

    go : (t : Bool) (x : Taken Contents) → Numbered in_file x → Numbered (7 ∷ in_file) (cond t x (refused_at 7 0))
    go true (refused_at k at) (off h) = off (or-true (eqb k 7) _ h)
    go true (taken l) on = on
    go false x n = off refl
