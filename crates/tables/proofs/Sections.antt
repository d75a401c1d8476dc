-- Entries and sections that were taken: what they are, and that the file has room for them.
use Prim.Native.Nat.{ℕ, zero, suc, ◌+◌, ◌*◌, ◌≤◌}
use native.Mathlib.Omega.{arith}
use mathlib.Core.Path.{◌≡◌, refl, sym, ap, ap₂, ◌∙◌}
use mathlib.Core.Bool.{Bool, true, false, ◌&&◌, ◌||◌, cond}
use mathlib.Core.List.{List, [], ◌∷◌}
use borrow.Author.Tests.{ltb-false}
use lib.Dec.{ltb}
use lib.ListN.{length}
use Rattle.sets.specs.Lists.{tabulate}
use Rattle.sets.proofs.Lists.{length-tabulate, tabulate-ext}
use Rattle.tables.specs.Format.{bits16, Kind, count, Section, Taken, refused_at, taken, and_then, entry, entries, section, past}
use Rattle.tables.specs.Inner.{values}
use Rattle.tables.proofs.Filling.{values-none}

-- ---- an entry that was taken
pub record Entry (K : Kind) (b : List ℕ) (at low v : ℕ) : Type 0 where
  pub room : at + K.width ≤ length b
  pub good : K.bad v ≡ false
  pub rises : (K.rises && ltb v low) ≡ false
  pub is : v ≡ K.value b at

pub entry-is : (K : Kind) (b : List ℕ) (at low v : ℕ) → entry K b at low ≡ taken v → Entry K b at low v
unfolding entry
entry-is K b at low v e =
    go (ltb (length b) (at + K.width)) (K.bad (K.value b at)) (K.rises && ltb (K.value b at) low) (ltb-false _ _) refl refl e
  where
    go : (r s t : Bool) → (r ≡ false → at + K.width ≤ length b) → K.bad (K.value b at) ≡ s → (K.rises && ltb (K.value b at) low) ≡ t
        → cond r (refused_at 1 at) (cond s (refused_at K.refusal at) (cond t (refused_at 5 at) (taken (K.value b at)))) ≡ taken v
        → Entry K b at low v
    go true s t h f g q = cc
    go false true t h f g q = cc
    go false false true h f g q = cc
    go false false false h f g q = let z : v ≡ K.value b at = cc in record { room = h refl; good = rw z f; rises = rw z g; is = z }

-- entries that were taken: the first, and the others
pub record First (K : Kind) (b : List ℕ) (at low k : ℕ) (vs : List ℕ) : Type 0 where
  pub head : ℕ
  pub tail : List ℕ
  pub both : vs ≡ head ∷ tail
  pub entry : Entry K b at low head
  pub others : entries K b (at + K.width) (suc head) k ≡ taken tail

pub first : (K : Kind) (b : List ℕ) (at low k : ℕ) (vs : List ℕ) → entries K b at low (suc k) ≡ taken vs → First K b at low k vs
unfolding entries and_then
first K b at low k vs e = go (entry K b at low) refl e
  where
    rest : (v : ℕ) → Entry K b at low v → (y : Taken (List ℕ)) → entries K b (at + K.width) (suc v) k ≡ y
        → and_then y (λ vs. taken (v ∷ vs)) ≡ taken vs → First K b at low k vs
    rest v t (refused_at r a) p q = cc
    rest v t (taken ws) p q = record { head = v; tail = ws; both = cc; entry = t; others = p }

    go : (x : Taken ℕ) → entry K b at low ≡ x → and_then x (λ v. and_then (entries K b (at + K.width) (suc v) k) (λ vs. taken (v ∷ vs))) ≡ taken vs
        → First K b at low k vs
    go (refused_at r a) p q = cc
    go (taken v) p q = rest v (entry-is K b at low v p) (entries K b (at + K.width) (suc v) k) refl q

-- they are what stands there, and there is room for them
module _ (K : Kind) (b : List ℕ) where
  values-suc : (at k : ℕ) → values K b at (suc k) ≡ K.value b at ∷ values K b (at + K.width) k
  unfolding values tabulate
  values-suc at k =
      let e : at + 0 * K.width ≡ at = omega arith in
      rw e (ap (λ (l : List ℕ). K.value b at ∷ l) (shift k))
    where
      shift : (k : ℕ) → tabulate k (λ i. K.value b (at + suc i * K.width)) ≡ tabulate k (λ i. K.value b (at + K.width + i * K.width))
      shift k = tabulate-ext 0 k _ _ (λ i l. let f : at + suc i * K.width ≡ at + K.width + i * K.width = omega arith in ap (K.value b) f)

  pub entries-are : (k at low : ℕ) (vs : List ℕ) → entries K b at low k ≡ taken vs → vs ≡ values K b at k
  unfolding entries
  entries-are zero at low vs e = let q : [] ≡ vs = cc in sym q ∙ sym (values-none K b at)
  entries-are (suc k) at low vs e =
      let f = first K b at low k vs e in
      f.both
      ∙ ap₂ (λ (x : ℕ) (l : List ℕ). x ∷ l) f.entry.is (entries-are k (at + K.width) (suc f.head) f.tail f.others)
      ∙ sym (values-suc at k)

  pub entries-room : (k at low : ℕ) (vs : List ℕ) → at ≤ length b → entries K b at low k ≡ taken vs → at + k * K.width ≤ length b
  entries-room zero at low vs h e = omega arith
  entries-room (suc k) at low vs h e =
      let f = first K b at low k vs e in
      let r = entries-room k (at + K.width) (suc f.head) f.tail f.entry.room f.others in
      omega arith

pub length-values : (K : Kind) (b : List ℕ) (at k : ℕ) → length (values K b at k) ≡ k
unfolding values
length-values K b at k = length-tabulate k (λ i. K.value b (at + i * K.width))

-- ---- a section that was taken
pub neither : (x y : Bool) → (x || y) ≡ false → (x ≡ false) × (y ≡ false)
neither true y e = cc
neither false y e = (refl, e)

pub record Whole (S : Section) (b : List ℕ) (at : ℕ) (vs : List ℕ) : Type 0 where
  pub least : S.least ≤ length vs
  pub most : length vs ≤ S.most
  pub is : vs ≡ values S.kind b (at + 2) (length vs)
  pub room : past S.kind at vs ≤ length b
  pub counted : bits16 b at ≡ length vs
  pub entered : entries S.kind b (at + 2) 0 (length vs) ≡ taken vs

pub section-is : (S : Section) (b : List ℕ) (at : ℕ) (vs : List ℕ) → section S b at ≡ taken vs → Whole S b at vs
unfolding section and_then past
section-is S b at vs e = go (entry (count S.least S.most) b at 0) refl e
  where
    go : (x : Taken ℕ) → entry (count S.least S.most) b at 0 ≡ x → and_then x (λ k. entries S.kind b (at + 2) 0 k) ≡ taken vs
        → Whole S b at vs
    go (refused_at r a) p q = cc
    go (taken k) p q =
        let t = entry-is (count S.least S.most) b at 0 k p in
        let o = neither (ltb k S.least) (ltb S.most k) t.good in
        let i = entries-are S.kind b k (at + 2) 0 vs q in
        let n : length vs ≡ k = ap length i ∙ length-values S.kind b (at + 2) k in
        let r = entries-room S.kind b k (at + 2) 0 vs t.room q in
        record {
          least = rw n (ltb-false k S.least o.0);
          most = rw n (ltb-false S.most k o.1);
          is = rw n i;
          room = rw n r;
          counted = sym t.is ∙ sym n;
          entered = rw n q;
        }
