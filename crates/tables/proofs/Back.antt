-- Entries, sections and whole files: what is written reads back, and what is read writes out the same.
use Prim.Native.Nat.{ℕ, zero, suc, ◌+◌, ◌-◌, ◌*◌, ◌/◌, ◌%◌, ◌≤◌, ◌<◌}
use native.Mathlib.Omega.{arith}
use mathlib.Core.Path.{◌≡◌, refl, sym, ap, ◌∙◌}
use mathlib.Core.Bool.{false, ◌&&◌}
use mathlib.Core.List.{List, [], ◌∷◌, ◌++◌, append_assoc, append-nil}
use borrow.Author.Tests.{le-ltb, leb-false}
use lib.Dec.{leb, ltb}
use lib.ListN.{length, drop, length-append, length-drop, drop_of_length-le}
use lib.Seq.{drop-drop, drop_at}
use Rattle.tables.specs.Format.{bytes16, Kind, count, state, number, move_entry, move, Section, states, numbers, moves, Contents}
use Rattle.tables.specs.Format.{Taken, refused_at, taken, and_then, entry, entries, section, past, at2, at3, at4, at5, ending, contents}
use Rattle.tables.specs.Format.{entries_bytes, section_bytes, file_bytes}
use Rattle.tables.proofs.Inverse.{bytes_drop, Inverse, count-inverse, number-inverse, state-inverse, move-inverse}
use Rattle.tables.specs.RoundTrip.{Bytes}
use Rattle.tables.proofs.Sections.{first, neither, Whole}
use Rattle.tables.proofs.Files.{File, contents-is}
use Rattle.tables.proofs.Taking.{entry-taken, or-neither}

-- numbers that may stand in a section, from low on
pub data Fine (K : Kind) (top : ℕ) : ℕ → List ℕ → Type 0 where
  none : {low : ℕ} → Fine K top low []
  one : {low v : ℕ} {vs : List ℕ} → v < top → K.bad v ≡ false → (K.rises && ltb v low) ≡ false → Fine K top (suc v) vs
      → Fine K top low (v ∷ vs)

-- ---- entries
-- what was read may stand there, where numbers that are not refused are below the bound
module _ (K : Kind) (top : ℕ) (b : List ℕ) (tops : (at : ℕ) → K.bad (K.value b at) ≡ false → K.value b at < top) where
  read-fine : (k at low : ℕ) (vs : List ℕ) → entries K b at low k ≡ taken vs → Fine K top low vs
  unfolding entries
  read-fine zero at low vs e = let q : [] ≡ vs = cc in rw (← q) none
  read-fine (suc k) at low vs e =
      let f = first K b at low k vs e in
      let t = f.entry in
      let h : f.head < top = rw t.is (tops at (rw t.is at t.good)) in
      rw f.both (one h t.good t.rises (read-fine k (at + K.width) (suc f.head) f.tail f.others))

pub move-good : (N v : ℕ) → (move N).bad v ≡ false → (v / 65536 < N) × (v % 65536 < N)
move-good N v e =
    let (from, to) = neither (leb N (v / 65536)) (leb N (v % 65536)) e in
    (leb-false N (v / 65536) from, leb-false N (v % 65536) to)

-- moves of at most 256 states are below the bound whatever the bytes are
pub moves-fine : (N : ℕ) → N ≤ 256 → (b : List ℕ) (k at : ℕ) (vs : List ℕ) → entries (move N) b at 0 k ≡ taken vs → Fine (move N) 4294967296 0 vs
moves-fine N few b k at vs e =
    read-fine (move N) 4294967296 b (λ at q. let (from, to) = move-good N (move_entry b at) q in omega arith) k at 0 vs e

module _ (K : Kind) (top : ℕ) (W : Inverse K top) (b : List ℕ) where
  module _ (B : Bytes b) where
    pub read-bytes_fine : (k at low : ℕ) (vs : List ℕ) → entries K b at low k ≡ taken vs → Fine K top low vs
    read-bytes_fine = read-fine K top b (λ at q. rw (W.near b at) (W.tops (drop at b) (bytes_drop b at B)))

    pub read-bytes : (k at low : ℕ) (vs : List ℕ) → entries K b at low k ≡ taken vs
        → drop at b ≡ entries_bytes K vs ++ drop (at + k * K.width) b
    unfolding entries entries_bytes
    read-bytes zero at low vs e =
        let q : [] ≡ vs = cc in
        let z : at + 0 * K.width ≡ at = omega arith in
        rw (← q, z)
    read-bytes (suc k) at low vs e =
        let f = first K b at low k vs e in
        let t = f.entry in
        let q : at + suc k * K.width ≡ at + K.width + k * K.width = omega arith in
        sym (W.forth (drop at b) (rw length-drop (let r = t.room in omega arith)) (bytes_drop b at B))
        ∙ rw (f.both, drop-drop, ← W.near b at, ← t.is, q, append_assoc)
        (ap (λ (l : List ℕ). K.bytes f.head ++ l) (read-bytes k (at + K.width) (suc f.head) f.tail f.others))

  pub record Back (at low : ℕ) (vs rest : List ℕ) : Type 0 where
    pub same : entries K b at low (length vs) ≡ taken vs
    pub ends : drop (at + length vs * K.width) b ≡ rest

  pub written_back : (vs rest : List ℕ) (at low : ℕ) → Fine K top low vs → drop at b ≡ entries_bytes K vs ++ rest → Back at low vs rest
  unfolding entries entries_bytes and_then
  written_back [] rest at low none e = record { same = refl; ends = let q : at + 0 * K.width ≡ at = omega arith in rw q e }
  written_back (v ∷ vs) rest at low (one t g l o) e =
      let others = entries_bytes K vs ++ rest in
      let e' : drop at b ≡ K.bytes v ++ others = e ∙ append_assoc (K.bytes v) (entries_bytes K vs) rest in
      let is : K.value b at ≡ v = W.near b at ∙ rw e' (W.back v others t) in
      let left : length b - at ≡ length (K.bytes v) + length others = sym (length-drop at b) ∙ ap length e' ∙ length-append (K.bytes v) others in
      let room : at + K.width ≤ length b = omega (arith, left, W.long v, W.some) in
      let d : drop (at + K.width) b ≡ others = sym (drop-drop K.width at b) ∙ rw e' (drop_at (K.bytes v) others K.width (W.long v)) in
      let r = written_back vs rest (at + K.width) (suc v) o d in
      let q : at + suc (length vs) * K.width ≡ at + K.width + length vs * K.width = omega arith in
      let next : ℕ → Taken (List ℕ) = λ w. and_then (entries K b (at + K.width) (suc w) (length vs)) (λ ws. taken (w ∷ ws)) in
      record {
        same = sym (ap (λ (x : Taken ℕ). and_then x next) (entry-taken K b at low room (rw is g) (rw is l))) ∙ rw (is, r.same);
        ends = rw q r.ends;
      }

-- ---- sections
module _ (S : Section) (top : ℕ) (W : Inverse S.kind top) (b : List ℕ) where
  one-bytes : (v : ℕ) (rest : List ℕ) → bytes16 v ++ rest ≡ entries_bytes (count S.least S.most) (v ∷ []) ++ rest
  unfolding entries_bytes
  one-bytes v rest = refl

  pub section-bytes : Bytes b → (at : ℕ) (vs : List ℕ) → Whole S b at vs
      → drop at b ≡ section_bytes S.kind vs ++ drop (past S.kind at vs) b
  unfolding section_bytes past
  section-bytes B at vs w =
      let l : at + 2 ≤ length b = let r = w.room in room r in
      sym ((count-inverse 0 0).forth (drop at b) (rw length-drop (omega arith)) (bytes_drop b at B))
      ∙ rw (drop-drop, ← (count-inverse 0 0).near b at, w.counted)
      (ap (λ (t : List ℕ). bytes16 (length vs) ++ t) (read-bytes S.kind top W b B (length vs) (at + 2) 0 vs w.entered))
    where
      room : at + 2 + length vs * S.kind.width ≤ length b → at + 2 ≤ length b
      room h = omega arith

  pub record Sectioned (at : ℕ) (vs rest : List ℕ) : Type 0 where
    pub same : section S b at ≡ taken vs
    pub ends : drop (past S.kind at vs) b ≡ rest

  pub section-back : (vs rest : List ℕ) (at : ℕ) → Fine S.kind top 0 vs → S.least ≤ length vs → length vs ≤ S.most → length vs < 65536
      → drop at b ≡ section_bytes S.kind vs ++ rest → Sectioned at vs rest
  unfolding section_bytes section past and_then entries
  section-back vs rest at f l m t e =
      let k = length vs in
      let C = count S.least S.most in
      let fine : Fine C 65536 0 (k ∷ []) = one {low = 0} t (or-neither _ _ (le-ltb k S.least l) (le-ltb S.most k m)) refl none in
      let others = entries_bytes S.kind vs ++ rest in
      let e' : drop at b ≡ bytes16 k ++ others = e ∙ append_assoc (bytes16 k) (entries_bytes S.kind vs) rest in
      let c = written_back C 65536 (count-inverse S.least S.most) b (k ∷ []) others at 0 fine (e' ∙ one-bytes k others) in
      let z : at + 1 * 2 ≡ at + 2 = omega arith in
      let r = written_back S.kind top W b vs rest (at + 2) 0 f (rw z at c.ends) in
      record { same = ap (λ (x : Taken ℕ). and_then x (λ k. entries S.kind b (at + 2) 0 k)) (one_entry C at k c.same) ∙ r.same; ends = r.ends }
    where
      one_entry : (K : Kind) (at v : ℕ) → and_then (entry K b at 0) (λ v. and_then (taken []) (λ vs. taken (v ∷ vs))) ≡ taken (v ∷ [])
          → entry K b at 0 ≡ taken v
      one_entry K at v q = go (entry K b at 0) q
        where
          go : (x : Taken ℕ) → and_then x (λ v. and_then (taken []) (λ vs. taken (v ∷ vs))) ≡ taken (v ∷ []) → x ≡ taken v
          go (refused_at r a) q = cc
          go (taken w) q = let z : w ≡ v = cc in rw z

-- ---- files
-- what a file may hold
pub record Good (l : Contents) : Type 0 where
  pub some : 1 ≤ length l.states
  pub few : length l.states ≤ 256
  pub states : Fine state 16777216 0 l.states
  pub few_starts : length l.starts ≤ length l.states
  pub starts : Fine (number (length l.states)) 65536 0 l.starts
  pub few_safe : length l.safe ≤ length l.states
  pub safe : Fine (number (length l.states)) 65536 0 l.safe
  pub few_moves : length l.moves ≤ 4096
  pub moves : Fine (move (length l.states)) 4294967296 0 l.moves

-- what was read is good, and its bytes are the file's
pub read-good : (b : List ℕ) (l : Contents) → Bytes b → contents b ≡ taken l → Good l
read-good b l B e =
    let f = contents-is b l e in
    record {
      some = f.states.least;
      few = f.states.most;
      states = read-bytes_fine state 16777216 state-inverse b B _ 2 0 _ f.states.entered;
      few_starts = f.starts.most;
      starts = read-bytes_fine (number (length l.states)) 65536 (number-inverse _) b B _ _ 0 _ f.starts.entered;
      few_safe = f.safe.most;
      safe = read-bytes_fine (number (length l.states)) 65536 (number-inverse _) b B _ _ 0 _ f.safe.entered;
      few_moves = f.moves.most;
      moves = moves-fine (length l.states) f.states.most b _ _ _ f.moves.entered;
    }

-- entries' bytes do not depend on N
same_bytes : (K L : Kind) → ((v : ℕ) → K.bytes v ≡ L.bytes v) → (vs : List ℕ) → section_bytes K vs ≡ section_bytes L vs
unfolding section_bytes entries_bytes
same_bytes K L h vs = ap (λ (t : List ℕ). bytes16 (length vs) ++ t) (go vs)
  where
    go : (vs : List ℕ) → entries_bytes K vs ≡ entries_bytes L vs
    go [] = refl
    go (v ∷ vs) = rw (h v, go vs)

number-bytes : (N : ℕ) (vs : List ℕ) → section_bytes (number 0) vs ≡ section_bytes (number N) vs
number-bytes N = same_bytes (number 0) (number N) (λ v. refl)

move-bytes : (N : ℕ) (vs : List ℕ) → section_bytes (move 0) vs ≡ section_bytes (move N) vs
move-bytes N = same_bytes (move 0) (move N) (λ v. refl)

-- the sections of a file, with N
module _ (l : Contents) where
  abbrev N : ℕ
  N = length l.states

  abbrev rest3 : List ℕ
  rest3 = section_bytes (move N) l.moves ++ []

  abbrev rest2 : List ℕ
  rest2 = section_bytes (number N) l.safe ++ rest3

  abbrev rest1 : List ℕ
  rest1 = section_bytes (number N) l.starts ++ rest2

  bytes_are : file_bytes l ≡ section_bytes state l.states ++ rest1
  unfolding file_bytes
  bytes_are = rw (number-bytes N l.starts, number-bytes N l.safe, move-bytes N l.moves, append-nil)

  -- what was read writes out the same
  module _ (b : List ℕ) (B : Bytes b) (e : contents b ≡ taken l) where
    f : File b l
    f = contents-is b l e

    d4 : drop (at4 l.states l.starts l.safe) b ≡ rest3
    unfolding past
    d4 =
        section-bytes (moves N) 4294967296 (move-inverse N) b B (at4 l.states l.starts l.safe) l.moves f.moves
        ∙ ap (λ (t : List ℕ). section_bytes (move N) l.moves ++ t) (drop_of_length-le b f.ends)

    d3 : drop (at3 l.states l.starts) b ≡ rest2
    unfolding past
    d3 =
        section-bytes (numbers N) 65536 (number-inverse N) b B (at3 l.states l.starts) l.safe f.safe
        ∙ ap (λ (t : List ℕ). section_bytes (number N) l.safe ++ t) d4

    d2 : drop (at2 l.states) b ≡ rest1
    unfolding past
    d2 =
        section-bytes (numbers N) 65536 (number-inverse N) b B (at2 l.states) l.starts f.starts
        ∙ ap (λ (t : List ℕ). section_bytes (number N) l.starts ++ t) d3

    whole : b ≡ section_bytes state l.states ++ rest1
    whole =
        section-bytes states 16777216 state-inverse b B 0 l.states f.states
        ∙ ap (λ (t : List ℕ). section_bytes state l.states ++ t) d2

  pub read_same : (b : List ℕ) → Bytes b → contents b ≡ taken l → file_bytes l ≡ b
  read_same b B e = bytes_are ∙ sym (whole b B e)

  -- what was written reads back
  module _ (g : Good l) where
    abbrev written : List ℕ
    written = file_bytes l

    s1 : Sectioned states 16777216 state-inverse written 0 l.states rest1
    s1 =
        section-back states 16777216 state-inverse written l.states rest1 0 g.states g.some g.few
        (let h = g.few in omega arith) bytes_are

    s2 : Sectioned (numbers N) 65536 (number-inverse N) written (at2 l.states) l.starts rest2
    s2 =
        section-back (numbers N) 65536 (number-inverse N) written l.starts rest2 (at2 l.states) g.starts (omega arith) g.few_starts
        (let h = g.few in let k = g.few_starts in omega arith) s1.ends

    s3 : Sectioned (numbers N) 65536 (number-inverse N) written (at3 l.states l.starts) l.safe rest3
    unfolding past
    s3 =
        section-back (numbers N) 65536 (number-inverse N) written l.safe rest3 (at3 l.states l.starts) g.safe (omega arith)
        g.few_safe (let h = g.few in let k = g.few_safe in omega arith) s2.ends

    s4 : Sectioned (moves N) 4294967296 (move-inverse N) written (at4 l.states l.starts l.safe) l.moves []
    unfolding past
    s4 =
        section-back (moves N) 4294967296 (move-inverse N) written l.moves [] (at4 l.states l.starts l.safe) g.moves (omega arith)
        g.few_moves (let k = g.few_moves in omega arith) s3.ends

    over : length written ≤ at5 l.states l.starts l.safe l.moves
    unfolding past
    over = let h = sym (length-drop (at5 l.states l.starts l.safe l.moves) written) ∙ ap length s4.ends in omega arith

    pub written_same : contents written ≡ taken l
    unfolding contents and_then ending past
    written_same =
        rw (s1.same, s2.same, s3.same, s4.same, le-ltb (at5 l.states l.starts l.safe l.moves) (length written) over)
