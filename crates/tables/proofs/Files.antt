-- A file that was taken: its four sections, where they stand, and what `read` makes of them.
use Prim.Native.Nat.{ℕ, ◌+◌, ◌*◌, ◌≤◌}
use mathlib.Core.Path.{◌≡◌, refl, sym, ap, ◌∙◌}
use mathlib.Core.Bool.{Bool, true, false, cond}
use mathlib.Core.List.{List}
use borrow.Author.Tests.{ltb-false, eqb-true}
use lib.Dec.{eqb, ltb}
use lib.IntN.{ℤ}
use lib.ListN.{length}
use Rattle.std.specs.Prelude.{Result, Ok, Err, IsErrAnd}
use Rattle.answers.specs.declared.Refusal.TheVariants.{WrongLength}
use Rattle.moves.specs.Models.{control}
use Rattle.rules.specs.Table.{Table}
use Rattle.sets.proofs.Tests.{and-true}
use Rattle.tables.specs.Format.{states, numbers, moves, state, number, move, Contents, Taken, refused_at, taken, and_then, past, ending, contents}
pub use Rattle.tables.specs.Format.{at2, at3, at4, at5}
use Rattle.tables.specs.Control.{set_of_entries, rows_of_entries, angles_of_entries, modes_of_entries, control_of, sized, reading}
use Rattle.tables.specs.Said.{said_reading, Read}
use Rattle.tables.specs.Inner.{Lengths, said_counts, counts_of, counts_read, values, Fillable}
use Rattle.tables.specs.declared.counts.Counts.{Counts}
use Rattle.tables.specs.declared.Fault.{Fault}
use Rattle.tables.specs.declared.Reading.{Reading}
use Rattle.tables.proofs.Sections.{Whole, section-is}
use Rattle.tables.proofs.Taking.{same_taken, err_is}

-- one thing after another, where all was taken
pub record Got {A B : Type 0} (x : Taken A) (f : A → Taken B) (c : B) : Type 0 where
  pub value : A
  pub is : x ≡ taken value
  pub next : f value ≡ taken c

pub then_taken : {A B : Type 0} (x : Taken A) (f : A → Taken B) (c : B) → and_then x f ≡ taken c → Got x f c
unfolding and_then
then_taken (refused_at k at) f c e = cc
then_taken (taken a) f c e = record { value = a; is = refl; next = e }

-- ---- the sections of a file that was taken
pub record File (b : List ℕ) (l : Contents) : Type 0 where
  pub states : Whole states b 0 l.states
  pub starts : Whole (numbers (length l.states)) b (at2 l.states) l.starts
  pub safe : Whole (numbers (length l.states)) b (at3 l.states l.starts) l.safe
  pub moves : Whole (moves (length l.states)) b (at4 l.states l.starts l.safe) l.moves
  pub ends : length b ≤ at5 l.states l.starts l.safe l.moves

ended : (b : List ℕ) (at : ℕ) (l k : Contents) → ending b at l ≡ taken k → (length b ≤ at) × (l ≡ k)
unfolding ending
ended b at l k e = go (ltb at (length b)) refl e
  where
    go : (t : Bool) → ltb at (length b) ≡ t → cond t (refused_at 6 at) (taken l) ≡ taken k → (length b ≤ at) × (l ≡ k)
    go true q e = cc
    go false q e = (ltb-false _ _ q, cc)

pub contents-is : (b : List ℕ) (l : Contents) → contents b ≡ taken l → File b l
unfolding contents
contents-is b l e =
    let g1 = then_taken _ _ l e in
    let g2 = then_taken _ _ l g1.next in
    let g3 = then_taken _ _ l g2.next in
    let g4 = then_taken _ _ l g3.next in
    let k : Contents = record { states = g1.value; starts = g2.value; safe = g3.value; moves = g4.value } in
    let (ends, same) = ended b (at5 k.states k.starts k.safe k.moves) k l g4.next in
    let file : File b k = record {
      states = section-is states b 0 k.states g1.is;
      starts = section-is (numbers (length k.states)) b (at2 k.states) k.starts g2.is;
      safe = section-is (numbers (length k.states)) b (at3 k.states k.starts) k.safe g3.is;
      moves = section-is (moves (length k.states)) b (at4 k.states k.starts k.safe) k.moves g4.is;
      ends = ends;
    } in
    rw same at file

-- ---- the same, by the counts
-- where the starts, the safe states and the moves begin
abbrev pub starts_from : ℕ → ℕ
starts_from size = 2 + size * 3 + 2

abbrev pub safe_from : ℕ → ℕ → ℕ
safe_from size starts = starts_from size + starts * 2 + 2

abbrev pub moves_from : ℕ → ℕ → ℕ → ℕ
moves_from size starts safe = safe_from size starts + safe * 2 + 2

pub record ByCounts (b : List ℕ) (size starts safe moves : ℕ) : Type 0 where
  pub holds : Contents
  pub is : contents b ≡ taken holds
  pub state-entries : holds.states ≡ values state b 2 size
  pub start-entries : holds.starts ≡ values (number 0) b (starts_from size) starts
  pub safe_entries : holds.safe ≡ values (number 0) b (safe_from size starts) safe
  pub move-entries : holds.moves ≡ values (move 0) b (moves_from size starts safe) moves
  pub within : moves_from size starts safe + moves * 4 ≤ length b
  pub few_states : size ≤ 256
  pub few_moves : moves ≤ 4096
  pub many_states : length holds.states ≡ size
  pub many_moves : length holds.moves ≡ moves

of_file : (b : List ℕ) (l : Contents) → contents b ≡ taken l → File b l
    → ByCounts b (length l.states) (length l.starts) (length l.safe) (length l.moves)
unfolding past values
of_file b l e f = record {
  holds = l;
  is = e;
  state-entries = f.states.is;
  start-entries = f.starts.is;
  safe_entries = f.safe.is;
  move-entries = f.moves.is;
  within = f.moves.room;
  few_states = f.states.most;
  few_moves = f.moves.most;
  many_states = refl;
  many_moves = refl;
}

quadruple : (a b c d n s p m : ℕ) → ◌≡◌ {A = Taken (ℕ × ℕ × ℕ × ℕ)} (taken (a, b, c, d)) (taken (n, s, p, m))
    → (a ≡ n) × (b ≡ s) × (c ≡ p) × (d ≡ m)
quadruple a b c d n s p m e = let q = same_taken e in (λ i. (q i).0, λ i. (q i).1, λ i. (q i).2, λ i. (q i).3)

pub by_counts : (b : List ℕ) (size starts safe moves : ℕ) → counts_read b ≡ taken (size, starts, safe, moves) → ByCounts b size starts safe moves
unfolding counts_read
by_counts b size starts safe moves e =
    let g = then_taken {B = ℕ × ℕ × ℕ × ℕ} (contents b) (λ l. taken (counts_of l)) (size, starts, safe, moves) e in
    let l = g.value in
    let (a, s, p, m) = quadruple (length l.states) (length l.starts) (length l.safe) (length l.moves) size starts safe moves g.next in
    rw (a, s, p, m) at (of_file b l g.is (contents-is b l g.is))

-- ---- the lengths of buffers
module _ (rows : List ℕ) (angles : List ℤ) (modes : List ℕ) where
  module _ (e : sized rows angles modes ≡ true) where
    pub sized_rows : length rows ≡ 1024
    unfolding sized
    sized_rows = eqb-true _ _ (and-true (eqb (length rows) 1024) _ e).0

    pub sized-angles : length angles ≡ 256
    unfolding sized
    sized-angles = eqb-true _ _ (and-true (eqb (length angles) 256) _ (and-true (eqb (length rows) 1024) _ e).1).0

    pub sized-modes : length modes ≡ 256
    unfolding sized
    sized-modes = eqb-true _ _ (and-true (eqb (length angles) 256) _ (and-true (eqb (length rows) 1024) _ e).1).1

  -- r is what the code's test answers
  pub sized-lengths : (r : Bool) → r ≡ sized rows angles modes → r ≡ true → (t : Table) → Lengths (control t angles modes)
  sized-lengths r e h t =
      let is = sym e ∙ h in
      record { angle_places = sized-angles is; mode_places = sized-modes is }

-- ---- the promise of `read`; t is what the test of the lengths answers, s the counts
module _ (b rows : List ℕ) (angles : List ℤ) (modes : List ℕ) (t : Bool) (e : t ≡ sized rows angles modes) where
  refused_read : (r : Result Reading Fault) (k a : ℕ) → reading b rows angles modes ≡ refused_at k a → said_reading r ≡ refused_at k a
      → Read b rows angles modes r rows angles modes
  unfolding and_then
  refused_read r k a q f = record { answer = rw q f; filled_rows = rw q; filled_angles = rw q; filled_modes = rw q }

  pub read-unsized : t ≡ false → (f : Fault) → f ≡ record { refusal = WrongLength; offset = 0 } → Read b rows angles modes (Err f) rows angles modes
  unfolding reading
  read-unsized h f q = refused_read (Err f) 7 0 (rw (sym e ∙ h)) (ap (λ (f : Fault). said_reading (Err f)) q)

  module _ (h : t ≡ true) (s : Result Counts Fault) (q : said_counts s ≡ counts_read b) where
    ok : sized rows angles modes ≡ true
    ok = sym e ∙ h

    -- the first refusal of a file
    stopped_at : (k a : ℕ) → counts_read b ≡ refused_at k a → reading b rows angles modes ≡ refused_at k a
    unfolding reading counts_read and_then
    stopped_at k a f = rw ok (go (contents b) f)
      where
        go : (x : Taken Contents) → and_then {B = ℕ × ℕ × ℕ × ℕ} x (λ l. taken (counts_of l)) ≡ refused_at k a → x ≡ refused_at k a
        go (refused_at k' a') q = cc
        go (taken l) q = cc

    pub read-stopped : (f : Fault) → s ≡ Err f → (r : Result Reading Fault) → IsErrAnd r (λ e. e ≡ f) → Read b rows angles modes r rows angles modes
    read-stopped f w r i = refused_read r _ _ (stopped_at _ _ (sym q ∙ ap said_counts w)) (ap said_reading (err_is i))

    pub fillable : (c : Counts) → s ≡ Ok c → Fillable b c rows angles modes
    fillable c w =
        let counts : counts_read b ≡ taken (c.size, c.starts, c.safe, c.moves) = sym q ∙ ap said_counts w in
        let file = by_counts b c.size c.starts c.safe c.moves counts in
        record {
          counted = counts;
          lengths = ok;
          within = file.within;
          few_states = file.few_states;
          few_moves = file.few_moves;
          row_places = sized_rows rows angles modes ok;
          angle_places = sized-angles rows angles modes ok;
          mode_places = sized-modes rows angles modes ok;
        }

-- a file that was taken
module _ (b : List ℕ) (c : Counts) (rows : List ℕ) (angles : List ℤ) (modes : List ℕ) (f : Fillable b c rows angles modes) where
  pub read-filled : (r : Reading) → r.model.size ≡ c.size
      → r.model.starts.words ≡ set_of_entries (values (number 0) b (starts_from c.size) c.starts)
      → r.model.safe.words ≡ set_of_entries (values (number 0) b (safe_from c.size c.starts) c.safe)
      → r.moves ≡ c.moves
      → (rows' : List ℕ) → rows' ≡ rows_of_entries (values (move 0) b (moves_from c.size c.starts c.safe) c.moves)
      → (angles' : List ℤ) → angles' ≡ angles_of_entries (values state b 2 c.size)
      → (modes' : List ℕ) → modes' ≡ modes_of_entries (values state b 2 c.size)
      → Read b rows angles modes (Ok r) rows' angles' modes'
  unfolding control_of reading and_then
  read-filled r n i p m rows' t angles' u modes' v =
      let l = by_counts b c.size c.starts c.safe c.moves f.counted in
      let w : reading b rows angles modes ≡ taken l.holds = rw (f.lengths, l.is) in
      record {
        answer = rw (
          w,
          n ∙ sym l.many_states,
          i ∙ ap set_of_entries (sym l.start-entries),
          p ∙ ap set_of_entries (sym l.safe_entries),
          m ∙ sym l.many_moves,
        );
        filled_rows = rw w (t ∙ ap rows_of_entries (sym l.move-entries));
        filled_angles = rw w (u ∙ ap angles_of_entries (sym l.state-entries));
        filled_modes = rw w (v ∙ ap modes_of_entries (sym l.state-entries));
      }
