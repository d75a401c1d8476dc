-- The theorems of the file. Of the definitions: a table written out reads back the same, a file that reads writes out the same bytes,
-- a table that was read is sound and has as many moves as its file, and how long files are. Then the same of the code, from what
-- `read` and `write` promise.
use Prim.Native.Nat.{ℕ, zero, suc, ◌+◌, ◌*◌, ◌≤◌, ◌<◌}
use native.Mathlib.Omega.{arith}
use mathlib.Core.Path.{◌≡◌, refl, sym, ap, ◌∙◌}
use mathlib.Core.Bool.{Bool, true, false, cond}
use mathlib.Core.List.{List}
use borrow.Author.Tests.{ltb-true}
use lib.Dec.{ltb}
use lib.IntN.{ℤ, pos}
use lib.ListN.{length, get_or, take}
use Rattle.std.specs.Prelude.{Result, Ok, Err}
use Rattle.answers.specs.Answer.{Answer, refused, given, unless_refused}
use Rattle.answers.specs.Said.{number_of}
use Rattle.answers.specs.declared.Refusal.{Refusal}
use Rattle.rules.specs.Table.{sound_table, move_count}
use Rattle.sets.proofs.Words.{take-sets}
use Rattle.sets.specs.Sets.{Set, count}
use Rattle.sets.proofs.Search.{all-says}
use Rattle.sets.proofs.Tests.{passed, and-true}
use Rattle.turns.specs.Turn.{is_angle}
use Rattle.moves.specs.Models.{Control, control, on}
use Rattle.tables.specs.Format.{Contents, Taken, refused_at, taken, and_then, contents, past}
use Rattle.tables.specs.Control.{rows_of_entries, control_of, contents_of, file_of, sized, label_at, labelled, write_refusal, writing, reading}
use Rattle.tables.specs.Said.{said_reading, read_of, Read, Wrote, said_written, length_of, put_in, if_taken}
use Rattle.tables.specs.declared.Fault.{Fault}
use Rattle.tables.specs.declared.Reading.{Reading}
use Rattle.tables.specs.RoundTrip.{Bytes, ReadsAs, RoundTrip}
use Rattle.tables.proofs.Back.{moves-fine, read-good, read_same, written_same}
use Rattle.tables.proofs.Files.{contents-is}
use Rattle.tables.proofs.Contents.{moves-back, contents-back, control-back, good_contents, writable_back, angle-past, mode-past}
use Rattle.tables.specs.RoundTrip.{Held}
use Rattle.tables.proofs.Putting.{moves-count}
use Rattle.tables.proofs.Taking.{same_taken}
use Rattle.tables.proofs.Writing.{Writable, writable, not_refused, file_length, moves-are}

-- ---- writing, taken apart
given_is : (c : Control) (room : ℕ) (b : List ℕ) → writing c room ≡ given b → (write_refusal c room ≡ 0) × (file_of c ≡ b)
unfolding writing unless_refused
given_is c room b e = go (write_refusal c room) refl e
  where
    go : (k : ℕ) → write_refusal c room ≡ k → unless_refused k (file_of c) ≡ given b → (write_refusal c room ≡ 0) × (file_of c ≡ b)
    go zero q p = (q, cc)
    go (suc n) q p = cc

-- a sound table of at most 4,096 moves, its angles and modes in range and 0 from N up, is written where there is room
pub sound-is_written : (c : Control) (room : ℕ) → Writable c → length (file_of c) ≤ room → writing c room ≡ given (file_of c)
unfolding writing unless_refused
sound-is_written c room w h = rw (not_refused c room w h)

-- ---- of the definitions
-- a table written out reads back the same
pub written-reads : (c : Control) → Held c → (room : ℕ) (b : List ℕ) → writing c room ≡ given b
    → (contents b ≡ taken (contents_of c)) × (control_of (contents_of c) ≡ c)
unfolding file_of
written-reads c h room b e =
    let g = given_is c room b e in
    let w = (writable c room g.0).0 in
    (rw (← g.1) (written_same (contents_of c) (good_contents c h w)), control-back c h w)

-- a file that reads writes out the same bytes
pub read-writes : (b : List ℕ) → Bytes b → (l : Contents) → contents b ≡ taken l → (room : ℕ) → length b ≤ room
    → writing (control_of l) room ≡ given b
unfolding file_of
read-writes b B l e room h =
    let g = read-good b l B e in
    let f : file_of (control_of l) ≡ b = rw (contents-back l g) (read_same l b B e) in
    sound-is_written (control_of l) room (writable_back l g) (rw f h) ∙ ap given f

-- a table that was read is sound, its angles and modes are in range, and its places from N up are 0
pub record Proper (c : Control) : Type 0 where
  pub sound : sound_table c.table ≡ true
  pub angles : (s : ℕ) → s < c.table.size → is_angle (get_or c.angles s (pos 0)) ≡ true
  pub modes : (s : ℕ) → s < c.table.size → get_or c.modes s 0 < 16
  pub no_angles : (s : ℕ) → c.table.size ≤ s → s < 256 → get_or c.angles s (pos 0) ≡ pos 0
  pub no_modes : (s : ℕ) → c.table.size ≤ s → s < 256 → get_or c.modes s 0 ≡ 0

pub read-proper : (b : List ℕ) → Bytes b → (l : Contents) → contents b ≡ taken l → Proper (control_of l)
unfolding control_of labelled label_at
read-proper b B l e =
    let g = read-good b l B e in
    let w = writable_back l g in
    let c = control_of l in
    let label : (s : ℕ) → s < c.table.size → (is_angle (get_or c.angles s (pos 0)) ≡ true) × (ltb (get_or c.modes s 0) 16 ≡ true) =
    λ s h. and-true _ _ (passed (all-says c.table.size (label_at c.angles c.modes)) w.labels s h) in
    record {
      sound = w.sound;
      angles = λ s h. (label s h).0;
      modes = λ s h. ltb-true _ 16 (label s h).1;
      no_angles = angle-past l g;
      no_modes = mode-past l g;
    }

-- the table that was read has as many moves as the file has entries of moves
pub moves-counted : (b : List ℕ) (l : Contents) → contents b ≡ taken l → move_count (control_of l).table.rows ≡ length l.moves
unfolding control_of
moves-counted b l e =
    let f = contents-is b l e in
    let few = f.states.most in
    let fine = moves-fine (length l.states) few b _ _ l.moves f.moves.entered in
    moves-count (rows_of_entries l.moves) ∙ ap length (moves-back (length l.states) few l.moves fine 16777216 refl)

-- the length of a file that was read
pub read_length : (b : List ℕ) (l : Contents) → contents b ≡ taken l
    → (length b ≡ 8 + length l.states * 3 + length l.starts * 2 + length l.safe * 2 + length l.moves * 4) × (length b ≤ 18184)
unfolding past
read_length b l e =
    let f = contents-is b l e in
    let few_states = f.states.most in
    let few_starts = f.starts.most in
    let few_safe = f.safe.most in
    let few_moves = f.moves.most in
    let room = f.moves.room in
    let ends = f.ends in
    (omega arith, omega arith)

-- the length of a file that is written
pub written-length : (c : Control) → Held c → Writable c
    → (length (file_of c) ≡ 8 + c.table.size * 3 + count 256 c.table.starts * 2 + count 256 c.table.safe * 2 + move_count c.table.rows * 4)
    × (length (file_of c) ≤ 18184)
unfolding file_of
written-length c h w = (file_length c, (read_length (file_of c) (contents_of c) (written_same (contents_of c) (good_contents c h w))).1)

-- ---- of the code
module _ {rows : List ℕ} {angles : List ℤ} {modes : List ℕ} {rows' : List ℕ} {angles' : List ℤ} {modes' : List ℕ} where
  -- what `read` promises of a file that was taken
  read_is : {r : Result Reading Fault} (b : List ℕ) (l : Contents) → reading b rows angles modes ≡ taken l
      → Read b rows angles modes r rows' angles' modes' → (c : Control) → control_of l ≡ c → length l.moves ≡ move_count c.table.rows
      → ReadsAs c r rows' angles' modes'
  unfolding and_then
  read_is b l e p c q m = record {
    answer = p.answer ∙ rw (e, q, m);
    filled_rows = p.filled_rows ∙ rw e (ap (λ (x : Control). x.table.rows) q);
    filled_angles = p.filled_angles ∙ rw e (ap (λ (x : Control). x.angles) q);
    filled_modes = p.filled_modes ∙ rw e (ap (λ (x : Control). x.modes) q);
  }

  -- what `write` has written, `read` reads back
  pub write_then_read : (c : Control) → Held c → {out : List ℕ} {w : Result ℕ Refusal} {out' : List ℕ} → Wrote c out w out' → (n : ℕ)
      → said_written w ≡ given n → sized rows angles modes ≡ true → {r : Result Reading Fault}
      → Read (take n out') rows angles modes r rows' angles' modes' → ReadsAs c r rows' angles' modes'
  unfolding reading
  write_then_read c h {out} {w} {out'} p n e s {r} q = go (writing c (length out)) refl (sym e ∙ p.answer) p.output
    where
      go : (x : Answer (List ℕ)) → writing c (length out) ≡ x → given n ≡ length_of x → out' ≡ put_in x out → ReadsAs c r rows' angles' modes'
      go (refused k) f d o = cc
      go (given b) f d o =
          let t = written-reads c h (length out) b f in
          let g = given_is c (length out) b f in
          let v : length b ≤ length out = rw g.1 at (writable c (length out) g.0).1 in
          let m : n ≡ length b = cc in
          let a : take n out' ≡ b = ap (take n) o ∙ rw m (take-sets b out v) in
          read_is b (contents_of c) (rw s t.0) (rw a at q) c t.1 (sym (moves-are c))

  -- what `read` refuses, and that it leaves the buffers as they were
  pub read-refuses : {f : Fault} (file : List ℕ) → Read file rows angles modes (Err f) rows' angles' modes'
      → (reading file rows angles modes ≡ refused_at (number_of f.refusal) f.offset) × (rows' ≡ rows) × (angles' ≡ angles) × (modes' ≡ modes)
  unfolding and_then
  read-refuses {f} file p = go (reading file rows angles modes) p.answer p.filled_rows p.filled_angles p.filled_modes
    where
      go : (x : Taken Contents) → refused_at (number_of f.refusal) f.offset ≡ and_then x (λ l. taken (read_of l))
          → rows' ≡ if_taken x (λ l. (control_of l).table.rows) rows → angles' ≡ if_taken x (λ l. (control_of l).angles) angles
          → modes' ≡ if_taken x (λ l. (control_of l).modes) modes
          → (x ≡ refused_at (number_of f.refusal) f.offset) × (rows' ≡ rows) × (angles' ≡ angles) × (modes' ≡ modes)
      go (refused_at k at) e t u v =
          let m : number_of f.refusal ≡ k = cc in
          let o : f.offset ≡ at = cc in
          (rw (m, o), t, u, v)
      go (taken l) e t u v = cc

  module _ {r : Reading} (file : List ℕ) (B : Bytes file) (p : Read file rows angles modes (Ok r) rows' angles' modes') where
    -- the table that `read` answers and leaves in the buffers
    abbrev answered : Control
    answered = control (on r.model rows') angles' modes'

    -- the reading was taken
    was_taken : (l : Contents) × (sized rows angles modes ≡ true) × (contents file ≡ taken l)
    unfolding reading and_then
    was_taken = go (sized rows angles modes) refl (contents file) refl p.answer
      where
        go : (t : Bool) → sized rows angles modes ≡ t → (x : Taken Contents) → contents file ≡ x
            → said_reading (Ok r) ≡ and_then (cond t x (refused_at 7 0)) (λ l. taken (read_of l))
            → (l : Contents) × (sized rows angles modes ≡ true) × (contents file ≡ taken l)
        go true q (refused_at k at) f e = cc
        go true q (taken l) f e = (l, q, f)
        go false q x f e = cc

    pub read-contents : (l : Contents) × (contents file ≡ taken l) × (answered ≡ control_of l)
    unfolding reading
    read-contents =
        let (l, s, f) = was_taken in
        (l, f, same l (read_is file l (rw (s, f)) p (control_of l) refl (sym (moves-counted file l f))))
      where
        same : (l : Contents) → ReadsAs (control_of l) (Ok r) rows' angles' modes' → answered ≡ control_of l
        same l a =
            let said : ◌≡◌ {A = ℕ × Set × Set × ℕ} (r.model.size, r.model.starts.words, r.model.safe.words, r.moves) _ = same_taken a.answer in
            λ i. record {
              table = record { size = (said i).0; starts = (said i).1; safe = (said i).2; rows = a.filled_rows i };
              angles = a.filled_angles i;
              modes = a.filled_modes i;
            }

    -- the table that `read` has read is sound
    pub read-then_proper : Proper answered
    read-then_proper = let (l, f, c) = read-contents in rw c (read-proper file B l f)

    -- what `read` has read, `write` writes out as the same bytes
    pub read_then_write : {out : List ℕ} {w : Result ℕ Refusal} {out' : List ℕ} → length file ≤ length out → Wrote answered out w out'
        → (said_written w ≡ given (length file)) × (take (length file) out' ≡ file)
    read_then_write {out} {w} {out'} h q =
        let (l, f, c) = read-contents in
        let v : writing answered (length out) ≡ given file = rw c (read-writes file B l f (length out) h) in
        let output : out' ≡ put_in (given file) out = q.output ∙ ap (λ (x : Answer (List ℕ)). put_in x out) v in
        (q.answer ∙ ap length_of v, ap (take (length file)) output ∙ take-sets file out h)

-- ---- the round trip
pub round_trip : RoundTrip
round_trip =
    record {
      write_then_read = λ c out out' w n rows angles modes r rows' angles' modes' h p e s q. write_then_read c h p n e s q;
      read_then_write = λ file rows angles modes r rows' angles' modes' out out' w B p h q. read_then_write file B p h q;
    }
