-- Writing a whole file: its parts one after another, its length, its refusals, and what holds where there is none.
use Prim.Native.Nat.{ℕ, ◌+◌, ◌*◌, ◌≤◌, ◌<◌, ◌^◌}
use native.Mathlib.Omega.{arith}
use mathlib.Core.Bool.{Bool, true, false}
use mathlib.Core.List.{List, [], ◌∷◌, ◌++◌, append_assoc}
use mathlib.Core.Path.{◌≡◌, refl, sym, ap, ◌∙◌}
use borrow.Author.Tests.{lt-ltb, le-ltb, lt-leb, le-leb, leb-true, eq-eqb, ne_eqb}
use lib.Dec.{eqb, leb, ltb}
use lib.IntN.{ℤ, pos}
use lib.ListN.{length, get_or, length-append}
use lib.Signed.{mag}
use mir.Syntax.{w16}
use mir.Val.{to_z, of_z}
use mir.ValLaws.{to_z-of_z}
use Rattle.answers.specs.Answer.{refused, unless_refused}
use Rattle.answers.specs.Refusals.{Test, ◌unless◌, first_failing}
use Rattle.answers.proofs.Order.{none_failing}
use Rattle.moves.specs.Models.{Control, control}
use Rattle.rules.specs.Table.{table, move_count, sound_table}
use Rattle.sets.specs.Lists.{tabulate}
use Rattle.sets.specs.Sets.{Set, count, in_range}
use Rattle.sets.proofs.Lists.{length-tabulate}
use Rattle.sets.proofs.Range.{in-range, range_says}
use Rattle.sets.proofs.Tests.{passed}
use Rattle.turns.specs.Turn.{is_angle}
use Rattle.tables.specs.Format.{bytes16, state, number, move, entries_bytes, file_bytes}
use Rattle.tables.specs.Control.{state_number, contents_of, file_of, sized, clear_at, clear_past, label_at, labelled, write_refusal, writing}
use Rattle.tables.specs.Said.{Wrote}
use Rattle.tables.specs.Inner.{set_bytes, move_bytes}
use Rattle.answers.specs.Said.{number_of, refusal_of}
use Rattle.answers.specs.declared.Refusal.{Refusal}
use Rattle.answers.proofs.Said.{err_said}
use Rattle.std.specs.Prelude.{Result, Ok, Err, IsErrAnd}
use Rattle.tables.proofs.Taking.{err_is}
use Rattle.tables.proofs.Signed.{zero_bits}
use Rattle.outputs.specs.Appends.{Appends}
use Rattle.outputs.specs.declared.Output.{Output}
use Rattle.outputs.proofs.Puts.{appends_then, Fresh, fresh_fits}
use Rattle.tables.proofs.Putting.{section-is_both, entries-length, section-length, members_count, moves-count}

-- ---- the parts of a file
module _ (N : ℕ) (I P : Set) (rows : List ℕ) (angles : List ℤ) (modes : List ℕ) where
  abbrev whole : Control
  whole = control (table N I P rows) angles modes

  abbrev state_entries : List ℕ
  state_entries = entries_bytes state (tabulate N (state_number angles modes))

  -- from the safe states on, from the starts on, from the states' entries on
  abbrev parts4 : List ℕ
  parts4 = set_bytes P ++ move_bytes rows

  abbrev parts3 : List ℕ
  parts3 = set_bytes I ++ parts4

  abbrev parts2 : List ℕ
  parts2 = state_entries ++ parts3

  parts_are : file_of whole ≡ bytes16 N ++ parts2
  unfolding file_of file_bytes contents_of
  parts_are =
      ap (λ (a : List ℕ). a ++ parts3) (section-is_both state (tabulate N (state_number angles modes)) N (sym (length-tabulate N _)))
      ∙ append_assoc (bytes16 N) state_entries parts3

  -- the parts appended one after another; n is N as the code has it
  pub put_all : {o o₁ o₂ o₃ o₄ o₅ : Output} (n : ℕ) → n ≡ N → Appends o (bytes16 n) o₁ → Appends o₁ state_entries o₂ → Appends o₂ (set_bytes I) o₃
      → Appends o₃ (set_bytes P) o₄ → Appends o₄ (move_bytes rows) o₅ → Appends o (file_of whole) o₅
  put_all n e p₁ p₂ p₃ p₄ p₅ =
      rw parts_are (appends_then (rw e at p₁) (appends_then p₂ (appends_then p₃ (appends_then p₄ p₅))))

  -- ---- the length of a file
  set-length : (x : Set) → length (set_bytes x) ≡ 2 + count 256 x * 2
  set-length x = section-length (number 0) (λ v. refl) _ ∙ ap (λ (k : ℕ). 2 + k * 2) (members_count x)

  move-length : length (move_bytes rows) ≡ 2 + move_count rows * 4
  move-length = section-length (move 0) (λ v. refl) _ ∙ ap (λ (k : ℕ). 2 + k * 4) (sym (moves-count rows))

  state-length : length state_entries ≡ N * 3
  state-length = entries-length state (λ v. refl) _ ∙ ap (λ (k : ℕ). k * 3) (length-tabulate N _)

  whole_length : length (file_of whole) ≡ 8 + N * 3 + count 256 I * 2 + count 256 P * 2 + move_count rows * 4
  whole_length =
      ap length parts_are
      ∙ omega (
        arith,
        length-append state_entries parts3,
        length-append (set_bytes I) parts4,
        length-append (set_bytes P) (move_bytes rows),
        state-length,
        set-length I,
        set-length P,
        move-length,
      )

  -- ---- the last refusal: l is the file's length as the code has it
  module _ (k l room : ℕ) (e : k ≡ move_count rows) (q : l ≡ 8 + N * 3 + count 256 I * 2 + count 256 P * 2 + k * 4) where
    same_length : l ≡ length (file_of whole)
    same_length = q ∙ rw e (sym whole_length)

    pub output_short : room < l → 12 ≡ first_failing (12 unless leb (length (file_of whole)) room ∷ [])
    unfolding first_failing
    output_short h = rw (lt-leb (length (file_of whole)) room (rw same_length at h))

    pub output_long : l ≤ room → 0 ≡ first_failing (12 unless leb (length (file_of whole)) room ∷ [])
    unfolding first_failing
    output_long h = rw (le-leb (length (file_of whole)) room (rw same_length at h))

pub file_length : (c : Control)
    → length (file_of c) ≡ 8 + c.table.size * 3 + count 256 c.table.starts * 2 + count 256 c.table.safe * 2 + move_count c.table.rows * 4
file_length c = whole_length c.table.size c.table.starts c.table.safe c.table.rows c.angles c.modes

-- a number k that the code compares with a bound
module _ (n : ℕ) (ts : List Test) (a b k : ℕ) (e : k ≡ a) where
  pub refuses_more : b < k → n ≡ first_failing (n unless leb a b ∷ ts)
  unfolding first_failing
  refuses_more h = rw (lt-leb a b (rw e at h))

  pub goes_on_most : k ≤ b → (m : ℕ) → m ≡ first_failing ts → m ≡ first_failing (n unless leb a b ∷ ts)
  unfolding first_failing
  goes_on_most h m q = rw (le-leb a b (rw e at h)) q

pub range_few : (N : ℕ) (r : Bool) → r ≡ in_range N → r ≡ true → N ≤ 256
range_few N r e h = (passed (range_says N) (sym e ∙ h)).1

-- ---- labels, at a place s
module _ (N : ℕ) (angles : List ℤ) (modes : List ℕ) (s k : ℕ) (q : k ≡ N) where
  abbrev angle : ℤ
  angle = get_or angles s (pos 0)

  pub clear_below : s < k → ltb s k ≡ clear_at N angles modes s
  unfolding clear_at
  clear_below l = rw (q, lt-ltb s N (rw q at l))

  module _ (l : k ≤ s) (ok : mag angle < 32768) where
    pub clear_angle : (of_z w16 angle ≡ 0 → ⊥) → eqb (of_z w16 angle) 0 ≡ clear_at N angles modes s
    unfolding clear_at
    clear_angle h = rw (le-ltb s N (rw q at l), zero_bits angle ok, ne_eqb _ 0 h)

    pub clear_mode : of_z w16 angle ≡ 0 → eqb (get_or modes s 0) 0 ≡ clear_at N angles modes s
    unfolding clear_at
    clear_mode h = rw (le-ltb s N (rw q at l), zero_bits angle ok ∙ eq-eqb _ 0 h)

module _ (angles : List ℤ) (modes : List ℕ) (s : ℕ) (ok : mag (get_or angles s (pos 0)) < 32768) (r : Bool)
    (e : r ≡ is_angle (to_z w16 (of_z w16 (get_or angles s (pos 0))))) where
  is-angle : is_angle (get_or angles s (pos 0)) ≡ r
  is-angle = sym (e ∙ ap is_angle (to_z-of_z w16 (get_or angles s (pos 0)) (record { sfits = ok })))

  pub label_angle : r ≡ false → r ≡ label_at angles modes s
  unfolding label_at
  label_angle h = rw (is-angle, h)

  pub label_mode : r ≡ true → ltb (get_or modes s 0) 16 ≡ label_at angles modes s
  unfolding label_at
  label_mode h = rw (is-angle, h)

-- ---- what no refusal says
-- a sound table of at most 4,096 moves, its angles and modes in range and 0 from N up
pub record Writable (c : Control) : Type 0 where
  pub lengths_ok : sized c.table.rows c.angles c.modes ≡ true
  pub some : 1 ≤ c.table.size
  pub few : c.table.size ≤ 256
  pub sound : sound_table c.table ≡ true
  pub clear : clear_past c.table.size c.angles c.modes ≡ true
  pub labels : labelled c.table.size c.angles c.modes ≡ true
  pub few_moves : length (contents_of c).moves ≤ 4096

-- the number of moves is that of the entries
pub moves-are : (c : Control) → move_count c.table.rows ≡ length (contents_of c).moves
unfolding contents_of
moves-are c = moves-count c.table.rows

module _ (c : Control) (room : ℕ) where
  pub writable : write_refusal c room ≡ 0 → Writable c × (length (file_of c) ≤ room)
  unfolding write_refusal
  writable e =
      let (lengths, after-7) = none_failing _ _ _ (λ q. omega arith) e in
      let (size, after-2) = none_failing _ _ _ (λ q. omega arith) after-7 in
      let (sound, after-13) = none_failing _ _ _ (λ q. omega arith) after-2 in
      let (clear, after-past) = none_failing _ _ _ (λ q. omega arith) after-13 in
      let (labels, after-3) = none_failing _ _ _ (λ q. omega arith) after-past in
      let (moves, after-moves) = none_failing _ _ _ (λ q. omega arith) after-3 in
      let (output, _) = none_failing _ _ _ (λ q. omega arith) after-moves in
      let (some, few) = passed (range_says c.table.size) size in
      let few_moves : move_count c.table.rows ≤ 4096 = leb-true _ _ moves in (
        record {
          lengths_ok = lengths;
          some = some;
          few = few;
          sound = sound;
          clear = clear;
          labels = labels;
          few_moves = rw (moves-are c) at few_moves;
        },
        leb-true _ _ output,
      )

  pub not_refused : Writable c → length (file_of c) ≤ room → write_refusal c room ≡ 0
  unfolding write_refusal first_failing
  not_refused w h =
      let few_moves = le-leb (move_count c.table.rows) 4096 (rw (moves-are c) w.few_moves) in
      rw (w.lengths_ok, in-range c.table.size w.some w.few, w.sound, w.clear, w.labels, few_moves, le-leb (length (file_of c)) room h)

-- ---- the promise of `write`: r is what the tests answer
module _ (c : Control) (out : List ℕ) (r : Result (Unit {0}) Refusal) (e : refusal_of r ≡ write_refusal c (length out)) where
  pub wrote_refused : (k : Refusal) → r ≡ Err k → (t : Result ℕ Refusal) → IsErrAnd t (λ f. f ≡ k) → Wrote c out t out
  unfolding writing
  wrote_refused k q t i =
      let n : number_of k ≡ write_refusal c (length out) = sym (ap refusal_of q) ∙ e in
      let a : refused (number_of k) ≡ writing c (length out) = err_said (file_of c) _ k n in
      record { answer = rw (err_is i, ← a); output = rw (← a) }

  module _ (z : r ≡ Ok tt) where
    none : write_refusal c (length out) ≡ 0
    none = sym e ∙ ap refusal_of z

    -- the file is put into an output that holds it; n is the place then
    pub wrote_file : length out * 1 < 2 ^ 63 → {o later : Output} → Fresh out o → Appends o (file_of c) later → (n : ℕ) → n ≡ later.at → (out' : List ℕ)
        → out' ≡ later.out.now → Wrote c out (Ok n) out'
    unfolding writing unless_refused
    wrote_file h f p n e out' q =
        let fits = fresh_fits (omega arith) f in
        let (_, room) = writable c (length out) none in
        let long : n ≡ length (file_of c) = omega (arith, p.place fits, f.place) in
        record { answer = rw (none, long); output = rw (none, q, p.output fits, f.output, f.place) }
