-- The laws of the promises on two tables, from the theory of the second table and the demands of `run`.
use Prim.Native.Nat.{ℕ, ◌<◌}
use native.Mathlib.Omega.{arith}
use mathlib.Core.Bool.{Bool, true, false, not, ◌&&◌, not-not}
use mathlib.Core.List.{List, []}
use mathlib.Core.Path.{◌≡◌, refl, sym, ap, ◌∙◌}
use borrow.Author.Tests.{eq-eqb, lt-ltb, ltb-true}
use lib.ListN.{length, replicate}
use Rattle.answers.proofs.Order.{none_failing}
use Rattle.answers.specs.Refusals.{first_failing}
use Rattle.sets.proofs.Tests.{and-true, and_intro}
use Rattle.sets.specs.Sets.{Proper, Words, in_range, sound as sound-set}
use Rattle.rules.proofs.Second.{alike-says, alike_same, second_length, second_words, second_laws}
use Rattle.rules.specs.Buffer.{entry_check}
use Rattle.rules.specs.Second.{second_of, agree, Edited}
use Rattle.rules.specs.Table.{Table, leads, sound_rows, sound_table, with_move}
use Rattle.runs.proofs.Meets as runs
use Rattle.runs.specs.Demands.{Lent}
use Rattle.runs.specs.Promises.{FreshPromise, lengths_ok, run_refusal, run_answer}
use Rattle.edits.specs.Meets.{Meets, after, Sized, KeptRuns, MeetsRuns}
use Rattle.edits.specs.Promises.{lent_tests, edit_refusal, EditPromise}
use Rattle.edits.proofs.Lent.{Fine, fine}

-- what an edit that is not refused says
record Taken (N : ℕ) (rows second : List ℕ) (s t : ℕ) (there : Bool) : Type 0 where
  lent : Fine N rows second
  agrees : agree rows second ≡ true
  from : s < N
  to : t < N
  was : leads rows s t ≡ not there

taken : (N : ℕ) (rows second : List ℕ) (s t : ℕ) (there : Bool) → edit_refusal N rows second s t there ≡ 0 → Taken N rows second s t there
unfolding edit_refusal
taken N rows second s t there z =
    let (lent, after-13) = fine N rows second _ z in
    let (agrees, after-14) = none_failing _ _ _ (λ q. omega arith) after-13 in
    let (from, after-4) = none_failing _ _ _ (λ q. omega arith) after-14 in
    let (to, after-4') = none_failing _ _ _ (λ q. omega arith) after-4 in
    let (was, _) = none_failing _ _ _ (λ q. omega arith) after-4' in
    record { lent = lent; agrees = agrees; from = ltb-true s N from; to = ltb-true t N to; was = alike-says _ _ was }

-- .. and where that holds it is not
not_refused : (N : ℕ) (rows second : List ℕ) (s t : ℕ) (there : Bool) → Taken N rows second s t there → edit_refusal N rows second s t there ≡ 0
unfolding edit_refusal lent_tests first_failing
not_refused N rows second s t there k =
    rw (
      eq-eqb (length rows) 1024 k.lent.rows_long,
      eq-eqb (length second) 1024 k.lent.second_long,
      k.lent.range,
      k.lent.sound,
      k.agrees,
      lt-ltb s N k.from,
      lt-ltb t N k.to,
      alike_same (leads rows s t) (not there) k.was,
    )

module _ (N : ℕ) (rows second : List ℕ) (rows_fit : Words rows) (second_fits : Words second) where
  module _ (s t : ℕ) (there : Bool) (k : Taken N rows second s t there) where
    done : Edited N rows second s t there
    done =
        second_laws.edited N rows second s t there k.lent.big k.lent.rows_long k.lent.second_long rows_fit second_fits
        k.agrees k.lent.sound k.from k.to

    -- the opposite edit is taken
    opposite : Taken N (with_move rows s t there) (with_move second t s there) s t (not there)
    opposite = record {
      lent = record {
        rows_long = done.lengths.0;
        second_long = done.lengths.1;
        range = k.lent.range;
        big = k.lent.big;
        sound = done.sound;
      };
      agrees = done.agrees;
      from = k.from;
      to = k.to;
      was = done.this.0 ∙ sym (not-not there);
    }

  module _ (rows' second' : List ℕ) (s t : ℕ) (there : Bool) (p : EditPromise N rows rows' second second' s t there 0) where
    rows_after : rows' ≡ with_move rows s t there
    rows_after = p.rows_are ∙ rw (eq-eqb (edit_refusal N rows second s t there) 0 (sym p.answer))

    second_after : second' ≡ with_move second t s there
    second_after = p.second_is ∙ rw (eq-eqb (edit_refusal N rows second s t there) 0 (sym p.answer))

    is_taken : Taken N rows second s t there
    is_taken = taken N rows second s t there (sym p.answer)

    back : (rows₂ second₂ : List ℕ) (r : ℕ) → EditPromise N rows' rows₂ second' second₂ s t (not there) r → (r ≡ 0) × (rows₂ ≡ rows) × (second₂ ≡ second)
    back rows₂ second₂ r q = go rows' second' rows_after second_after q
      where
        zero_is : edit_refusal N (with_move rows s t there) (with_move second t s there) s t (not there) ≡ 0
        zero_is = not_refused N _ _ s t (not there) (opposite s t there is_taken)

        go : (a b : List ℕ) → a ≡ with_move rows s t there → b ≡ with_move second t s there
            → EditPromise N a rows₂ b second₂ s t (not there) r → (r ≡ 0) × (rows₂ ≡ rows) × (second₂ ≡ second)
        go a b ea eb q =
            let z : edit_refusal N a b s t (not there) ≡ 0 = rw (ea, eb) zero_is in
            let undone = (done s t there is_taken).undone is_taken.was in (
              q.answer ∙ z,
              q.rows_are ∙ rw (eq-eqb (edit_refusal N a b s t (not there)) 0 z, ea) undone.0,
              q.second_is ∙ rw (eq-eqb (edit_refusal N a b s t (not there)) 0 z, eb) undone.1,
            )

pub meets : (N : ℕ) (rows second : List ℕ) → Meets N rows second
meets N rows second = record {
  made = λ second' p.
      let is : second' ≡ second_of rows = p.second_is ∙ rw (eq-eqb (first_failing (lent_tests N rows second)) 0 (sym p.answer)) in
      rw is (second_laws.made rows, second_laws.agreed rows (second_of rows) (second_length rows) (second_words rows) (second_laws.made rows));
  edited = λ rows' second' s t there w v p. (
    rows_after N rows second w v rows' second' s t there p,
    second_after N rows second w v rows' second' s t there p,
    done N rows second w v s t there (is_taken N rows second w v rows' second' s t there p),
  );
  there_and_back = λ rows₁ rows₂ second₁ second₂ s t there r w v p q. back N rows second w v rows₁ second₁ s t there p rows₂ second₂ r q;
}

-- ---- run buffers kept across an edit
-- a table with another sound move table of 1,024 words
module _ (t : Table) (rows' : List ℕ) (range : in_range t.size ≡ true) (long : length rows' ≡ 1024) (sound : sound_table (after t rows') ≡ true)
    (starts : Proper 256 t.starts) (safe : Proper 256 t.safe) where
  abbrev T : Table
  T = after t rows'

  lent : (hints b set walk : List ℕ) → Sized hints b set walk → entry_check T b ≡ true → Words b → Words hints → Lent T hints b set walk
  lent hints b set walk z e words hint_words = record {
    starts = starts;
    safe = safe;
    range = range;
    rows = long;
    sound = sound;
    long = z.buffer;
    words = words;
    entry = e;
    hint_words = hint_words;
    lengths = z.others;
  }

  fails-entry : (hints b set walk : List ℕ) → Sized hints b set walk → entry_check T b ≡ false → run_refusal T hints b set walk ≡ 8
  unfolding run_refusal first_failing
  fails-entry hints b set walk z e = rw (z.others, eq-eqb (length b) 2066 z.buffer, eq-eqb (length rows') 1024 long, range, sound, e)

  fresh-lent : (b₀ b : List ℕ) → FreshPromise t.size b₀ b 0 → Lent T [] b (replicate 4 0) (replicate 256 0)
  unfolding lengths_ok
  fresh-lent b₀ b p = (runs.meets T).fresh [] b₀ b (replicate 4 0) (replicate 256 0) p range long sound starts safe (λ i. omega arith) refl

  kept-runs : KeptRuns t rows'
  unfolding run_answer
  kept-runs = record {
    fresh = λ b₀ b p. let l = fresh-lent b₀ b p in (l.long, l.entry, l.words);
    refused_with_8 = λ hints budget b b' set set' walk walk' r p z e. p.outcome ∙ rw (fails-entry hints b set walk z e);
    demands = λ hints budget b b' set set' walk walk' r p z e words hint_words.
        let l = lent hints b set walk z e words hint_words in
        ((runs.meets T).demand_2 hints budget b b' set set' walk walk' r l p, (runs.meets T).demand_3 hints budget b b' set set' walk walk' r l p);
    same_verdict = λ hints₁ hints₂ budget₁ budget₂ b₁ b₁' set₁ set₁' walk₁ walk₁' b₂ b₂' set₂ set₂' walk₂ walk₂' r₁ r₂ p₁ z₁ e₁ w₁ h₁ p₂ z₂ e₂ w₂ h₂.
        (runs.meets T).same_verdict hints₁ hints₂ budget₁ budget₂ b₁ b₁' set₁ set₁' walk₁ walk₁' b₂ b₂' set₂ set₂' walk₂ walk₂' r₁ r₂
        (lent hints₁ b₁ set₁ walk₁ z₁ e₁ w₁ h₁) (lent hints₂ b₂ set₂ walk₂ z₂ e₂ w₂ h₂) p₁ p₂;
  }

-- a sound table is sound with other sound rows
sound-after : (t : Table) (rows' : List ℕ) → sound_table t ≡ true → sound_rows t.size rows' ≡ true → sound_table (after t rows') ≡ true
unfolding sound_table
sound-after t rows' sound rows-sound =
    let (starts, rest) = and-true (sound-set t.size t.starts) (sound-set t.size t.safe && sound_rows t.size t.rows) sound in
    let (safe, _) = and-true (sound-set t.size t.safe) (sound_rows t.size t.rows) rest in
    and_intro starts (and_intro safe rows-sound)

pub meets_runs : (t : Table) (second : List ℕ) → MeetsRuns t second
meets_runs t second = record {
  kept = λ rows' second' s u there rows_fit second_fits p sound starts safe.
      let k = is_taken t.size t.rows second rows_fit second_fits rows' second' s u there p in
      let is = rows_after t.size t.rows second rows_fit second_fits rows' second' s u there p in
      let edited = done t.size t.rows second rows_fit second_fits s u there k in
      kept-runs t rows' k.lent.range (ap length is ∙ edited.lengths.0)
      (sound-after t rows' sound (ap (sound_rows t.size) is ∙ edited.sound)) starts safe;
}
