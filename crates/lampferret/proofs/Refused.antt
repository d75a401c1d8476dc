-- Demand 1 from the promises: a line or two for each call.
use Prim.Native.Nat.{ℕ, zero, suc}
use native.Mathlib.Omega.{arith}
use mathlib.Core.Bool.{Bool, true, false, ◌&&◌, ◌||◌, cond, false≢true}
use mathlib.Core.List.{List, [], ◌∷◌, ◌++◌}
use mathlib.Core.Logic.{◌≢◌}
use mathlib.Core.Path.{◌≡◌, refl, sym, ap, ◌∙◌}
use Rattle.std.specs.Prelude.{Result, Ok, Err}
use borrow.Author.Tests.{ne_eqb}
use lib.Dec.{eqb, leb}
use lib.IntN.{ℤ}
use lib.ListN.{length, drop}
use Rattle.answers.proofs.Order.{numbers_in, failing_in}
use Rattle.answers.proofs.Values.{no_value}
use Rattle.answers.specs.Answer.{Answer, refused, given, unless_refused}
use Rattle.answers.specs.Refusals.{one_of, first_failing}
use Rattle.answers.specs.declared.Refusal.{Refusal}
use Rattle.sets.specs.Said.{said_set, Answers}
use Rattle.sets.specs.Sets.{Set, in_range, size_refusal}
use Rattle.sets.specs.declared.StateSet.{StateSet}
use Rattle.turns.specs.Turn.{is_angle, between, turn_of}
use Rattle.rules.specs.Buffer.{encode, decode}
use Rattle.rules.specs.Rules as rules
use Rattle.rules.specs.Rules.{conclusion, State, Standing, safe, reached, unfinished}
use Rattle.rules.specs.Runs.{lacks_room, Ran}
use Rattle.rules.specs.Single.{Fired, takes, single}
use Rattle.rules.specs.Table.{Table}
use Rattle.moves.specs.Models.{Control}
use Rattle.moves.specs.Said.{move_refusal}
use Rattle.entries.specs.Refusal.{entry_refusal}
use Rattle.edits.specs.Promises.{lent_tests, into_refusal, edit_refusal, g_refusal}
use Rattle.runs.specs.Promises.{fresh_refusal, single_answer, single_buffer, run_refusal, run_answer, ran, set_after, walk_after}
use Rattle.runs.specs.Promises.{Answered}
use Rattle.runs.specs.Said.{said}
use Rattle.runs.specs.declared.RunAnswer.{RunAnswer}
use Rattle.tables.proofs.Numbered.{Numbered, off, on, step_numbered, reading-numbered}
use Rattle.tables.specs.Control.{write_refusal, writing, reading}
use Rattle.tables.specs.Format.{section_number, Contents, Taken, refused_at, taken, and_then}
use Rattle.tables.specs.Said.{section_step, said_reading, Read, length_of, put_in}
use Rattle.tables.specs.declared.Fault.{Fault}
use Rattle.tables.specs.declared.Reading.{Reading}
use Rattle.listings.specs.Listing.{reached_refusal, reached_wanted}
use Rattle.listings.specs.Said.{answered, written}
use Rattle.lampferret.specs.Boundary.{kept, in_words, rule_number, Gives, read_number, read_offset, read_into}
use Rattle.lampferret.specs.Refused.{Demand1, Demand1Boundary}

-- ---- what a refusal equals
one : {A : Type 0} {k m : ℕ} → ◌≡◌ {A = Answer A} (refused k) (refused m) → k ≡ m
one e = cc

-- ---- sets and turns
full-number : (N : ℕ) → size_refusal N ≢ 0 → one_of (2 ∷ []) (size_refusal N) ≡ true
unfolding size_refusal one_of
full-number N h = go (in_range N) h
  where
    go : (b : Bool) → ◌≢◌ {A = ℕ} (cond b 0 2) 0 → one_of (2 ∷ []) (cond b 0 2) ≡ true
    go true h = absurd (h refl)
    go false h = refl

turn_number : (a b : ℤ) (k : ℕ) → turn_of a b ≡ refused k → one_of (3 ∷ []) k ≡ true
unfolding turn_of one_of
turn_number a b k e = go (is_angle a && is_angle b) e
  where
    go : (c : Bool) → cond c (given (between 360 a b)) (refused 3) ≡ refused k → one_of (3 ∷ []) k ≡ true
    go true q = no_value (sym q)
    go false q = rw (← (one q))

-- ---- refusals that are lists of tests: the numbers of the tests
move-number : (N : ℕ) (rows : List ℕ) (x : Set) → move_refusal N rows x ≢ 0 → one_of (7 ∷ 2 ∷ 13 ∷ []) (move_refusal N rows x) ≡ true
unfolding move_refusal numbers_in one_of
move-number N rows x h = failing_in (7 ∷ 2 ∷ 13 ∷ []) _ refl h

second_number : (N : ℕ) (rows second : List ℕ) → first_failing (lent_tests N rows second) ≢ 0
    → one_of (7 ∷ 2 ∷ 13 ∷ []) (first_failing (lent_tests N rows second)) ≡ true
unfolding lent_tests numbers_in one_of
second_number N rows second h = failing_in (7 ∷ 2 ∷ 13 ∷ []) _ refl h

into-number : (N : ℕ) (rows second : List ℕ) (t : ℕ) → into_refusal N rows second t ≢ 0
    → one_of (7 ∷ 2 ∷ 13 ∷ 14 ∷ 4 ∷ []) (into_refusal N rows second t) ≡ true
unfolding into_refusal lent_tests numbers_in one_of
into-number N rows second t h = failing_in (7 ∷ 2 ∷ 13 ∷ 14 ∷ 4 ∷ []) _ refl h

edit_number : (N : ℕ) (rows second : List ℕ) (s t : ℕ) (there : Bool) → edit_refusal N rows second s t there ≢ 0
    → one_of (7 ∷ 2 ∷ 13 ∷ 14 ∷ 4 ∷ 15 ∷ []) (edit_refusal N rows second s t there) ≡ true
unfolding edit_refusal lent_tests numbers_in one_of
edit_number N rows second s t there h = failing_in (7 ∷ 2 ∷ 13 ∷ 14 ∷ 4 ∷ 15 ∷ []) _ refl h

by_second_number : (N : ℕ) (rows second : List ℕ) (x : Set) → g_refusal N rows second x ≢ 0
    → one_of (7 ∷ 2 ∷ 13 ∷ 14 ∷ []) (g_refusal N rows second x) ≡ true
unfolding g_refusal lent_tests numbers_in one_of
by_second_number N rows second x h = failing_in (7 ∷ 2 ∷ 13 ∷ 14 ∷ []) _ refl h

entry-number : (t : Table) (b : List ℕ) → entry_refusal t b ≢ 0 → one_of (7 ∷ 2 ∷ 13 ∷ 8 ∷ []) (entry_refusal t b) ≡ true
unfolding entry_refusal numbers_in one_of
entry-number t b h = failing_in (7 ∷ 2 ∷ 13 ∷ 8 ∷ []) _ refl h

fresh-number : (N : ℕ) (b : List ℕ) → fresh_refusal N b ≢ 0 → one_of (7 ∷ 2 ∷ []) (fresh_refusal N b) ≡ true
unfolding fresh_refusal numbers_in one_of
fresh-number N b h = failing_in (7 ∷ 2 ∷ []) _ refl h

run-number : (t : Table) (hints b set walk : List ℕ) → run_refusal t hints b set walk ≢ 0
    → one_of (7 ∷ 2 ∷ 13 ∷ 8 ∷ 11 ∷ []) (run_refusal t hints b set walk) ≡ true
unfolding run_refusal numbers_in one_of
run-number t hints b set walk h = failing_in (7 ∷ 2 ∷ 13 ∷ 8 ∷ 11 ∷ []) _ refl h

write_number : (c : Control) (room : ℕ) → write_refusal c room ≢ 0 → one_of (7 ∷ 2 ∷ 13 ∷ 3 ∷ 12 ∷ []) (write_refusal c room) ≡ true
unfolding write_refusal numbers_in one_of
write_number c room h = failing_in (7 ∷ 2 ∷ 13 ∷ 3 ∷ 12 ∷ []) _ refl h

reached_number : (walk : List ℕ) (angles : List ℤ) (modes : List ℕ) (states : ℕ) → reached_refusal walk angles modes states ≢ 0
    → one_of (7 ∷ 2 ∷ 12 ∷ []) (reached_refusal walk angles modes states) ≡ true
unfolding reached_refusal numbers_in one_of
reached_number walk angles modes states h = failing_in (7 ∷ 2 ∷ 12 ∷ []) _ refl h

-- a value unless refused
unless-refused : {A : Type 0} (n : ℕ) (a : A) {k : ℕ} → unless_refused n a ≡ refused k → (n ≢ 0) × (k ≡ n)
unfolding unless_refused
unless-refused zero a e = no_value (sym e)
unless-refused (suc n) a e = (λ q. omega arith, sym (one e))

-- .. a set: the refusal's numbers
set-number : (ns : List ℕ) (n : ℕ) (x : Set) (r : Result StateSet Refusal) (k : ℕ) → (n ≢ 0 → one_of ns n ≡ true) → Answers n x r
    → said_set r ≡ refused k → one_of ns k ≡ true
set-number ns n x r k h p e = let (some, same) = unless-refused n x (sym p.answer ∙ e) in rw same (h some)

-- ---- a single rule
single-number : (t : Table) (s : State) (z : Set) (k : ℕ) → single t s z ≡ refused k → one_of (7 ∷ 2 ∷ 13 ∷ 8 ∷ 10 ∷ 11 ∷ 9 ∷ []) k ≡ true
unfolding single one_of
single-number t s z k e = go (conclusion t s) (lacks_room t s) (takes t s z) refl refl refl
  where
    go : (c : Standing) (l m : Bool) → conclusion t s ≡ c → lacks_room t s ≡ l → takes t s z ≡ m → one_of (7 ∷ 2 ∷ 13 ∷ 8 ∷ 10 ∷ 11 ∷ 9 ∷ []) k ≡ true
    go (safe j) l m ec el em = rw (← (one (rw (ec, single) at e)))
    go reached l m ec el em = rw (← (one (rw (ec, single) at e)))
    go rules.no_room l m ec el em = rw (← (one (rw (ec, single) at e)))
    go unfinished true m ec el em = rw (← (one (rw (ec, el, single) at e)))
    go unfinished false false ec el em = rw (← (one (rw (ec, el, em, single) at e)))
    go unfinished false true ec el em = no_value (sym (rw (ec, el, em, single) at e))

wider : (k : ℕ) → one_of (7 ∷ 2 ∷ 13 ∷ 8 ∷ []) k ≡ true → one_of (7 ∷ 2 ∷ 13 ∷ 8 ∷ 10 ∷ 11 ∷ 9 ∷ []) k ≡ true
unfolding one_of
wider k e = go (eqb k 7) (eqb k 2) (eqb k 13) (eqb k 8) _ e
  where
    go : (a b c d x : Bool) → (a || (b || (c || (d || false)))) ≡ true → (a || (b || (c || (d || x)))) ≡ true
    go true b c d x e = refl
    go false true c d x e = refl
    go false false true d x e = refl
    go false false false true x e = refl
    go false false false false x e = absurd (false≢true e)

single-refused : (t : Table) (z : Set) (b b' : List ℕ) (k : ℕ) → single_answer (entry_refusal t b) (single t (decode b) z) ≡ refused k
    → b' ≡ single_buffer (entry_refusal t b) (single t (decode b) z) b → (one_of (7 ∷ 2 ∷ 13 ∷ 8 ∷ 10 ∷ 11 ∷ 9 ∷ []) k ≡ true) × (b' ≡ b)
unfolding single_answer single_buffer
single-refused t z b b' k e q = go (entry_refusal t b) (single t (decode b) z) refl refl e q
  where
    go : (n : ℕ) (a : Answer Fired) → entry_refusal t b ≡ n → single t (decode b) z ≡ a → single_answer n a ≡ refused k → b' ≡ single_buffer n a b
        → (one_of (7 ∷ 2 ∷ 13 ∷ 8 ∷ 10 ∷ 11 ∷ 9 ∷ []) k ≡ true) × (b' ≡ b)
    go (suc n) a en ea e q = (wider k (rw (en ∙ one e) at (entry-number t b (λ z. omega arith))), q)
    go zero (refused m) en ea e q = (rw (one e) at (single-number t (decode b) z m ea), q)
    go zero (given f) en ea e q = no_value (sym e)

-- ---- a run
is_11 : one_of (7 ∷ 2 ∷ 13 ∷ 8 ∷ 11 ∷ []) 11 ≡ true
unfolding one_of
is_11 = refl

run-refused : (t : Table) (hints : List ℕ) (b b' set set' walk walk' : List ℕ) (o : Ran) (r : Result RunAnswer Refusal) (k : ℕ)
    → Answered t (run_refusal t hints b set walk) o b b' set set' walk walk' r → said r ≡ refused k
    → (one_of (7 ∷ 2 ∷ 13 ∷ 8 ∷ 11 ∷ []) k ≡ true) × (b' ≡ b) × (set' ≡ set) × (walk' ≡ walk)
unfolding run_answer ran set_after walk_after
run-refused t hints b b' set set' walk walk' o r k p e =
    go (run_refusal t hints b set walk) o.standing refl refl (sym p.outcome ∙ e) p.buffer p.set_is p.walk_is
  where
    go : (n : ℕ) (c : Standing) → run_refusal t hints b set walk ≡ n → o.standing ≡ c → run_answer n c o.state ≡ refused k
        → b' ≡ cond (ran n c) (encode o.state) b → set' ≡ set_after n c o.state set → walk' ≡ walk_after t n c o.state walk
        → (one_of (7 ∷ 2 ∷ 13 ∷ 8 ∷ 11 ∷ []) k ≡ true) × (b' ≡ b) × (set' ≡ set) × (walk' ≡ walk)
    go (suc n) c en ec q qb qs qw = (rw (en ∙ one q) at (run-number t hints b set walk (λ z. omega arith)), qb, qs, qw)
    go zero (safe j) en ec q qb qs qw = no_value (sym q)
    go zero reached en ec q qb qs qw = no_value (sym q)
    go zero unfinished en ec q qb qs qw = no_value (sym q)
    go zero rules.no_room en ec q qb qs qw = (eleven k (one q), qb, qs, qw)
      where
        eleven : (k : ℕ) → 11 ≡ k → one_of (7 ∷ 2 ∷ 13 ∷ 8 ∷ 11 ∷ []) k ≡ true
        eleven k q = rw (← q) is_11

-- ---- files
section-number : (i N : ℕ) (b : List ℕ) (at k place : ℕ) → section_step (section_number i N) b at ≡ refused_at k place
    → one_of (1 ∷ 2 ∷ 3 ∷ 4 ∷ 5 ∷ []) k ≡ true
section-number i N b at k place e = go _ (step_numbered i N b at) e
  where
    go : (x : Taken (ℕ × ℕ)) → Numbered (1 ∷ 2 ∷ 3 ∷ 4 ∷ 5 ∷ []) x → x ≡ refused_at k place → one_of (1 ∷ 2 ∷ 3 ∷ 4 ∷ 5 ∷ []) k ≡ true
    go (refused_at m p) (off h) q = let same : m ≡ k = cc in rw same at h
    go (taken v) on q = let z : ◌≡◌ {A = ℕ} 0 1 = cc in absurd (omega arith)

read-refused : (file rows : List ℕ) (angles : List ℤ) (modes : List ℕ) (r : Result Reading Fault) (rows' : List ℕ) (angles' : List ℤ) (modes' : List ℕ)
    (k place : ℕ) → Read file rows angles modes r rows' angles' modes' → said_reading r ≡ refused_at k place
    → (one_of (7 ∷ 1 ∷ 2 ∷ 3 ∷ 4 ∷ 5 ∷ 6 ∷ []) k ≡ true) × (rows' ≡ rows) × (angles' ≡ angles) × (modes' ≡ modes)
unfolding and_then
read-refused file rows angles modes r rows' angles' modes' k place p e =
    go (reading file rows angles modes) (reading-numbered file rows angles modes) refl
  where
    go : (x : Taken Contents) → Numbered (7 ∷ 1 ∷ 2 ∷ 3 ∷ 4 ∷ 5 ∷ 6 ∷ []) x → reading file rows angles modes ≡ x
        → (one_of (7 ∷ 1 ∷ 2 ∷ 3 ∷ 4 ∷ 5 ∷ 6 ∷ []) k ≡ true) × (rows' ≡ rows) × (angles' ≡ angles) × (modes' ≡ modes)
    go (refused_at m at) (off h) q =
        let both = rw q at (sym e ∙ p.answer) in
        let same : m ≡ k = cc in
        (rw same at h, rw q at p.filled_rows, rw q at p.filled_angles, rw q at p.filled_modes)
    go (taken l) on q = let both = rw q at (sym e ∙ p.answer) in let z : ◌≡◌ {A = ℕ} 0 1 = cc in absurd (omega arith)

writing-refused : (c : Control) (out out' : List ℕ) (k : ℕ) → length_of (writing c (length out)) ≡ refused k → out' ≡ put_in (writing c (length out)) out
    → (one_of (7 ∷ 2 ∷ 13 ∷ 3 ∷ 12 ∷ []) k ≡ true) × (out' ≡ out)
unfolding writing
writing-refused c out out' k e q = go (writing c (length out)) refl e q
  where
    go : (a : Answer (List ℕ)) → writing c (length out) ≡ a → length_of a ≡ refused k → out' ≡ put_in a out
        → (one_of (7 ∷ 2 ∷ 13 ∷ 3 ∷ 12 ∷ []) k ≡ true) × (out' ≡ out)
    go (refused m) ea e q = let (n, same) = unless-refused _ _ ea in (rw (← (one e), same) (write_number c (length out) n), q)
    go (given b) ea e q = no_value (sym e)

-- ---- listings
listing_refused : (wanted : Answer (List ℕ)) (ns out out' : List ℕ) (k : ℕ) → one_of ns 12 ≡ true → ((m : ℕ) → wanted ≡ refused m → one_of ns m ≡ true)
    → answered wanted out ≡ refused k → out' ≡ written wanted out → (one_of ns k ≡ true) × (out' ≡ out)
unfolding answered written
listing_refused (refused m) ns out out' k twelve h e q = (rw (one e) at (h m refl), q)
listing_refused (given bytes) ns out out' k twelve h e q = go (leb (length bytes) (length out)) refl e q
  where
    go : (b : Bool) → leb (length bytes) (length out) ≡ b → cond b (given (length bytes)) (refused 12) ≡ refused k
        → out' ≡ cond b (bytes ++ drop (length bytes) out) out → (one_of ns k ≡ true) × (out' ≡ out)
    go true eb e q = no_value (sym e)
    go false eb e q = (rw (one e) at twelve, q)

is_12 : one_of (12 ∷ []) 12 ≡ true
unfolding one_of
is_12 = refl

last_12 : one_of (7 ∷ 2 ∷ 12 ∷ []) 12 ≡ true
unfolding one_of
last_12 = refl

reached_refused : (c : Control) (rules : ℕ) (walk : List ℕ) (states m : ℕ) → reached_wanted c rules walk states ≡ refused m
    → one_of (7 ∷ 2 ∷ 12 ∷ []) m ≡ true
unfolding reached_wanted
reached_refused c rules walk states m e = let (n, same) = unless-refused _ _ e in rw same (reached_number walk c.angles c.modes states n)

pub demand_1 : Demand1
demand_1 =
    record {
      full = λ N r k p e. set-number _ _ _ r k (full-number N) p e;
      turn = turn_number;
      f_and_g = λ N rows x result r k p e. set-number _ _ result r k (move-number N rows x) p e;
      second = λ N rows second second' r p h.
          let h' = rw p.answer at h in
          (rw p.answer (second_number N rows second h'), p.second_is ∙ rw (ne_eqb (first_failing (lent_tests N rows second)) 0 h'));
      into = λ N rows second t result r k p e. set-number _ _ result r k (into-number N rows second t) p e;
      edit = λ N rows rows' second second' s t there r p h.
          let h' = rw p.answer at h in
          let refused-is = ne_eqb (edit_refusal N rows second s t there) 0 h' in
          (rw p.answer (edit_number N rows second s t there h'), p.rows_are ∙ rw refused-is, p.second_is ∙ rw refused-is);
      g_by_second = λ N rows second x result r k p e. set-number _ _ result r k (by_second_number N rows second x) p e;
      entry = entry-number;
      fresh = λ N b b' r p h.
          let h' = rw p.answer at h in
          (rw p.answer (fresh-number N b h'), p.buffer ∙ rw (ne_eqb (fresh_refusal N b) 0 h'));
      single = λ t z b b' r k p e. single-refused t z b b' k (sym p.answer ∙ e) p.buffer;
      run = λ t hints budget b b' set set' walk walk' r k p e. run-refused t hints b b' set set' walk walk' _ r k p e;
      section = section-number;
      read = read-refused;
      write = λ c out out' r k p e. writing-refused c out out' k (sym p.answer ∙ e) p.output;
      list = λ bytes out out' r k p e. listing_refused (given bytes) _ out out' k is_12 (λ m q. no_value (sym q)) (sym p.answer ∙ e) p.output;
      list_reached = λ c rules walk states out out' r k p e.
          listing_refused _ _ out out' k last_12 (reached_refused c rules walk states) (sym p.answer ∙ e) p.output;
    }

-- ---- over the boundary
-- an answer that is a refusal leaves its place
gives_refused : {A : Type 0} (a : Answer A) (old new : A) (r : ℕ) → Gives a old new r → r ≢ 0 → (a ≡ refused r) × (new ≡ old)
gives_refused (refused k) old new r p h = (ap refused (sym p.refusal), p.place)
gives_refused (given a) old new r p h = absurd (h p.refusal)

kept-refused : {A : Type 0} (k : ℕ) (x old new : A) → new ≡ kept k x old → k ≢ 0 → new ≡ old
kept-refused zero x old new e h = absurd (h refl)
kept-refused (suc k) x old new e h = e

reading_refused : (a : Result Reading Fault) (r : ℕ) → r ≡ read_number a → r ≢ 0 → said_reading a ≡ refused_at r (read_offset a)
reading_refused (Ok l) r e h = absurd (h e)
reading_refused (Err f) r e h = ap (λ k. refused_at k f.offset) (sym e)

into_refused : {A : Type 0} (part : Reading → A) (a : Result Reading Fault) (r : ℕ) (old new : A) → r ≡ read_number a → r ≢ 0
    → new ≡ read_into part a old → new ≡ old
into_refused part (Ok l) r old new e h q = absurd (h e)
into_refused part (Err f) r old new e h q = q

in-words : {A B : Type 0} (f : A → B) (a : Answer A) (k : ℕ) → in_words f a ≡ refused k → a ≡ refused k
in-words f (refused m) k e = ap refused (one e)
in-words f (given a) k e = no_value (sym e)

pub demand_1_boundary : Demand1Boundary
demand_1_boundary =
    record {
      full = λ N x old new r p h.
          let h' = rw p.answer at h in
          (rw p.answer (full-number N h'), kept-refused _ x old new p.place h');
      f_and_g = λ N rows x result old new r p h.
          let h' = rw p.answer at h in
          (rw p.answer (move-number N rows x h'), kept-refused _ result old new p.place h');
      into = λ N rows second t result old new r p h.
          let h' = rw p.answer at h in
          (rw p.answer (into-number N rows second t h'), kept-refused _ result old new p.place h');
      g_by_second = λ N rows second x result old new r p h.
          let h' = rw p.answer at h in
          (rw p.answer (by_second_number N rows second x h'), kept-refused _ result old new p.place h');
      turn = λ a b old new r p h. let (e, q) = gives_refused _ old new r p h in (turn_number a b r e, q);
      single = λ t z b b' old new r p h.
          let (e, q) = gives_refused _ old new r p.answer h in
          let (n, same) = single-refused t z b b' r (in-words rule_number _ r e) p.buffer in
          (n, same, q);
      run = λ t hints budget b b' set set' walk walk' old new r p h.
          let (e, q) = gives_refused _ old new r p.answer h in
          let (n, same, same_set, same-walk) = demand_1.run t hints budget b b' set set' walk walk' p.run r p.promised (in-words _ _ r e) in
          (n, same, same_set, same-walk, q);
      read = λ file rows rows' angles angles' modes modes' starts starts' safe safe' counts counts' offset' r p h.
          let (n, same_rows, same-angles, same-modes) =
          demand_1.read file rows angles modes p.reading rows' angles' modes' r _ p.promised (reading_refused p.reading r p.answer h) in (
            n,
            same_rows,
            same-angles,
            same-modes,
            into_refused _ p.reading r starts starts' p.answer h p.starts_are,
            into_refused _ p.reading r safe safe' p.answer h p.safe_are,
            into_refused _ p.reading r counts counts' p.answer h p.counts_are,
          );
      write = λ c out out' old new r p h.
          let (e, q) = gives_refused _ old new r p.answer h in
          let (n, same) = writing-refused c out out' r e p.output in
          (n, same, q);
      check = λ bytes out out' old new r p h.
          let (e, q) = gives_refused _ old new r p.answer h in
          let (n, same) = listing_refused (given bytes) _ out out' r is_12 (λ m z. no_value (sym z)) e p.output in
          (n, same, q);
    }
