-- Demands 2 and 3 of the code's own promise, from the theorems of the rules; what a run leaves can be lent again.
use Prim.Native.Nat.{ℕ, ◌+◌, ◌-◌, ◌*◌, ◌^◌, ◌≤◌, ◌<◌, ◌/◌, ◌%◌}
use native.Mathlib.Nat.{zero-add, add_assoc}
use native.Mathlib.Omega.{arith}
use mathlib.Core.Bool.{Bool, true, false}
use mathlib.Core.List.{List, ◌++◌}
use mathlib.Core.Logic.{inl, inr}
use mathlib.Core.Path.{◌≡◌, refl, sym, ap, ◌∙◌}
use borrow.Author.Tests.{eq-eqb}
use lib.Dec.{eqb}
use lib.ListN.{length, get_or, drop, take, length-take, length-drop, get_or-eq_default}
use lib.Seq.{sets, drop_at, get_or-drop, sets-eq, length-sets}
use Rattle.std.specs.Prelude.{Result}
use Rattle.answers.specs.Answer.{refused, given}
use Rattle.answers.specs.declared.Refusal.{Refusal}
use Rattle.rules.proofs.Budget.{run-standing}
use Rattle.rules.proofs.Buffer.{at_x, at_y, encode-n, encode-k, encode-length}
use Rattle.rules.proofs.Demands.{demand_2, demand_3}
use Rattle.rules.proofs.Ends.{run-ind}
use Rattle.rules.proofs.Entry.{inv_entry}
use Rattle.rules.proofs.Held.{fit_by, kept-accepts, Fit}
use Rattle.rules.proofs.Invariant.{Invariant}
use Rattle.rules.proofs.Meaning.{real_walked, walk_length}
use Rattle.rules.specs.Buffer.{encode, decode, entry_check, Normal}
use Rattle.rules.specs.Demands.{Passes, Demand2, Demand3, ended_safe, ended_reached}
use Rattle.rules.specs.Rules.{no_room, conclusion, due, house, State, Standing, safe, reached, unfinished}
use Rattle.rules.specs.Runs.{pick, stop, asks, offered, after, will_do, choose, run, Ran}
use Rattle.rules.specs.Published.{ConclusiveX, ConclusiveY, Conclusive, ConclusiveAt, BySlide, by_x, by_y, by_neither}
use Rattle.rules.specs.ShownWalk.{shown_walk}
use Rattle.rules.specs.Table.{Table}
use Rattle.rules.specs.Walks.{BadReached}
use Rattle.answers.specs.Refusals.{first_failing}
use Rattle.rules.proofs.Ready.{Good, good_by, ready_by}
use Rattle.runs.proofs.Answers.{left-ready, left_back, ran-all, lengths_set, lengths_walk}
use Rattle.runs.proofs.Choices.{hints_none, hints_same, hints_more}
use Rattle.runs.proofs.Stores.{place, Place, first, second, in_x, in_y}
use Rattle.runs.proofs.Walks.{reached_short}
use Rattle.runs.specs.Demands.{SaysSafe, SaysReached, Ends, Lent, RunDemand2, RunDemand3, SameVerdict}
use Rattle.runs.specs.Hints.{hints_at}
use Rattle.runs.specs.Promises.{run_refusal, lengths_ok, run_answer, ran, set_after, walk_after, RunPromise}
use Rattle.runs.specs.Said.{said, safe_with, reached_with, not_ended, rules_of, taken_of, used_of}
use Rattle.runs.specs.declared.RunAnswer.{RunAnswer}
use Rattle.sets.proofs.Members.{proper_length, proper_word, proper_up}
use Rattle.sets.proofs.Range.{range_says}
use Rattle.sets.proofs.Tests.{passed, and-true, eqb-says, lt_or_ge}
use Rattle.sets.proofs.Words.{take-sets}
use Rattle.sets.specs.Sets.{Set, quad, Words}
use Rattle.rules.specs.Runs as runs
use Rattle.rules.specs.Demands as rules

-- ---- what is said, taken apart
says_safe : (r : Standing) (s : State) (j : ℕ) → run_answer 0 r s ≡ given (safe_with j) → r ≡ safe j
unfolding run_answer
says_safe (safe i) s j e = let q : i ≡ j = cc in rw q
says_safe reached s j e = cc
says_safe unfinished s j e = cc
says_safe no_room s j e = cc

says_open : (r : Standing) (s : State) → run_answer 0 r s ≡ given not_ended → r ≡ unfinished
unfolding run_answer
says_open (safe j) s e = cc
says_open reached s e = cc
says_open unfinished s e = refl
says_open no_room s e = cc

-- what the slide says, by how a run stands
slide_safe : {t : Table} {s : State} {j : ℕ} → BySlide t s (safe j) → ConclusiveAt t s j
slide_safe (by_x c) = c

slide_reached : {t : Table} {s : State} → BySlide t s reached → (ConclusiveX t s → ⊥) × ConclusiveY t s
slide_reached (by_y n c) = (n, c)

slide_open : {t : Table} {s : State} → BySlide t s unfinished → Conclusive t s → ⊥
slide_open (by_neither n) = n

says_reached : (r : Standing) (s : State) (m : ℕ) → run_answer 0 r s ≡ given (reached_with m) → (r ≡ reached) × (m ≡ s.n - 1)
unfolding run_answer
says_reached (safe i) s m e = let z : ◌≡◌ {A = ℕ} 0 1 = cc in absurd (omega arith)
says_reached reached s m e = (refl, let q : s.n - 1 ≡ m = cc in sym q)
says_reached unfinished s m e = let z : ◌≡◌ {A = ℕ} 0 1 = cc in absurd (omega arith)
says_reached no_room s m e = let z : ◌≡◌ {A = ℕ} 0 1 = cc in absurd (omega arith)

says_no_refusal : (r : Standing) (s : State) (k : ℕ) → ran 0 r ≡ true → run_answer 0 r s ≡ refused k → ⊥
unfolding run_answer ran
says_no_refusal (safe j) s k e q = let z : ◌≡◌ {A = ℕ} 0 1 = cc in omega arith
says_no_refusal reached s k e q = let z : ◌≡◌ {A = ℕ} 0 1 = cc in omega arith
says_no_refusal unfinished s k e q = let z : ◌≡◌ {A = ℕ} 0 1 = cc in omega arith
says_no_refusal no_room s k e q = let z : ◌≡◌ {A = ℕ} 0 1 = cc in omega arith

length-take-most : (m : ℕ) (x : List ℕ) → length (take m x) ≤ m
length-take-most m x = rw length-take (omega arith)

n_of : (c : List ℕ) → get_or c 0 0 ≡ (decode c).n
unfolding decode
n_of c = refl

-- ---- the hints that remain: those after the hints taken
pick-left : (c : Bool) (ws : List ℕ) (a : ℕ) (will : Set → Bool) (h : Set)
    → (pick c (hints_at ws a) will h).left ≡ hints_at ws (a + (pick c (hints_at ws a) will h).taken)
unfolding pick offered
pick-left false ws a will h = hints_same ws a
pick-left true ws a will h = elim (lt_or_ge a (length ws / 4)) [
  | inl l ↦ rw (hints_more ws a l) (go (will (quad ws (4 * a))))
  | inr l ↦ rw (hints_none ws a l) (sym (hints_none ws (a + 0) (omega arith)))
]
  where
    go : (b : Bool) → (offered b (quad ws (4 * a)) h (hints_at ws (a + 1))).left ≡ hints_at ws (a + (offered b (quad ws (4 * a)) h (hints_at ws (a + 1))).taken)
    go true = refl
    go false = refl

module _ (t : Table) (big : t.size ≤ 256) (ws : List ℕ) where
  pub run-left : (b : ℕ) (hs : List Set) (s : State) → Invariant t s → (a : ℕ) → hs ≡ hints_at ws a
      → (run t b hs s).left ≡ hints_at ws (a + (run t b hs s).taken)
  unfolding stop after choose
  run-left = run-ind t big (λ b hs s o. (a : ℕ) → hs ≡ hints_at ws a → o.left ≡ hints_at ws (a + o.taken))
      (λ b hs s v d a e. e ∙ hints_same ws a)
      (λ b hs s o v p q a e.
      let l = rw (← e) at (pick-left (asks (due t s)) ws a (will_do t s) (house t (due t s) s)) in
      q (a + (choose t hs s).taken) l ∙ ap (λ k. hints_at ws k) (add_assoc a (choose t hs s).taken o.taken))

-- the lengths fit again, with the hints from number a on
lengths_drop : (a : ℕ) (hints set walk set₂ walk₂ : List ℕ) → lengths_ok hints set walk ≡ true → length set₂ ≡ 4 → length walk₂ ≡ 256
    → lengths_ok (drop (4 * a) hints) set₂ walk₂ ≡ true
unfolding lengths_ok
lengths_drop a hints set walk set₂ walk₂ e e₁ e₂ =
    let h : length hints % 4 ≡ 0 = passed (eqb-says (length hints % 4) 0) (and-true (eqb (length hints % 4) 0) _ e).0 in
    let h' : length (drop (4 * a) hints) % 4 ≡ 0 = rw length-drop (omega arith) in
    rw (eq-eqb (length (drop (4 * a) hints) % 4) 0 h', eq-eqb (length set₂) 4 e₁, eq-eqb (length walk₂) 256 e₂)

-- ---- what a run writes
-- every word of a state's buffer has 64 bits
pub encode-words : (t : Table) → t.size ≤ 256 → (s : State) → Invariant t s → Normal t.size s → Words (encode s)
encode-words t big s v m i = elim (lt_or_ge i 2066) [
  | inl l ↦ at i (place i l)
  | inr l ↦ rw (get_or-eq_default (encode s) 0 {n = i} (omega (arith, encode-length s))) (omega arith)
]
  where
    at : (i : ℕ) → Place i → get_or (encode s) i 0 < 2 ^ 64
    at i first = rw (encode-n s) (omega (arith, v.cap))
    at i second = rw (encode-k s) (omega (arith, v.cap, v.le))
    at i (in_x j c w lj lc e) = rw (at_x s j c i lj lc e) (proper_word (s.x j) (proper_up t.size big (m.proper_x j)) c lc)
    at i (in_y j c w lj lc e) = rw (at_y s j c i lj lc e) (proper_word (s.y j) (proper_up t.size big (m.proper_y j)) c lc)

-- a set and a walk keep their lengths
set-length : (r : Standing) (s : State) (l : List ℕ) → length l ≡ 4 → ((j : ℕ) → length (s.x j) ≡ 4) → length (set_after 0 r s l) ≡ 4
unfolding set_after
set-length (safe j) s l e h = h j
set-length reached s l e h = e
set-length unfinished s l e h = e
set-length no_room s l e h = e

walk_long : (t : Table) (r : Standing) (s : State) (l : List ℕ) → length (walk_after t 0 r s l) ≡ length l
unfolding walk_after
walk_long t (safe j) s l = refl
walk_long t reached s l = length-sets l 0 (shown_walk t s)
walk_long t unfinished s l = refl
walk_long t no_room s l = refl

-- a set or a walk written twice is as if written once
pub set_twice : (r : Standing) (s : State) (l : List ℕ) → set_after 0 r s (set_after 0 r s l) ≡ set_after 0 r s l
unfolding set_after
set_twice (safe j) s l = refl
set_twice reached s l = refl
set_twice unfinished s l = refl
set_twice no_room s l = refl

sets_twice : (w l : List ℕ) → length w ≤ length l → sets (sets l 0 w) 0 w ≡ sets l 0 w
sets_twice w l h =
    sets-eq w (sets l 0 w) 0 (rw length-sets (omega arith))
    ∙ ap (λ x. w ++ x) (ap (drop (0 + length w)) (sets-eq w l 0 (omega arith)) ∙ drop_at w (drop (0 + length w) l) (0 + length w) (sym (zero-add (length w))))
    ∙ sym (sets-eq w l 0 (omega arith))

pub walk_twice : (t : Table) (r : Standing) (s : State) (l : List ℕ) → (r ≡ reached → length (shown_walk t s) ≤ length l)
    → walk_after t 0 r s (walk_after t 0 r s l) ≡ walk_after t 0 r s l
unfolding walk_after
walk_twice t (safe j) s l h = refl
walk_twice t reached s l h = sets_twice (shown_walk t s) l (h refl)
walk_twice t unfinished s l h = refl
walk_twice t no_room s l h = refl

module _ (t : Table) (hints b set walk : List ℕ) (l : Lent t hints b set walk) where
  pub big : t.size ≤ 256
  big = (passed (range_says t.size) l.range).1

  good : Good t
  good = good_by t big l.starts l.safe l.sound

  pub fit : Fit t b
  fit = fit_by t big b l.long l.words l.entry

  passes : rules.Passes t (decode b)
  passes = inv_entry t (decode b) fit.inv

  not_refused : run_refusal t hints b set walk ≡ 0
  unfolding run_refusal first_failing
  not_refused = rw (l.lengths, eq-eqb (length b) 2066 l.long, eq-eqb (length t.rows) 1024 l.rows, l.range, l.sound, l.entry)

  module _ (budget : ℕ) (b' set' walk' : List ℕ) (r : Result RunAnswer Refusal) (p : RunPromise t hints budget b b' set set' walk walk' r) where
    abbrev o : runs.Ran
    o = run t budget (hints_at hints 0) (decode b)

    -- the promise of a run that is not refused
    pub told : said r ≡ run_answer 0 o.standing o.state
    told = rw not_refused at p.outcome

    result_is_conclusion : o.standing ≡ conclusion t o.state
    result_is_conclusion = run-standing t big budget (hints_at hints 0) (decode b) fit.inv

    was_run : ran 0 o.standing ≡ true
    was_run = rw result_is_conclusion (ran-all t o.state)

    pub fired : rules_of r ≡ o.rules
    fired = rw (not_refused, was_run) at p.rules

    pub took : taken_of r ≡ o.taken
    took = rw (not_refused, was_run) at p.taken

    pub uses : used_of r ≡ o.used
    uses = rw (not_refused, was_run) at p.used

    pub left-buffer : b' ≡ encode o.state
    left-buffer = rw (not_refused, was_run) at p.buffer

    pub left-state : decode b' ≡ o.state
    left-state = left_back t b (ready_by good fit) budget hints l.hint_words b' left-buffer

    pub left-hints : o.left ≡ hints_at hints o.taken
    left-hints = run-left t big hints budget (hints_at hints 0) (decode b) fit.inv 0 refl ∙ ap (λ a. hints_at hints a) (zero-add o.taken)

    safe_at_j : (j : ℕ) → said r ≡ given (safe_with j) → o.standing ≡ safe j
    safe_at_j j e = says_safe o.standing o.state j (sym told ∙ e)

    reached_in : (m : ℕ) → SaysReached r m → (o.standing ≡ reached) × (m ≡ o.state.n - 1)
    reached_in m e = says_reached o.standing o.state m (sym told ∙ e)

    ends_of : rules.Ended o.standing → Ends r
    unfolding run_answer
    ends_of e = go o.standing e told
      where
        go : (c : Standing) → rules.Ended c → said r ≡ run_answer 0 c o.state → Ends r
        go c (rules.ended_safe j) q = inl (j, q)
        go c rules.ended_reached q = inr (o.state.n - 1, q)

    of_ends : Ends r → rules.Ended o.standing
    of_ends (inl w) = rw (safe_at_j w.0 w.1) (rules.ended_safe w.0)
    of_ends (inr w) = rw (reached_in w.0 w.1).0 rules.ended_reached

    set-written : (j : ℕ) → o.standing ≡ safe j → set' ≡ o.state.x j
    unfolding set_after
    set-written j e = rw (not_refused, e) at p.set_is

    walk_written : o.standing ≡ reached → walk' ≡ sets walk 0 (shown_walk t o.state)
    unfolding walk_after
    walk_written e = rw (not_refused, e) at p.walk_is

    left-fits : Fit t b'
    left-fits = (left-ready t b (ready_by good fit) budget hints l.hint_words b' left-buffer).fit

    few : o.standing ≡ reached → o.state.n ≤ 257
    few e =
        let h : get_or b' 0 0 ≤ 257 = reached_short t good b' left-fits (rw left-state (sym result_is_conclusion ∙ e)) in
        rw (ap (λ s. s.n) left-state) at (rw (n_of b') at h)

    -- the walk has room for the states of a reached run
    pub walk_room : o.standing ≡ reached → length (shown_walk t o.state) ≤ length walk
    walk_room e = omega (arith, few e, walk_length t big o.state, lengths_walk hints set walk l.lengths)

    -- the demands of the rules, of what the buffers hold
    abbrev walked : List ℕ
    walked = take (o.state.n - 1) walk'

    walked-is : o.standing ≡ reached → walked ≡ shown_walk t o.state
    walked-is e = rw (walk_written e, ← (walk_length t big o.state)) (take-sets (shown_walk t o.state) walk (walk_room e))

    two : rules.Demand2 t (decode b) budget (hints_at hints 0) o set' walked
    two = demand_2 t big (decode b) passes budget (hints_at hints 0) set' walked set-written walked-is

    three : rules.Demand3 t (decode b) budget (hints_at hints 0) o set' walked
    three = demand_3 t big (decode b) passes budget (hints_at hints 0) set' walked set-written walked-is

    -- how the run says that it stands
    open_in : said r ≡ given not_ended → o.standing ≡ unfinished
    open_in e = says_open o.standing o.state (sym told ∙ e)

    stands_as : {c : Standing} → o.standing ≡ c → BySlide t (decode b') c
    stands_as e = rw left-state (rw e at two.stands)

    in_open : o.standing ≡ unfinished → said r ≡ given not_ended
    unfolding run_answer
    in_open e = rw e at told

    -- the set and the walk that a run leaves, and their lengths
    pub set-left : set' ≡ set_after 0 o.standing o.state set
    set-left = rw not_refused at p.set_is

    pub walk_left : walk' ≡ walk_after t 0 o.standing o.state walk
    walk_left = rw not_refused at p.walk_is

    pub set_four : length set' ≡ 4
    set_four =
        rw set-left (set-length o.standing o.state set (lengths_set hints set walk l.lengths)
        (λ j. proper_length t.size (o.state.x j) (rw (ap (λ s. s.x j) left-state) at (left-fits.held.norm.proper_x j))))

    pub walk_256 : length walk' ≡ 256
    walk_256 = rw walk_left (walk_long t o.standing o.state walk ∙ lengths_walk hints set walk l.lengths)

    -- what a run leaves passes the entry check again
    pub run_enters : entry_check t b' ≡ true
    run_enters = rw (← left-fits.held.same) (kept-accepts t big (decode b') left-fits.inv left-fits.held.norm)

    -- .. so it can be lent again, with the hints from number a on
    pub lent_again : (a : ℕ) (set₂ walk₂ : List ℕ) → length set₂ ≡ 4 → length walk₂ ≡ 256 → Lent t (drop (4 * a) hints) b' set₂ walk₂
    lent_again a set₂ walk₂ e₁ e₂ =
        record {
          starts = l.starts;
          safe = l.safe;
          range = l.range;
          rows = l.rows;
          sound = l.sound;
          long = rw (← left-fits.held.same) (encode-length (decode b'));
          words = rw (← left-fits.held.same) (encode-words t big (decode b') left-fits.inv left-fits.held.norm);
          entry = run_enters;
          hint_words = λ i. rw get_or-drop (l.hint_words (4 * a + i));
          lengths = lengths_drop a hints set walk set₂ walk₂ l.lengths e₁ e₂;
        }

    safe_of : (j : ℕ) × (o.standing ≡ safe j) → SaysSafe r
    unfolding run_answer
    safe_of w = (w.0, rw w.1 at told)

    pub run-demand_2 : RunDemand2 t hints budget b b' set' walk' r
    run-demand_2 =
        record {
          not_refused = λ w. says_no_refusal o.standing o.state w.0 was_run (sym told ∙ w.1);
          enters = run_enters;
          rules_published = rw (fired, took, uses, left-state, ← left-hints) two.rules_published;
          safe_there = λ j e.
              let q = safe_at_j j e in
              record { conclusive = slide_safe (stands_as q); set_is = rw left-state (set-written j q) };
          reached_there = λ m e.
              let (q, n) = reached_in m e in
              let (no-x, y) = slide_reached (stands_as q) in
              record { open_x = no-x; conclusive = y; states = rw left-state n; walk_is = rw (left-state, n) (walked-is q) };
          unfinished_there = λ e.
              let q = open_in e in
              record { neither = slide_open (stands_as q); spent = rw fired (two.spent q) };
          safe_reason = λ w. two.safe_reason w.0 (safe_at_j w.0 w.1);
          reached_walk = λ m e. let (q, n) = reached_in m e in rw n (two.reached_walk q);
          exactly = λ e. (λ w. (two.exactly (of_ends e)).0 (w.0, safe_at_j w.0 w.1), λ h. safe_of ((two.exactly (of_ends e)).1 h));
        }

    pub run-demand_3 : RunDemand3 t hints budget b r
    run-demand_3 =
        record {
          ends = λ h. ends_of (three.ends h);
          in_bound = rw fired three.in_bound;
          in_budget = rw fired three.in_budget;
          counted = λ c e. rw (fired, took, uses) (three.counted c (of_ends e));
          unfinished_exactly = λ c. (λ e. (three.unfinished_exactly c).0 (open_in e), λ l. in_open ((three.unfinished_exactly c).1 l));
          fewest = λ m e n u w d.
              let (q, k) = reached_in m e in
              rw k (rw (ap length (walked-is q) ∙ walk_length t big o.state) at (three.fewest q n u w d));
        }

-- ---- two runs on one table
module _ (t : Table) (hints hints' b c set set' walk walk' : List ℕ) (l : Lent t hints b set walk) (l' : Lent t hints' c set' walk') (budget budget' : ℕ)
    (b₁ s₁ w₁ c₁ s₂ w₂ : List ℕ) (r r' : Result RunAnswer Refusal)
    (p : RunPromise t hints budget b b₁ set s₁ walk w₁ r) (p' : RunPromise t hints' budget' c c₁ set' s₂ walk' w₂ r') where
  d2 : RunDemand2 t hints budget b b₁ s₁ w₁ r
  d2 = run-demand_2 t hints b set walk l budget b₁ s₁ w₁ r p

  d2' : RunDemand2 t hints' budget' c c₁ s₂ w₂ r'
  d2' = run-demand_2 t hints' c set' walk' l' budget' c₁ s₂ w₂ r' p'

  d3 : RunDemand3 t hints budget b r
  d3 = run-demand_3 t hints b set walk l budget b₁ s₁ w₁ r p

  d3' : RunDemand3 t hints' budget' c r'
  d3' = run-demand_3 t hints' c set' walk' l' budget' c₁ s₂ w₂ r' p'

  pub same_verdict_run : SameVerdict r r'
  same_verdict_run =
      record {
        both_safe = λ s e. (d2'.exactly e).1 ((d2.exactly (inl s)).0 s);
        both_reached = λ m h e. go m h e;
      }
    where
      go : (m : ℕ) → SaysReached r m → Ends r' → SaysReached r' m
      go m h (inl s) = absurd ((d2'.exactly (inl s)).0 s (bad_of m h))
        where
          bad_of : (m : ℕ) → SaysReached r m → BadReached t
          bad_of m h = let a = real_walked t (d2.reached_walk m h) in record { states = _; last = a.0; walked = a.1; bad = a.2 }
      go m h (inr w) =
          let a = real_walked t (d2.reached_walk m h) in
          let a' = real_walked t (d2'.reached_walk w.0 w.1) in
          let le : m ≤ length (take w.0 w₂) = d3.fewest m h _ _ a'.1 a'.2 in
          let ge : w.0 ≤ length (take m w₁) = d3'.fewest w.0 w.1 _ _ a.1 a.2 in
          let q : w.0 ≡ m = omega (arith, length-take-most m w₁, length-take-most w.0 w₂) in
          rw q at w.1
