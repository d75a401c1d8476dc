-- What `run` answers from a fresh run buffer on a table that was read is listed as the definition says.
use Prim.Native.Nat.{ℕ, ◌-◌, ◌≤◌}
use native.Mathlib.Omega.{arith}
use mathlib.Core.Bool.{cond}
use mathlib.Core.List.{List, []}
use mathlib.Core.Path.{◌≡◌, refl, sym, ap, ◌∙◌}
use borrow.Author.Tests.{eq-eqb, le-leb}
use lib.ListN.{length}
use lib.Seq.{sets, length-sets}
use Rattle.std.specs.Prelude.{Result, Ok, Err}
use Rattle.answers.specs.Answer.{Answer, given, unless_refused}
use Rattle.answers.specs.Refusals.{first_failing}
use Rattle.answers.specs.Said.{number_of}
use Rattle.answers.specs.declared.Refusal.{Refusal}
use Rattle.rules.proofs.Buffer.{encode-length}
use Rattle.rules.proofs.Demands.{fresh-inv}
use Rattle.rules.proofs.Held.{held_back, kept-accepts}
use Rattle.rules.proofs.Meaning.{walk_length}
use Rattle.rules.proofs.Normal.{fresh-normal}
use Rattle.rules.specs.Buffer.{encode, decode}
use Rattle.rules.specs.Demands.{bound, Ended, ended_safe, ended_reached}
use Rattle.rules.specs.Rules.{fresh, Standing, reached}
use Rattle.rules.specs.Runs as rules
use Rattle.rules.specs.Runs.{run}
use Rattle.rules.specs.ShownWalk.{shown_walk}
use Rattle.rules.specs.Table.{Table}
use Rattle.runs.specs.Hints.{hints_from, hints_at}
use Rattle.runs.specs.Promises.{fresh_refusal, FreshPromise, run_refusal, lengths_ok, run_answer, ran, set_after, walk_after, Answered, RunPromise}
use Rattle.runs.specs.Said as spoken
use Rattle.runs.specs.Said.{safe_with, reached_with, as_outcome, said, rules_of}
use Rattle.runs.specs.declared.Outcome.{Outcome}
use Rattle.runs.specs.declared.Outcome.TheVariants.{Safe, Reached, Unfinished}
use Rattle.runs.specs.declared.RunAnswer.{RunAnswer}
use Rattle.sets.proofs.Range.{range_says}
use Rattle.sets.proofs.Tests.{passed}
use Rattle.sets.proofs.Words.{four_of, take-sets}
use Rattle.sets.specs.Sets.{Set, quad}
use Rattle.moves.specs.Models.{Control}
use Rattle.listings.specs.Listing.{refused_listing, safe_listing, reached_listing, reached_refusal, reached_wanted}
use Rattle.listings.specs.Said.{Lists}
use Rattle.checks.specs.Check.{searched, verdict_listing, table_listing}
use Rattle.checks.specs.Inner.{Sought, ended_wanted, answer_wanted}
use Rattle.checks.proofs.Ends.{searched-ends, few_states}

-- ---- what an outcome says names it
says_safe : (o : Outcome) (j : ℕ) → ◌≡◌ {A = Answer spoken.Outcome} (given (as_outcome o)) (given (safe_with j)) → o ≡ Safe j
says_safe (Safe i) j e = cc
says_safe (Reached m) j e = cc
says_safe Unfinished j e = cc

says_reached : (o : Outcome) (m : ℕ) → ◌≡◌ {A = Answer spoken.Outcome} (given (as_outcome o)) (given (reached_with m)) → o ≡ Reached m
says_reached (Safe i) m e = cc
says_reached (Reached k) m e = cc
says_reached Unfinished m e = cc

-- ---- what each answer of a run lists
module _ (c : Control) (set : Set) (walk out out' : List ℕ) (l : Result ℕ Refusal) (r : Result RunAnswer Refusal) where
  module _ (a : RunAnswer) (is : r ≡ Ok a) where
    pub safe_lists : (j : ℕ) → a.outcome ≡ Safe j → Lists (given (safe_listing c.table j a.rules set)) out l out'
        → Lists (answer_wanted c r set walk) out l out'
    unfolding answer_wanted ended_wanted
    safe_lists j e p = rw (is, e) p

    pub reached_lists : (m : ℕ) → a.outcome ≡ Reached m → Lists (reached_wanted c a.rules walk m) out l out'
        → Lists (answer_wanted c r set walk) out l out'
    unfolding answer_wanted ended_wanted
    reached_lists m e p = rw (is, e) p

    pub unfinished_lists : a.outcome ≡ Unfinished → Lists (given (refused_listing 0 0)) out l out' → Lists (answer_wanted c r set walk) out l out'
    unfolding answer_wanted ended_wanted
    unfinished_lists e p = rw (is, e) p

  pub refused_lists : (f : Refusal) (n : ℕ) → r ≡ Err f → n ≡ number_of f → Lists (given (refused_listing n 0)) out l out'
      → Lists (answer_wanted c r set walk) out l out'
  unfolding answer_wanted
  refused_lists f n e q p = rw e (rw q at p)

-- ---- the run of the definition
-- four words stand at place 0 of themselves
quad-all : (x : List ℕ) → length x ≡ 4 → quad x 0 ≡ x
unfolding quad
quad-all x e = sym (four_of x e)

no_hints : hints_at [] 0 ≡ []
unfolding hints_from
no_hints = refl

module _ (c : Control) (g : Sought c) where
  abbrev t : Table
  t = c.table

  abbrev o : rules.Ran
  o = searched t

  abbrev walked : List ℕ
  walked = shown_walk t o.state

  big : t.size ≤ 256
  big = (passed (range_says t.size) g.range).1

  -- a fresh run buffer of the right length holds a fresh run
  fresh-held : {b b' : List ℕ} {r : ℕ} → FreshPromise t.size b b' r → length b ≡ 2066 → b' ≡ encode (fresh t)
  unfolding fresh_refusal first_failing
  fresh-held {b} p long = p.buffer ∙ rw (eq-eqb (length b) 2066 long, g.range)

  -- a run from it is not refused
  not_refused : (set walk : List ℕ) → length set ≡ 4 → length walk ≡ 256 → run_refusal t [] (encode (fresh t)) set walk ≡ 0
  unfolding run_refusal lengths_ok first_failing
  not_refused set walk four long =
      let buffer = eq-eqb (length (encode (fresh t))) 2066 (encode-length (fresh t)) in
      let entry = kept-accepts t big (fresh t) (fresh-inv t big) (fresh-normal t big) in
      rw (eq-eqb (length set) 4 four, eq-eqb (length walk) 256 long, buffer, eq-eqb (length t.rows) 1024 g.rows, g.range, g.sound, entry)

  -- and is the run of the definition
  same_run : {budget : ℕ} → budget ≡ bound t.size → run t budget (hints_at [] 0) (decode (encode (fresh t))) ≡ o
  same_run e = rw (e, no_hints, held_back t big (fresh t) (fresh-inv t big) (fresh-normal t big))

  -- ---- its listing
  -- the walk stands at the front of the numbers lent for it
  shown-walk : (walk walk' : List ℕ) (m : ℕ) → length walk ≡ 256 → o.standing ≡ reached → walk' ≡ sets walk 0 walked
      → m ≡ o.state.n - 1 → reached_wanted c o.rules walk' m ≡ given (reached_listing c o.rules walked)
  unfolding reached_wanted reached_refusal first_failing unless_refused
  shown-walk walk walk' m long e w q =
      let few = few_states t big e in
      let n : m ≡ length walked = q ∙ sym (walk_length t big o.state) in
      let d : length walk' ≡ 256 = ap length w ∙ length-sets walk 0 walked ∙ long in
      let front = take-sets walked walk (omega (arith, walk_length t big o.state)) in
      rw (eq-eqb (length walk') 256 d, eq-eqb (length c.angles) 256 g.angles, eq-eqb (length c.modes) 256 g.modes)
      (rw (le-leb m 256 (omega arith), n, w, front))

  module _ (set set' walk walk' : List ℕ) (four : length set' ≡ 4) (long : length walk ≡ 256) where
    -- what is wanted for an answer of the run is its verdict's listing
    wanted_by : (r : Result RunAnswer Refusal) (x : Standing) → o.standing ≡ x → Ended x → said r ≡ run_answer 0 x o.state
        → rules_of r ≡ cond (ran 0 x) o.rules 0 → set' ≡ set_after 0 x o.state set → walk' ≡ walk_after t 0 x o.state walk
        → answer_wanted c r (quad set' 0) walk' ≡ given (verdict_listing c o x)
    unfolding answer_wanted ended_wanted verdict_listing run_answer ran set_after walk_after
    wanted_by (Ok a) x e (ended_safe j) says k s w = rw (says_safe a.outcome j says, k, quad-all set' four, s)
    wanted_by (Ok a) x e ended_reached says k s w = rw (says_reached a.outcome _ says, k) (shown-walk walk walk' _ long e w refl)
    wanted_by (Err f) x e (ended_safe j) says k s w = cc
    wanted_by (Err f) x e ended_reached says k s w = cc

    wanted_is : {b b' : List ℕ} (r : Result RunAnswer Refusal) → Answered t 0 o b b' set set' walk walk' r
        → answer_wanted c r (quad set' 0) walk' ≡ given (table_listing c)
    unfolding table_listing
    wanted_is r p = wanted_by r o.standing refl (searched-ends t big) p.outcome p.rules p.set_is p.walk_is

-- so a table's listing is that of what `run` answers from a fresh run buffer: b is the buffer, b₁ fresh, b₂ after the run
pub searched-lists :
    {c : Control} {b b₁ b₂ set set' walk walk' out out' : List ℕ} {x : Set} {number budget : ℕ} {r : Result RunAnswer Refusal}
    {l : Result ℕ Refusal} → Sought c
    → FreshPromise c.table.size b b₁ number → budget ≡ bound c.table.size
    → RunPromise c.table [] budget b₁ b₂ set set' walk walk' r → x ≡ quad set' 0
    → Lists (answer_wanted c r x walk') out l out'
    → length b ≡ 2066 → length set ≡ 4 → length set' ≡ 4 → length walk ≡ 256 → Lists (given (table_listing c)) out l out'
searched-lists {c} {b} {b₁} {b₂} {set} {set'} {walk} {walk'} {x = x} {budget = budget} {r = r} g f e p read w buffer four four' long =
    let fresh-run : b₁ ≡ encode (fresh c.table) = fresh-held c g f buffer in
    let taken : run_refusal c.table [] b₁ set walk ≡ 0 = rw fresh-run (not_refused c g set walk four long) in
    let same : run c.table budget (hints_at [] 0) (decode b₁) ≡ searched c.table = rw fresh-run (same_run c g e) in
    let answered : Answered c.table 0 (searched c.table) b₁ b₂ set set' walk walk' r = rw (taken, same) at p in
    rw (read, wanted_is c g set set' walk walk' four' long r answered) at w
