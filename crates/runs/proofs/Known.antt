-- The demands from what a caller knows: an answer that is no refusal shows that all was lent as it must be.
use Prim.Native.Nat.{ℕ, zero, suc, ◌≤◌}
use native.Mathlib.Omega.{arith}
use mathlib.Core.Bool.{true}
use mathlib.Core.List.{List}
use mathlib.Core.Path.{◌≡◌, refl, sym}
use borrow.Author.Tests.{eq-eqb}
use lib.ListN.{length}
use Rattle.std.specs.Prelude.{Result}
use Rattle.answers.proofs.Order.{none_failing}
use Rattle.answers.specs.declared.Refusal.{Refusal}
use Rattle.entries.proofs.Entered.{entered}
use Rattle.entries.specs.Refusal.{entry_refusal}
use Rattle.rules.proofs.Buffer.{encode-length}
use Rattle.rules.proofs.Demands.{fresh-inv}
use Rattle.rules.proofs.Normal.{fresh-normal}
use Rattle.rules.specs.Buffer.{encode}
use Rattle.rules.specs.Rules.{fresh}
use Rattle.rules.specs.Runs.{Ran}
use Rattle.rules.specs.Table.{Table, sound_table}
use Rattle.runs.proofs.Demands.{encode-words, run-demand_2, run-demand_3}
use Rattle.runs.proofs.Split.{fresh-enters}
use Rattle.runs.specs.Demands.{Lent, Known, RunDemand2, RunDemand3}
use Rattle.runs.specs.Promises.{lengths_ok, run_refusal, run_answer, fresh_refusal, FreshPromise, RunPromise, Answered}
use Rattle.runs.specs.declared.RunAnswer.{RunAnswer}
use Rattle.sets.proofs.Range.{range_says}
use Rattle.sets.proofs.Tests.{passed}
use Rattle.sets.specs.Sets.{Proper, in_range, Words}

module _ (t : Table) (hints b set walk : List ℕ) where
  -- no refusal: each test passed
  pub lent_by : Words b → Words hints → Proper 256 t.starts → Proper 256 t.safe → run_refusal t hints b set walk ≡ 0 → Lent t hints b set walk
  unfolding run_refusal entry_refusal
  lent_by words hint_words is ps e =
      let (lengths, rest) = none_failing _ _ _ (λ q. omega arith) e in
      let h = entered t b rest in
      record {
        starts = is;
        safe = ps;
        range = h.range;
        rows = h.rows;
        sound = h.sound;
        long = h.long;
        words = words;
        entry = h.entry;
        hint_words = hint_words;
        lengths = lengths;
      }

  -- a fresh run buffer of a sound table is lent as it must be, with any hints
  pub fresh-lent : (b₀ : List ℕ) → FreshPromise t.size b₀ b 0 → in_range t.size ≡ true → length t.rows ≡ 1024 → sound_table t ≡ true
      → Proper 256 t.starts → Proper 256 t.safe → Words hints → lengths_ok hints set walk ≡ true → Lent t hints b set walk
  fresh-lent b₀ p range rows sound is ps hint_words lengths =
      let big : t.size ≤ 256 = (passed (range_says t.size) range).1 in
      let e : b ≡ encode (fresh t) = rw (eq-eqb (fresh_refusal t.size b₀) 0 (sym p.answer)) at p.buffer in
      record {
        starts = is;
        safe = ps;
        range = range;
        rows = rows;
        sound = sound;
        long = rw e (encode-length (fresh t));
        words = rw e (encode-words t big (fresh t) (fresh-inv t big) (fresh-normal t big));
        entry = fresh-enters t big b₀ b p;
        hint_words = hint_words;
        lengths = lengths;
      }

  -- an answer that is no refusal comes of no refusal
  module _ (budget : ℕ) (b' set' walk' : List ℕ) (r : Result RunAnswer Refusal)
      (p : RunPromise t hints budget b b' set set' walk walk' r) (k : Known t hints b r) where
    none_refused : run_refusal t hints b set walk ≡ 0
    unfolding run_answer
    none_refused = go (run_refusal t hints b set walk) refl p
      where
        go : (n : ℕ) → run_refusal t hints b set walk ≡ n → {o : Ran} → Answered t n o b b' set set' walk walk' r → run_refusal t hints b set walk ≡ 0
        go zero e a = e
        go (suc n) e a = absurd (k.not_refused (suc n, a.outcome))

    pub known_lent : Lent t hints b set walk
    known_lent = lent_by k.words k.hint_words k.starts k.safe none_refused

    pub known_demand_2 : RunDemand2 t hints budget b b' set' walk' r
    known_demand_2 = run-demand_2 t hints b set walk known_lent budget b' set' walk' r p

    pub known_demand_3 : RunDemand3 t hints budget b r
    known_demand_3 = run-demand_3 t hints b set walk known_lent budget b' set' walk' r p
