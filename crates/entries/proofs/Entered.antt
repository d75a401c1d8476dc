-- What a run may rely on after an Ok, which is a refusal of 0.
use Prim.Native.Nat.{ℕ, ◌≤◌}
use native.Mathlib.Omega.{arith}
use mathlib.Core.Bool.{true}
use mathlib.Core.List.{List}
use mathlib.Core.Path.{◌≡◌}
use lib.ListN.{length}
use Rattle.answers.proofs.Order.{none_failing}
use Rattle.answers.proofs.Said.{refusal_once as one_answer}
use Rattle.answers.proofs.Unique.{only}
use Rattle.answers.specs.Said.{refusal_of}
use Rattle.answers.specs.declared.Refusal.{Refusal}
use Rattle.std.specs.Prelude.{Result}
use Rattle.entries.specs.Refusal.{entry_refusal}
use Rattle.rules.proofs.Held.{fit_by}
use Rattle.rules.proofs.Ready.{Ready, good_by, ready_by}
use Rattle.rules.specs.Buffer.{entry_check}
use Rattle.rules.specs.Table.{Table, sound_table}
use Rattle.sets.proofs.Range.{range_says}
use Rattle.sets.proofs.Tests.{passed, eqb-says}
use Rattle.sets.specs.Sets.{Proper, in_range, Words}

-- what was tested
pub record Entered (t : Table) (b : List ℕ) : Type 0 where
  pub long : length b ≡ 2066
  pub rows : length t.rows ≡ 1024
  pub range : in_range t.size ≡ true
  pub big : t.size ≤ 256
  pub sound : sound_table t ≡ true
  pub entry : entry_check t b ≡ true

pub entered : (t : Table) (b : List ℕ) → entry_refusal t b ≡ 0 → Entered t b
unfolding entry_refusal
entered t b e =
    let (long, e₁) = none_failing _ _ _ (λ q. omega arith) e in
    let (rows, e₂) = none_failing _ _ _ (λ q. omega arith) e₁ in
    let (range, e₃) = none_failing _ _ _ (λ q. omega arith) e₂ in
    let (sound, e₄) = none_failing _ _ _ (λ q. omega arith) e₃ in
    let (entry, _) = none_failing _ _ _ (λ q. omega arith) e₄ in
    record {
      long = passed (eqb-says _ _) long;
      rows = passed (eqb-says _ _) rows;
      range = range;
      big = (passed (range_says t.size) range).1;
      sound = sound;
      entry = entry;
    }

-- the buffer and the two sets are words, as what code is lent always is
pub enters : (t : Table) (b : List ℕ) → Words b → Proper 256 t.starts → Proper 256 t.safe → entry_refusal t b ≡ 0 → Ready t b
enters t b words starts safe e =
    let h = entered t b e in
    ready_by (good_by t h.big starts safe h.sound) (fit_by t h.big b h.long words h.entry)

-- the answer is the only one
pub refusal_once : (t : Table) (b : List ℕ) (r r' : Result (Unit {0}) Refusal)
    → refusal_of r ≡ entry_refusal t b → refusal_of r' ≡ entry_refusal t b → r ≡ r'
refusal_once t b r r' e e' = one_answer r r' (only e e')
