-- A call that answers a set: its Err, and its Ok.
use Prim.Native.Nat.{ℕ}
use mathlib.Core.Path.{◌≡◌}
use Rattle.std.specs.Prelude.{Ok, Err}
use Rattle.answers.specs.Said.{number_of}
use Rattle.answers.specs.declared.Refusal.{Refusal}
use Rattle.answers.proofs.Said.{err_said, ok_said}
use Rattle.sets.specs.Said.{Answers}
use Rattle.sets.specs.Sets.{Set}
use Rattle.sets.specs.declared.StateSet.{StateSet}

module _ (no : ℕ) (set : Set) where
  pub answers_err : (r : Refusal) → number_of r ≡ no → Answers no set (Err r)
  answers_err r e = record { answer = err_said set no r e }

  pub answers_ok : (x : StateSet) → 0 ≡ no → x.words ≡ set → Answers no set (Ok x)
  answers_ok x e q = record { answer = ok_said set no x.words e q }
