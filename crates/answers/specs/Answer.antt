-- What a call of document 01 answers: a refusal with its number, or a value.
use Rattle.std.specs.Prelude.{ℕ, zero, suc}

pub data Answer (A : Type 0) : Type 0 where
  refused : ℕ → Answer A
  given : A → Answer A

-- a value, unless there is a refusal, 0 for none
unfoldable pub unless_refused : {A : Type 0} → ℕ → A → Answer A
unless_refused zero a = given a
unless_refused (suc n) a = refused (suc n)
