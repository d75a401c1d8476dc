-- Any two outcomes that a public call's promise allows are equal.
use Prim.Native.Nat.{ℕ}
use mathlib.Core.Path.{◌≡◌}
use mathlib.Core.List.{List}
use Rattle.std.specs.Prelude.{Result}
use Rattle.answers.specs.Answer.{given}
use Rattle.answers.specs.declared.Refusal.{Refusal}
use Rattle.listings.specs.Said.{Lists}
use Rattle.listings.proofs.Unique.{lists-once}
use Rattle.checks.specs.Check.{check_listing}

pub check-once :
    (file out : List ℕ) {a b : Result ℕ Refusal} {l m : List ℕ} → Lists (given (check_listing file)) out a l → Lists (given (check_listing file)) out b m
    → (a ≡ b) × (l ≡ m)
check-once file = lists-once (given (check_listing file))
