-- Any two outcomes that a public call's promise allows are equal: a line for each call.
use Prim.Native.Nat.{ℕ}
use mathlib.Core.Bool.{Bool}
use mathlib.Core.List.{List}
use mathlib.Core.Path.{◌≡◌}
use Rattle.std.specs.Prelude.{Result}
use Rattle.answers.proofs.Said.{refusal_once}
use Rattle.answers.proofs.Unique.{only}
use Rattle.answers.specs.Said.{refusal_of}
use Rattle.answers.specs.declared.Refusal.{Refusal}
use Rattle.sets.proofs.Unique.{answers_once}
use Rattle.sets.specs.Said.{Answers}
use Rattle.sets.specs.Sets.{Set}
use Rattle.sets.specs.declared.StateSet.{StateSet}
use Rattle.rules.specs.Second.{into}
use Rattle.rules.specs.Table.{backward}
use Rattle.edits.specs.Promises.{into_refusal, g_refusal, SecondPromise, EditPromise}

-- r₁ and r₂ are what the calls for C answer
pub second_numbers : (N : ℕ) (rows second : List ℕ) {second₁ second₂ : List ℕ} {r₁ r₂ : ℕ} → SecondPromise N rows second second₁ r₁
    → SecondPromise N rows second second₂ r₂ → (r₁ ≡ r₂) × (second₁ ≡ second₂)
second_numbers N rows second p q = (only p.answer q.answer, only p.second_is q.second_is)

pub second_once : (N : ℕ) (rows second : List ℕ) {second₁ second₂ : List ℕ} {a b : Result Unit Refusal}
    → SecondPromise N rows second second₁ (refusal_of a) → SecondPromise N rows second second₂ (refusal_of b) → (a ≡ b) × (second₁ ≡ second₂)
second_once N rows second {second₁} {second₂} {a} {b} p q =
    let (numbers, tables) = second_numbers N rows second p q in
    (refusal_once a b numbers, tables)

pub into-once : (N : ℕ) (rows second : List ℕ) (t : ℕ) {a b : Result StateSet Refusal} → Answers (into_refusal N rows second t) (into rows t) a
    → Answers (into_refusal N rows second t) (into rows t) b → a ≡ b
into-once N rows second t = answers_once

pub edit_numbers : (N : ℕ) (rows second : List ℕ) (s t : ℕ) (there : Bool) {rows₁ rows₂ second₁ second₂ : List ℕ} {r₁ r₂ : ℕ}
    → EditPromise N rows rows₁ second second₁ s t there r₁ → EditPromise N rows rows₂ second second₂ s t there r₂
    → (r₁ ≡ r₂) × (rows₁ ≡ rows₂) × (second₁ ≡ second₂)
edit_numbers N rows second s t there p q = (only p.answer q.answer, only p.rows_are q.rows_are, only p.second_is q.second_is)

-- `add` and `remove`
pub edit_once : (N : ℕ) (rows second : List ℕ) (s t : ℕ) (there : Bool) {rows₁ rows₂ second₁ second₂ : List ℕ} {a b : Result Unit Refusal}
    → EditPromise N rows rows₁ second second₁ s t there (refusal_of a) → EditPromise N rows rows₂ second second₂ s t there (refusal_of b)
    → (a ≡ b) × (rows₁ ≡ rows₂) × (second₁ ≡ second₂)
edit_once N rows second s t there {rows₁} {rows₂} {second₁} {second₂} {a} {b} p q =
    let (numbers, first, other) = edit_numbers N rows second s t there p q in
    (refusal_once a b numbers, first, other)

pub g-once : (N : ℕ) (rows second : List ℕ) (x : Set) {a b : Result StateSet Refusal} → Answers (g_refusal N rows second x) (backward N rows x) a
    → Answers (g_refusal N rows second x) (backward N rows x) b → a ≡ b
g-once N rows second x = answers_once
