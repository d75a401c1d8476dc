-- Any two outcomes that a public call's promise allows are equal: a line for each call.
use Prim.Native.Nat.{ℕ}
use mathlib.Core.Bool.{Bool}
use mathlib.Core.List.{List}
use mathlib.Core.Path.{◌≡◌}
use Rattle.std.specs.Prelude.{Result}
use Rattle.answers.specs.declared.Refusal.{Refusal}
use Rattle.answers.proofs.Unique.{only}
use Rattle.moves.specs.Said.{move_refusal}
use Rattle.moves.specs.Wide.{forward256, backward256}
use Rattle.rules.specs.Table.{Table, sound_table, sound_rows, move_count, with_move, forward, backward}
use Rattle.sets.specs.Sets.{Set}
use Rattle.sets.specs.declared.StateSet.{StateSet}
use Rattle.sets.proofs.Unique.{only_set, answers_once}
use Rattle.sets.specs.Said.{Answers}

pub sound-rows_once : (N : ℕ) (rows : List ℕ) {a b : Bool} → a ≡ sound_rows N rows → b ≡ sound_rows N rows → a ≡ b
sound-rows_once N rows = only

pub sound-table-once : (t : Table) {a b : Bool} → a ≡ sound_table t → b ≡ sound_table t → a ≡ b
sound-table-once t = only

pub count-once : (rows : List ℕ) {a b : ℕ} → a ≡ move_count rows → b ≡ move_count rows → a ≡ b
count-once rows = only

pub set-move-once : (rows : List ℕ) (s u : ℕ) (there : Bool) {a b : List ℕ} → a ≡ with_move rows s u there → b ≡ with_move rows s u there → a ≡ b
set-move-once rows s u there = only

pub forward-once : (N : ℕ) (rows : List ℕ) (x : Set) {a b : StateSet} → a.words ≡ forward256 N rows x → b.words ≡ forward256 N rows x → a ≡ b
forward-once N rows x = only_set

pub backward-once : (N : ℕ) (rows : List ℕ) (x : Set) {a b : StateSet} → a.words ≡ backward256 N rows x → b.words ≡ backward256 N rows x → a ≡ b
backward-once N rows x = only_set

pub f-once : (N : ℕ) (rows : List ℕ) (x : Set) {a b : Result StateSet Refusal} → Answers (move_refusal N rows x) (forward N rows x) a
    → Answers (move_refusal N rows x) (forward N rows x) b → a ≡ b
f-once N rows x = answers_once

pub g-once : (N : ℕ) (rows : List ℕ) (x : Set) {a b : Result StateSet Refusal} → Answers (move_refusal N rows x) (backward N rows x) a
    → Answers (move_refusal N rows x) (backward N rows x) b → a ≡ b
g-once N rows x = answers_once
