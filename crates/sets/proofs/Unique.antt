-- Any two outcomes that a public call's promise allows are equal: a line for each call.
use Prim.Native.Nat.{ℕ}
use mathlib.Core.Path.{◌≡◌, refl}
use mathlib.Core.Bool.{Bool}
use mathlib.Core.List.{List}
use lib.Seq.{sets}
use Rattle.std.specs.Prelude.{Option, Result}
use Rattle.answers.proofs.Said.{said_as_once}
use Rattle.answers.proofs.Unique.{only}
use Rattle.answers.specs.declared.Refusal.{Refusal}
use Rattle.sets.specs.Sets.{Set, member, within, sound, meet, join, minus, with, without, full, count, smallest, in_range, size_refusal, quad}
use Rattle.sets.specs.Said.{Answers}
use Rattle.sets.specs.declared.StateSet.{StateSet}

-- a promise of a set's words
pub only_set : {w : Set} {x y : StateSet} → x.words ≡ w → y.words ≡ w → x ≡ y
only_set p q = λ i. record { words = only p q i }

-- a promise of a refusal or a set
pub answers_once : {no : ℕ} {set : Set} {a b : Result StateSet Refusal} → Answers no set a → Answers no set b → a ≡ b
answers_once {no} {set} {a} {b} p q = said_as_once (λ x. x.words) (λ x y e. only_set e refl) a b (only p.answer q.answer)

pub range_once : (N : ℕ) {a b : Bool} → a ≡ in_range N → b ≡ in_range N → a ≡ b
range_once N = only

pub full-once : (n : ℕ) {a b : Result StateSet Refusal} → Answers (size_refusal n) (full n) a → Answers (size_refusal n) (full n) b → a ≡ b
full-once n = answers_once

pub below_once : (n : ℕ) {a b : StateSet} → a.words ≡ full n → b.words ≡ full n → a ≡ b
below_once n = only_set

pub count-once : (x : Set) {a b : ℕ} → a ≡ count 256 x → b ≡ count 256 x → a ≡ b
count-once x = only

pub smallest-once : (x : Set) {a b : Option ℕ} → a ≡ smallest x → b ≡ smallest x → a ≡ b
smallest-once x = only

pub member-once : (x : Set) (s : ℕ) {a b : Bool} → a ≡ member x s → b ≡ member x s → a ≡ b
member-once x s = only

pub within-once : (x y : Set) {a b : Bool} → a ≡ within 256 x y → b ≡ within 256 x y → a ≡ b
within-once x y = only

pub sound-once : (x : Set) (n : ℕ) {a b : Bool} → a ≡ sound n x → b ≡ sound n x → a ≡ b
sound-once x n = only

pub meet-once : (x y : Set) {a b : StateSet} → a.words ≡ meet 256 x y → b.words ≡ meet 256 x y → a ≡ b
meet-once x y = only_set

pub join-once : (x y : Set) {a b : StateSet} → a.words ≡ join 256 x y → b.words ≡ join 256 x y → a ≡ b
join-once x y = only_set

pub minus-once : (x y : Set) {a b : StateSet} → a.words ≡ minus 256 x y → b.words ≡ minus 256 x y → a ≡ b
minus-once x y = only_set

pub with-once : (x : Set) (s : ℕ) {a b : StateSet} → a.words ≡ with 256 x s → b.words ≡ with 256 x s → a ≡ b
with-once x s = only_set

pub without-once : (x : Set) (s : ℕ) {a b : StateSet} → a.words ≡ without 256 x s → b.words ≡ without 256 x s → a ≡ b
without-once x s = only_set

pub read-once : (l : List ℕ) (i : ℕ) {a b : StateSet} → a.words ≡ quad l i → b.words ≡ quad l i → a ≡ b
read-once l i = only_set

pub write_once : (x : Set) (l : List ℕ) (i : ℕ) {a b : List ℕ} → a ≡ sets l i x → b ≡ sets l i x → a ≡ b
write_once x l i = only
