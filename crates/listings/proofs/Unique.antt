-- Any two outcomes that a public call's promise allows are equal: a line for each call.
use Prim.Native.Nat.{ℕ}
use mathlib.Core.Path.{◌≡◌}
use mathlib.Core.List.{List}
use Rattle.std.specs.Prelude.{Result}
use Rattle.answers.specs.Answer.{Answer, given}
use Rattle.answers.proofs.Said.{said_once}
use Rattle.answers.proofs.Unique.{only}
use Rattle.sets.specs.Sets.{Set}
use Rattle.rules.specs.Table.{Table}
use Rattle.moves.specs.Models.{Control}
use Rattle.answers.specs.declared.Refusal.{Refusal}
use Rattle.listings.specs.Listing.{refused_listing, safe_listing, reached_wanted}
use Rattle.listings.specs.Said.{Lists}

-- the answer and the output of any call that lists
pub lists-once :
    (wanted : Answer (List ℕ)) (out : List ℕ) {a b : Result ℕ Refusal} {l m : List ℕ} → Lists wanted out a l → Lists wanted out b m
    → (a ≡ b) × (l ≡ m)
lists-once wanted out {a} {b} p q = (said_once a b (only p.answer q.answer), only p.output q.output)

pub refused-once :
    (number offset : ℕ) (out : List ℕ) {a b : Result ℕ Refusal} {l m : List ℕ} → Lists (given (refused_listing number offset)) out a l
    → Lists (given (refused_listing number offset)) out b m → (a ≡ b) × (l ≡ m)
refused-once number offset = lists-once (given (refused_listing number offset))

pub safe-once :
    (t : Table) (j rules : ℕ) (x : Set) (out : List ℕ) {a b : Result ℕ Refusal} {l m : List ℕ} → Lists (given (safe_listing t j rules x)) out a l
    → Lists (given (safe_listing t j rules x)) out b m → (a ≡ b) × (l ≡ m)
safe-once t j rules x = lists-once (given (safe_listing t j rules x))

pub reached-once :
    (c : Control) (rules : ℕ) (walk : List ℕ) (states : ℕ) (out : List ℕ) {a b : Result ℕ Refusal} {l m : List ℕ}
    → Lists (reached_wanted c rules walk states) out a l → Lists (reached_wanted c rules walk states) out b m → (a ≡ b) × (l ≡ m)
reached-once c rules walk states = lists-once (reached_wanted c rules walk states)
