-- Any two outcomes that a public call's promise allows are equal: a line for each call.
use Prim.Native.Nat.{ℕ}
use mathlib.Core.Path.{◌≡◌, ap}
use mathlib.Core.List.{List}
use denote.Ref.{Bor}
use lib.IntN.{ℤ}
use Rattle.std.specs.Prelude.{Result, Ok, Err}
use Rattle.answers.specs.Said.{number_of}
use Rattle.answers.specs.declared.Refusal.{Refusal}
use Rattle.answers.proofs.Said as answer
use Rattle.answers.proofs.Said.{number_once}
use Rattle.answers.proofs.Unique.{only}
use Rattle.sets.specs.Sets.{Set}
use Rattle.moves.specs.Models.{Control}
use Rattle.tables.specs.Format.{section_number}
use Rattle.tables.specs.Said.{said_as, said, section_step, Read, Wrote}
use Rattle.tables.specs.declared.Fault.{Fault}
use Rattle.tables.specs.declared.Reader.{Reader}
use Rattle.tables.specs.declared.Reading.{Reading}
use Rattle.tables.specs.declared.Taken as code

-- no two answers say the same, where the words of a definition determine the value
said_once : {A B : Type 0} (f : A → B) → ((a b : A) → f a ≡ f b → a ≡ b) → (r s : Result A Fault) → said_as f r ≡ said_as f s → r ≡ s
said_once f one (Ok a) (Ok b) e = let q : f a ≡ f b = cc in ap Ok (one a b q)
said_once f one (Ok a) (Err s) e = cc
said_once f one (Err r) (Ok b) e = cc
said_once f one (Err r) (Err s) e =
    let k : number_of r.refusal ≡ number_of s.refusal = cc in
    let at : r.offset ≡ s.offset = cc in
    ap Err (λ i. record { refusal = number_once r.refusal s.refusal k i; offset = at i })

taken_one : (a b : code.Taken) → ◌≡◌ {A = ℕ × ℕ} (a.number, a.next) (b.number, b.next) → a ≡ b
taken_one a b e = λ i. record { number = (e i).0; next = (e i).1 }

reading_one : (a b : Reading) → ◌≡◌ {A = ℕ × Set × Set × ℕ} (a.model.size, a.model.starts.words, a.model.safe.words, a.moves)
    (b.model.size, b.model.starts.words, b.model.safe.words, b.moves) → a ≡ b
reading_one a b e = λ i. record {
  model = record { size = (e i).0; starts = record { words = (e i).1 }; safe = record { words = (e i).2 } };
  moves = (e i).3;
}

-- a reader is its file and its place
pub open_once : {file : Bor (List ℕ)} {at : ℕ} {a b : Reader} → (a.file ≡ file) × (a.at ≡ at) → (b.file ≡ file) × (b.at ≡ at)
    → a ≡ b
open_once p q = λ i. record { file = only p.0 q.0 i; at = only p.1 q.1 i }

pub take-once : (r : Reader) (i N : ℕ) {a b : Result code.Taken Fault} → said a ≡ section_step (section_number i N) r.file.now r.at
    → said b ≡ section_step (section_number i N) r.file.now r.at → a ≡ b
take-once r i N {a} {b} p q = said_once _ taken_one a b (only p q)

pub section-once : (file : List ℕ) (at i N : ℕ) {a b : Result code.Taken Fault} → said a ≡ section_step (section_number i N) file at
    → said b ≡ section_step (section_number i N) file at → a ≡ b
section-once file at i N {a} {b} p q = said_once _ taken_one a b (only p q)

module _ (file rows : List ℕ) (angles : List ℤ) (modes : List ℕ) {a b : Result Reading Fault}
    {rows₁ rows₂ : List ℕ} {angles₁ angles₂ : List ℤ} {modes₁ modes₂ : List ℕ}
    (p : Read file rows angles modes a rows₁ angles₁ modes₁) (q : Read file rows angles modes b rows₂ angles₂ modes₂) where
  pub read-once : (a ≡ b) × (rows₁ ≡ rows₂) × (angles₁ ≡ angles₂) × (modes₁ ≡ modes₂)
  read-once = (
    said_once _ reading_one a b (only p.answer q.answer),
    only p.filled_rows q.filled_rows,
    only p.filled_angles q.filled_angles,
    only p.filled_modes q.filled_modes,
  )

pub write_once : (c : Control) (out : List ℕ) {a b : Result ℕ Refusal} {out₁ out₂ : List ℕ} → Wrote c out a out₁ → Wrote c out b out₂
    → (a ≡ b) × (out₁ ≡ out₂)
write_once c out {a} {b} p q = (answer.said_once a b (only p.answer q.answer), only p.output q.output)
