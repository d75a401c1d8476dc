-- Any two outcomes that a call's promise allows are equal, answer and lent places: a line for each kind of call.
use Prim.Native.Nat.{ℕ}
use mathlib.Core.Bool.{Bool}
use mathlib.Core.List.{List, [], ◌∷◌}
use mathlib.Core.Path.{◌≡◌, sym, ap, subst, ◌∙◌}
use lib.IntN.{ℤ}
use Rattle.answers.specs.Answer.{Answer}
use Rattle.answers.proofs.Unique.{only}
use Rattle.sets.specs.Sets.{Set, count, smallest}
use Rattle.rules.specs.Table.{Table}
use Rattle.runs.specs.Promises.{FreshPromise}
use Rattle.runs.proofs.Unique as runs
use Rattle.edits.specs.Promises.{SecondPromise, EditPromise}
use Rattle.edits.proofs.Unique as edits
use Rattle.moves.specs.Models.{Control}
use Rattle.tables.proofs.Unique as tables
use Rattle.lampferret.specs.Boundary.{number, Gives, answer_words, read_number, read_offset, read_into}
use Rattle.lampferret.specs.Boundary.{SetGiven, SingleGiven, RunGiven, ReadGiven, WriteGiven, ListGiven}

pub count-once : (x : Set) {r r' : ℕ} → r ≡ count 256 x → r' ≡ count 256 x → r ≡ r'
count-once x = only

pub smallest-once : (x : Set) {r r' : ℕ} → r ≡ number (smallest x) → r' ≡ number (smallest x) → r ≡ r'
smallest-once x = only

-- full, f and g, the states with a move to a state, g by the second table
pub set-once : (k : ℕ) (x old : Set) {new new' : Set} {r r' : ℕ} → SetGiven k x old new r → SetGiven k x old new' r' → (r ≡ r') × (new ≡ new')
set-once k x old p q = (only p.answer q.answer, only p.place q.place)

-- the turn, and any other answer in a lent place
pub gives_once : {A : Type 0} (a : Answer A) (old : A) {new new' : A} {r r' : ℕ} → Gives a old new r → Gives a old new' r' → (r ≡ r') × (new ≡ new')
gives_once a old p q = (only p.refusal q.refusal, only p.place q.place)

pub fresh-once : (N : ℕ) (b : List ℕ) {b' b'' : List ℕ} {r r' : ℕ} → FreshPromise N b b' r → FreshPromise N b b'' r' → (r ≡ r') × (b' ≡ b'')
fresh-once N b p q = (only p.answer q.answer, only p.buffer q.buffer)

pub second_once : (N : ℕ) (rows second : List ℕ) {second₁ second₂ : List ℕ} {r₁ r₂ : ℕ} → SecondPromise N rows second second₁ r₁
    → SecondPromise N rows second second₂ r₂ → (r₁ ≡ r₂) × (second₁ ≡ second₂)
second_once = edits.second_numbers

-- a move added or removed
pub edit_once : (N : ℕ) (rows second : List ℕ) (s t : ℕ) (there : Bool) {rows₁ rows₂ second₁ second₂ : List ℕ} {r₁ r₂ : ℕ}
    → EditPromise N rows rows₁ second second₁ s t there r₁ → EditPromise N rows rows₂ second second₂ s t there r₂
    → (r₁ ≡ r₂) × (rows₁ ≡ rows₂) × (second₁ ≡ second₂)
edit_once = edits.edit_numbers

pub single-once :
    (t : Table) (z : Set) (b : List ℕ) (old : ℕ) {b' b'' : List ℕ} {new new' r r' : ℕ} → SingleGiven t z b b' old new r
    → SingleGiven t z b b'' old new' r' → (r ≡ r') × (b' ≡ b'') × (new ≡ new')
single-once t z b old p q = let a = gives_once _ old p.answer q.answer in (a.0, only p.buffer q.buffer, a.1)

pub run-once :
    (t : Table) (hints : List ℕ) (budget : ℕ) (b set walk old : List ℕ) {b₁ b₂ s₁ s₂ w₁ w₂ new new' : List ℕ} {r r' : ℕ}
    → RunGiven t hints budget b b₁ set s₁ walk w₁ old new r → RunGiven t hints budget b b₂ set s₂ walk w₂ old new' r'
    → (r ≡ r') × (b₁ ≡ b₂) × (s₁ ≡ s₂) × (w₁ ≡ w₂) × (new ≡ new')
run-once t hints budget b set walk old {new' = new'} {r' = r'} p q =
    let o = runs.run-once t hints budget b set walk p.promised q.promised in
    let a = gives_once _ old p.answer (subst (λ x. Gives (answer_words x) old new' r') (sym o.0) q.answer) in
    (a.0, o.1, o.2, o.3, a.1)

module _ (file rows : List ℕ) (angles : List ℤ) (modes starts safe counts : List ℕ) {rows₁ rows₂ : List ℕ} {angles₁ angles₂ : List ℤ}
    {modes₁ modes₂ starts₁ starts₂ safe₁ safe₂ counts₁ counts₂ : List ℕ} {offset₁ offset₂ r₁ r₂ : ℕ}
    (p : ReadGiven file rows rows₁ angles angles₁ modes modes₁ starts starts₁ safe safe₁ counts counts₁ offset₁ r₁)
    (q : ReadGiven file rows rows₂ angles angles₂ modes modes₂ starts starts₂ safe safe₂ counts counts₂ offset₂ r₂) where
  pub read-once : (r₁ ≡ r₂) × (rows₁ ≡ rows₂) × (angles₁ ≡ angles₂) × (modes₁ ≡ modes₂) × (starts₁ ≡ starts₂) × (safe₁ ≡ safe₂) × (counts₁ ≡ counts₂)
      × (offset₁ ≡ offset₂)
  read-once =
      let o = tables.read-once file rows angles modes p.promised q.promised in
      let a : p.reading ≡ q.reading = o.0 in (
        p.answer ∙ ap read_number a ∙ sym q.answer,
        o.1,
        o.2,
        o.3,
        p.starts_are ∙ ap (λ x. read_into (λ l. l.model.starts.words) x starts) a ∙ sym q.starts_are,
        p.safe_are ∙ ap (λ x. read_into (λ l. l.model.safe.words) x safe) a ∙ sym q.safe_are,
        p.counts_are ∙ ap (λ x. read_into (λ l. l.model.size ∷ l.moves ∷ []) x counts) a ∙ sym q.counts_are,
        p.offset_is ∙ ap read_offset a ∙ sym q.offset_is,
      )

pub write_once :
    (c : Control) (out : List ℕ) (old : ℕ) {out₁ out₂ : List ℕ} {new new' r r' : ℕ} → WriteGiven c out out₁ old new r → WriteGiven c out out₂ old new' r'
    → (r ≡ r') × (out₁ ≡ out₂) × (new ≡ new')
write_once c out old p q = let a = gives_once _ old p.answer q.answer in (a.0, only p.output q.output, a.1)

-- the listing of a file
pub list-once :
    (wanted : Answer (List ℕ)) (out : List ℕ) (old : ℕ) {out₁ out₂ : List ℕ} {new new' r r' : ℕ} → ListGiven wanted out out₁ old new r
    → ListGiven wanted out out₂ old new' r' → (r ≡ r') × (out₁ ≡ out₂) × (new ≡ new')
list-once wanted out old p q = let a = gives_once _ old p.answer q.answer in (a.0, only p.output q.output, a.1)
