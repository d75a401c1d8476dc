-- Any two outcomes that a public call's promise allows are equal: a line for each call. An output fits where it and its place are what
-- a machine can hold, as every output is.
use Prim.Native.Nat.{ℕ}
use mathlib.Core.Path.{◌≡◌, sym, ◌∙◌}
use mathlib.Core.List.{List, [], ◌∷◌}
use Rattle.std.specs.Borrow.{MutBor}
use Rattle.outputs.specs.Appends.{Fits, Appends}
use Rattle.outputs.specs.declared.Output.{Output}

only : {A : Type 0} {a b c : A} → a ≡ c → b ≡ c → a ≡ b
only p q = p ∙ sym q

-- two outputs are of the same lent bytes, which hold the same, and are at the same place
pub record Same (a b : Output) : Type 0 where
  pub same_reference : a.out.ghost_name ≡ b.out.ghost_name
  pub output : a.out.now ≡ b.out.now
  pub place : a.at ≡ b.at

pub new-once : (out : MutBor (List ℕ)) {a b : Output} → a.out.ghost_name ≡ out.ghost_name → a.out.now ≡ out.now → a.at ≡ 0
    → b.out.ghost_name ≡ out.ghost_name → b.out.now ≡ out.now → b.at ≡ 0 → Same a b
new-once out n l p n' l' p' = record { same_reference = only n n'; output = only l l'; place = only p p' }

pub place-once : (o : Output) {a b : ℕ} → a ≡ o.at → b ≡ o.at → a ≡ b
place-once o = only

pub text-once : {o : Output} (bytes : List ℕ) → Fits o → {a b : Output} → Appends o bytes a → Appends o bytes b → Same a b
text-once bytes f p q = record {
  same_reference = only p.same_reference q.same_reference;
  output = only (p.output f) (q.output f);
  place = only (p.place f) (q.place f);
}

pub byte-once : {o : Output} (v : ℕ) → Fits o → {a b : Output} → Appends o (v ∷ []) a → Appends o (v ∷ []) b → Same a b
byte-once v = text-once (v ∷ [])
