-- Bytes appended one after another are appended together.
use Prim.Native.Nat.{ℕ, suc, ◌+◌, ◌≤◌, ◌<◌, ◌^◌, min}
use native.Mathlib.Numerals.{add-one}
use native.Mathlib.Omega.{arith}
use mathlib.Core.Logic.{inl, inr}
use mathlib.Core.Path.{◌≡◌, refl, sym, ◌∙◌}
use mathlib.Core.List.{List, [], ◌∷◌, ◌++◌}
use lib.ListN.{length, set, get_or, take, length-append}
use lib.Seq.{sets, length-sets, take-suc, take_all}
use Rattle.std.proofs.lemmas.Bool.{cases_lt}
use Rattle.sets.proofs.Words.{sets_past}
use Rattle.outputs.specs.Appends.{last_place, Fits, Appends}
use Rattle.outputs.specs.declared.Output.{Output}

sets_append : (xs ys l : List ℕ) (i : ℕ) → sets l i (xs ++ ys) ≡ sets (sets l i xs) (i + length xs) ys
sets_append [] ys l i = let e : i + 0 ≡ i = omega arith in rw e
sets_append (x ∷ xs) ys l i = let e : i + suc (length xs) ≡ suc i + length xs = omega arith in rw e (sets_append xs ys (set l i x) (suc i))

-- from the last place on nothing is written, so there it does not matter where counting stopped
sets_last : (ys l : List ℕ) (i : ℕ) → length l ≤ last_place → sets l (min i last_place) ys ≡ sets l i ys
sets_last ys l i h = elim (cases_lt i last_place) [
  | inl w ↦ let e : min i last_place ≡ i = omega arith in rw e
  | inr w ↦ sets_past ys l (min i last_place) (omega arith) ∙ sym (sets_past ys l i (omega arith))
]

-- an output stays one that fits
fits-on : {o o' : Output} {xs : List ℕ} → Appends o xs o' → Fits o → Fits o'
fits-on {o} {o'} {xs} p h = record { output = rw (p.output h, length-sets o.out.now o.at xs) h.output; place = omega (arith, p.place h) }

-- o is an output of `out` from place 0 on
pub record Fresh (out : List ℕ) (o : Output) : Type 0 where
  pub output : o.out.now ≡ out
  pub place : o.at ≡ 0

pub fresh_fits : {out : List ℕ} {o : Output} → length out < 2 ^ 64 → Fresh out o → Fits o
fresh_fits h f = record { output = rw f.output (omega arith); place = omega (arith, f.place) }

-- nothing is appended
pub appends_none : (o : Output) → Appends o [] o
appends_none o = record { same_reference = refl; output = λ h. refl; place = λ h. omega (arith, h.place) }

-- what is appended next
pub appends_then : {o o' o'' : Output} {xs ys : List ℕ} → Appends o xs o' → Appends o' ys o'' → Appends o (xs ++ ys) o''
appends_then {o} {o'} {o''} {xs} {ys} p q = record {
  same_reference = q.same_reference ∙ p.same_reference;
  output = λ h.
      let short : length (sets o.out.now o.at xs) ≤ last_place = rw (length-sets o.out.now o.at xs) h.output in
      q.output (fits-on p h)
      ∙ rw (p.output h, p.place h) (sets_last ys (sets o.out.now o.at xs) (o.at + length xs) short)
      ∙ sym (sets_append xs ys o.out.now o.at);
  place = λ h. omega (arith, length-append xs ys, p.place h, q.place (fits-on p h));
}

-- ---- the turns of `text`: one byte of it more, and all of them
pub take_more : (t : List ℕ) (i : ℕ) → i < length t → take (i + 1) t ≡ take i t ++ (get_or t i 0 ∷ [])
take_more t i h = rw (add-one, take-suc t i 0 h)

pub take_whole : (t : List ℕ) (i : ℕ) → length t ≤ i → take i t ≡ t
take_whole t i h = take_all i t h
