-- From what the proved calls promise to what the calls for C and Rust promise.
use Prim.Native.Nat.{ℕ, zero, suc}
use mathlib.Core.List.{List}
use mathlib.Core.Path.{◌≡◌, refl, ap, subst}
use Rattle.std.specs.Prelude.{Result, Ok, Err, MatchResult, IsOkAnd}
use Rattle.answers.specs.Answer.{Answer, given, unless_refused}
use Rattle.answers.specs.Said.{said, said_as}
use Rattle.answers.specs.declared.Refusal.{Refusal}
use Rattle.sets.specs.Sets.{Set}
use Rattle.sets.specs.Said.{Answers, said_set}
use Rattle.sets.specs.declared.StateSet.{StateSet}
use Rattle.moves.specs.Models.{Control}
use Rattle.rules.specs.Table.{Table}
use Rattle.runs.specs.Promises.{RunPromise, SinglePromise}
use Rattle.runs.specs.Said.{as_rule, as_outcome, said_one}
use Rattle.runs.specs.declared.Rule.{Rule}
use Rattle.runs.specs.declared.RunAnswer.{RunAnswer}
use Rattle.tables.specs.Said.{Wrote, said_written}
use Rattle.listings.specs.Said.{Lists}
use Rattle.lampferret.specs.Boundary.{in_words, Gives, SetGiven, SingleGiven, RunGiven, WriteGiven, ListGiven, rule_number, outcome_words, answer_words}

-- ---- an answer in other words
-- what is given follows what was said
pub passed : {A : Type 0} {a a' : Answer A} {old new : A} {r : ℕ} → Gives a old new r → a ≡ a' → Gives a' old new r
passed {old = old} {new} {r} g e = subst (λ a. Gives a old new r) e g

-- `map` by a function of the code: P is what that function promises of a value and its words
pub mapped : {A B : Type 0} (h : A → B) (a : Result A Refusal) (r : Result B Refusal) (P : A → B → Type 0) → ((x : A) (y : B) → P x y → y ≡ h x)
    → MatchResult a (λ x. IsOkAnd r (P x)) (λ e. r ≡ Err e) → said r ≡ said_as h a
mapped h (Ok x) (Ok y) P k m = ap given (k x y m)
mapped h (Ok x) (Err e) P k m = absurd m
mapped h (Err e) r P k m = ap said m

-- ---- sets
given_set : (n : ℕ) (set old new : Set) (r : ℕ) → Gives (unless_refused n set) old new r → SetGiven n set old new r
unfolding unless_refused
given_set zero set old new r g = record { answer = g.refusal; place = g.place }
given_set (suc n) set old new r g = record { answer = g.refusal; place = g.place }

pub set_given : {n : ℕ} {set old new : Set} {a : Result StateSet Refusal} {r : ℕ} → Answers n set a → Gives (said_set a) old new r
    → SetGiven n set old new r
set_given p g = given_set _ _ _ _ _ (passed g p.answer)

-- .. of a lent set: x is what the code made of z
pub given-of : {x z old new : Set} {a : Result StateSet Refusal} {r : ℕ} (n : Set → ℕ) (out : Set → Set) → x ≡ z → Answers (n x) (out x) a
    → Gives (said_set a) old new r → SetGiven (n z) (out z) old new r
given-of {old = old} {new} {r = r} n out e p g = subst (λ y. SetGiven (n y) (out y) old new r) e (set_given p g)

-- ---- calls that name a table: t is what the code made of the lent table T
module _ {t T : Table} (e : t ≡ T) where
  pub single-given :
      {x z b b' : List ℕ} {a : Result Rule Refusal} {old new r : ℕ} → x ≡ z → SinglePromise t x b b' a
      → Gives (in_words rule_number (said_one a)) old new r → SingleGiven T z b b' old new r
  single-given {z = z} {b} {b'} {old = old} {new} {r} h p g =
      subst (λ T. SingleGiven T z b b' old new r) e (subst (λ z. SingleGiven t z b b' old new r) h
      (record { answer = passed g (ap (in_words rule_number) p.answer); buffer = p.buffer }))

  pub run-given :
      {hints : List ℕ} {budget : ℕ} {b b' set set' walk walk' : List ℕ} {a : Result RunAnswer Refusal} {old new : List ℕ} {r : ℕ}
      → RunPromise t hints budget b b' set set' walk walk' a → Gives (answer_words a) old new r
      → RunGiven T hints budget b b' set set' walk walk' old new r
  run-given {hints} {budget} {b} {b'} {set} {set'} {walk} {walk'} {a} {old} {new} {r} p g =
      subst (λ t. RunGiven t hints budget b b' set set' walk walk' old new r) e (record { run = a; promised = p; answer = g })

-- a rule's number, and a run's five words, of what was said
pub rule-said : (a : Result Rule Refusal) → said_as (λ r. rule_number (as_rule r)) a ≡ in_words rule_number (said_one a)
rule-said (Ok r) = refl
rule-said (Err e) = refl

pub run-said : (a : Result RunAnswer Refusal) → said_as (λ r. outcome_words (as_outcome r.outcome) r.rules r.taken r.used) a ≡ answer_words a
run-said (Ok r) = refl
run-said (Err e) = refl

-- ---- lengths
pub write-given : {c C : Control} {out out' : List ℕ} {a : Result ℕ Refusal} {old new r : ℕ} → c ≡ C → Wrote c out a out' → Gives (said_written a) old new r
    → WriteGiven C out out' old new r
write-given {out = out} {out'} {old = old} {new} {r} e p g =
    subst (λ c. WriteGiven c out out' old new r) e (record { answer = passed g p.answer; output = p.output })

pub list-given : {wanted : Answer (List ℕ)} {out out' : List ℕ} {a : Result ℕ Refusal} {old new r : ℕ} → Lists wanted out a out' → Gives (said a) old new r
    → ListGiven wanted out out' old new r
list-given p g = record { answer = passed g p.answer; output = p.output }
