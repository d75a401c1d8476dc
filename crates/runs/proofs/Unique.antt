-- Any two outcomes that a public call's promise allows are equal, answer and buffers: a line for each call.
use Prim.Native.Nat.{ℕ}
use mathlib.Core.List.{List}
use mathlib.Core.Path.{◌≡◌, refl, sym, ap, ◌∙◌}
use Rattle.std.specs.Prelude.{Result, Ok, Err}
use Rattle.answers.proofs.Said.{number_once, said_as_once, refusal_once}
use Rattle.answers.proofs.Unique.{only}
use Rattle.answers.proofs.Values.{no_value}
use Rattle.answers.specs.Said.{number_of, refusal_of}
use Rattle.answers.specs.declared.Refusal.{Refusal}
use Rattle.rules.specs.Table.{Table}
use Rattle.runs.specs.Promises.{RunPromise, FreshPromise, SinglePromise}
use Rattle.runs.specs.Said.{said, as_rule, rule_of, as_outcome, rules_of, taken_of, used_of}
use Rattle.sets.specs.Sets.{Set}
use Rattle.runs.specs.declared.Rule as code
use Rattle.runs.specs.declared.Outcome as outcome
use Rattle.runs.specs.declared.RunAnswer as answer

-- no two answers say the same
rule_back_code : (r : code.Rule) → rule_of (as_rule r) ≡ r
unfolding rule_of as_rule
rule_back_code code.TheVariants.Unfold = refl
rule_back_code code.TheVariants.Candidate = refl
rule_back_code code.TheVariants.Decide = refl
rule_back_code code.TheVariants.Conflict = refl

rule_one : (a b : code.Rule) → as_rule a ≡ as_rule b → a ≡ b
rule_one a b e = sym (rule_back_code a) ∙ ap rule_of e ∙ rule_back_code b

outcome_one : (a b : outcome.Outcome) → as_outcome a ≡ as_outcome b → a ≡ b
outcome_one (outcome.TheVariants.Safe i) (outcome.TheVariants.Safe j) e = let q : i ≡ j = cc in rw q
outcome_one (outcome.TheVariants.Safe i) (outcome.TheVariants.Reached m) e = cc
outcome_one (outcome.TheVariants.Safe i) outcome.TheVariants.Unfinished e = cc
outcome_one (outcome.TheVariants.Reached m) (outcome.TheVariants.Safe j) e = cc
outcome_one (outcome.TheVariants.Reached m) (outcome.TheVariants.Reached n) e = let q : m ≡ n = cc in rw q
outcome_one (outcome.TheVariants.Reached m) outcome.TheVariants.Unfinished e = cc
outcome_one outcome.TheVariants.Unfinished (outcome.TheVariants.Safe j) e = cc
outcome_one outcome.TheVariants.Unfinished (outcome.TheVariants.Reached m) e = cc
outcome_one outcome.TheVariants.Unfinished outcome.TheVariants.Unfinished e = refl

run_one : (a b : Result answer.RunAnswer Refusal) → said a ≡ said b → rules_of a ≡ rules_of b → taken_of a ≡ taken_of b → used_of a ≡ used_of b → a ≡ b
run_one (Ok a) (Ok b) e f t u =
    let q : as_outcome a.outcome ≡ as_outcome b.outcome = cc in
    λ i. Ok (record { outcome = outcome_one a.outcome b.outcome q i; rules = f i; taken = t i; used = u i })
run_one (Ok a) (Err s) e f t u = no_value (sym e)
run_one (Err r) (Ok b) e f t u = no_value e
run_one (Err r) (Err s) e f t u = let q : number_of r ≡ number_of s = cc in ap Err (number_once r s q)

pub fresh-once : (N : ℕ) (b : List ℕ) {b' b'' : List ℕ} {r r' : Result (Unit {0}) Refusal} → FreshPromise N b b' (refusal_of r)
    → FreshPromise N b b'' (refusal_of r') → (r ≡ r') × (b' ≡ b'')
fresh-once N b {r = r} {r' = r'} p q = (refusal_once r r' (only p.answer q.answer), only p.buffer q.buffer)

pub single-once : (t : Table) (z : Set) (b : List ℕ) {b' b'' : List ℕ} {r r' : Result code.Rule Refusal} → SinglePromise t z b b' r
    → SinglePromise t z b b'' r' → (r ≡ r') × (b' ≡ b'')
single-once t z b {r = r} {r' = r'} p q = (said_as_once as_rule rule_one r r' (only p.answer q.answer), only p.buffer q.buffer)

pub run-once : (t : Table) (hints : List ℕ) (budget : ℕ) (b set walk : List ℕ) {b₁ b₂ s₁ s₂ w₁ w₂ : List ℕ} {r r' : Result answer.RunAnswer Refusal}
    → RunPromise t hints budget b b₁ set s₁ walk w₁ r → RunPromise t hints budget b b₂ set s₂ walk w₂ r'
    → (r ≡ r') × (b₁ ≡ b₂) × (s₁ ≡ s₂) × (w₁ ≡ w₂)
run-once t hints budget b set walk {r = r} {r' = r'} p q = (
  run_one r r' (only p.outcome q.outcome) (only p.rules q.rules) (only p.taken q.taken) (only p.used q.used),
  only p.buffer q.buffer,
  only p.set_is q.set_is,
  only p.walk_is q.walk_is,
)
