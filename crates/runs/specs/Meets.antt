-- What is proved of the promises of `fresh`, `single` and `run`: they meet the demands of specs/Demands.antt. proofs/Meets.antt proves it.
use Rattle.std.specs.Prelude.{ℕ, true, List, Result, ◌≡◌, length}
use Rattle.answers.specs.Answer.{given}
use Rattle.answers.specs.declared.Refusal.{Refusal}
use Rattle.sets.specs.Sets.{Set, Proper, Words, in_range}
use Rattle.rules.specs.Rules.{Rule}
use Rattle.rules.specs.Table.{Table, sound_table}
use Rattle.runs.specs.declared.Rule as code
use Rattle.runs.specs.declared.RunAnswer.{RunAnswer}
use Rattle.runs.specs.Demands.{Lent, Known, RunDemand2, RunDemand3, SingleDemand, SameVerdict}
use Rattle.runs.specs.Promises.{lengths_ok, FreshPromise, SinglePromise, RunPromise}
use Rattle.runs.specs.Said.{said_one}

pub record Meets (t : Table) : Type 0 where
  -- `run`, where all was lent as it must be
  pub demand_2 : (hints : List ℕ) (budget : ℕ) (b b' set set' walk walk' : List ℕ) (r : Result RunAnswer Refusal) → Lent t hints b set walk
      → RunPromise t hints budget b b' set set' walk walk' r → RunDemand2 t hints budget b b' set' walk' r
  pub demand_3 : (hints : List ℕ) (budget : ℕ) (b b' set set' walk walk' : List ℕ) (r : Result RunAnswer Refusal) → Lent t hints b set walk
      → RunPromise t hints budget b b' set set' walk walk' r → RunDemand3 t hints budget b r
  -- a caller that was not refused has lent as it must
  pub known : (hints : List ℕ) (budget : ℕ) (b b' set set' walk walk' : List ℕ) (r : Result RunAnswer Refusal)
      → RunPromise t hints budget b b' set set' walk walk' r → Known t hints b r → Lent t hints b set walk
  -- .. and so has one that lends a fresh run buffer and a sound table, whatever the hints
  pub fresh : (hints b₀ b set walk : List ℕ) → FreshPromise t.size b₀ b 0 → in_range t.size ≡ true → length t.rows ≡ 1024
      → sound_table t ≡ true → Proper 256 t.starts → Proper 256 t.safe → Words hints → lengths_ok hints set walk ≡ true → Lent t hints b set walk
  -- `single`, where it fired a rule, whatever was proposed
  pub single : (z : Set) (b b' : List ℕ) (r : Result code.Rule Refusal) (rule : Rule) → Words b → Proper 256 t.starts → Proper 256 t.safe → Proper 256 z
      → SinglePromise t z b b' r → said_one r ≡ given rule → SingleDemand t z b b' rule
  -- two runs, from any buffers, with any hints and budgets
  pub same_verdict : (hints₁ hints₂ : List ℕ) (budget₁ budget₂ : ℕ) (b₁ b₁' set₁ set₁' walk₁ walk₁' b₂ b₂' set₂ set₂' walk₂ walk₂' : List ℕ)
      (r₁ r₂ : Result RunAnswer Refusal) → Lent t hints₁ b₁ set₁ walk₁ → Lent t hints₂ b₂ set₂ walk₂
      → RunPromise t hints₁ budget₁ b₁ b₁' set₁ set₁' walk₁ walk₁' r₁
      → RunPromise t hints₂ budget₂ b₂ b₂' set₂ set₂' walk₂ walk₂' r₂ → SameVerdict r₁ r₂
