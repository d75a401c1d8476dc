-- The fakes that document 01 lists: an answer of that shape cannot meet the demands. proofs/Fakes.antt proves each.
use Rattle.std.specs.Prelude.{ℕ, ◌≤◌, ◌<◌, true, List, Result, ◌≢◌, ◌≡◌, take}
use Rattle.answers.specs.declared.Refusal.{Refusal}
use Rattle.sets.specs.Sets.{member}
use Rattle.rules.specs.Buffer.{decode}
use Rattle.rules.specs.Demands.{bound, Course}
use Rattle.rules.specs.Published.{Conclusive}
use Rattle.rules.specs.Table.{Table}
use Rattle.rules.specs.Walks.{BadReached}
use Rattle.runs.specs.declared.RunAnswer.{RunAnswer}
use Rattle.runs.specs.Demands.{Refuses, Lent, SaysSafe, SaysReached, Ends, RunDemand2, RunDemand3}
use Rattle.runs.specs.Hints.{hints_at}
use Rattle.runs.specs.Said.{rules_of, taken_of, used_of}

pub record Fakes (t : Table) (hints : List ℕ) (budget : ℕ) (b b' set set' walk walk' : List ℕ) (r : Result RunAnswer Refusal) : Type 0 where
  -- refusing everything breaks demand 3, by which a run on a sound table ends
  pub refuses_everything : bound t.size ≤ budget → Refuses r → RunDemand3 t hints budget b r → ⊥
  -- always "safe" breaks demand 2
  pub always_safe : BadReached t → SaysSafe r → RunDemand2 t hints budget b b' set' walk' r → ⊥
  -- leaving the run buffer as found breaks demand 2, where a rule is due and the budget allows it
  pub buffer_as_found : Lent t hints b set walk → (Conclusive t (decode b) → ⊥) → 0 < budget → b' ≡ b
      → RunDemand2 t hints budget b b' set' walk' r → ⊥
  -- firing one real rule, or any number, and then inventing the verdict breaks demand 2 and the run's final buffer
  pub invented_verdict : (Conclusive t (decode b') → ⊥) → Ends r → RunDemand2 t hints budget b b' set' walk' r → ⊥
  -- firing no rule, leaving the buffer as found, reporting 0, 0, 0 and taking the verdict from another search breaks demand 2
  pub another_search : (Conclusive t (decode b) → ⊥) → rules_of r ≡ 0 → taken_of r ≡ 0 → used_of r ≡ 0 → b' ≡ b → Ends r
      → RunDemand2 t hints budget b b' set' walk' r → ⊥
  -- a made-up rule count breaks demand 3, since the count is that of the published rules
  pub made_up_count : (c : Course t (hints_at hints 0) (decode b)) → rules_of r ≢ c.rules → Ends r → RunDemand3 t hints budget b r → ⊥

-- one stored walk breaks demand 2: it is no walk of two tables that have no start in common
pub record StoredWalk (t₁ t₂ : Table) (w : List ℕ) : Type 0 where
  pub breaks : ((s : ℕ) → member t₁.starts s ≡ true → member t₂.starts s ≡ true → ⊥)
      → (hints₁ hints₂ : List ℕ) (budget₁ budget₂ : ℕ) (b₁ b₁' set₁ walk₁ b₂ b₂' set₂ walk₂ : List ℕ) (r₁ r₂ : Result RunAnswer Refusal) (m₁ m₂ : ℕ)
      → SaysReached r₁ m₁ → take m₁ walk₁ ≡ w → SaysReached r₂ m₂ → take m₂ walk₂ ≡ w
      → RunDemand2 t₁ hints₁ budget₁ b₁ b₁' set₁ walk₁ r₁ → RunDemand2 t₂ hints₂ budget₂ b₂ b₂' set₂ walk₂ r₂ → ⊥
