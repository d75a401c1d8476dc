-- The fakes of specs/Fakes.antt, each refuted.
use Prim.Native.Nat.{ℕ}
use native.Mathlib.Omega.{arith}
use mathlib.Core.List.{List}
use mathlib.Core.Logic.{◌⊎◌, inl, inr}
use mathlib.Core.Path.{◌≡◌, refl, sym, ap, ◌∙◌}
use lib.ListN.{get_or}
use Rattle.answers.proofs.Values.{no_value}
use Rattle.std.specs.Prelude.{Result, Ok, Err}
use Rattle.answers.specs.Answer.{given}
use Rattle.answers.specs.Said.{number_of}
use Rattle.answers.specs.declared.Refusal.{Refusal}
use Rattle.rules.proofs.Ends.{weight}
use Rattle.rules.proofs.Published.{lighter}
use Rattle.rules.specs.Buffer.{decode}
use Rattle.rules.specs.Published.{Conclusive}
use Rattle.rules.specs.Table.{Table}
use Rattle.rules.specs.Walks.{LeadsToBad, RealWalk, arrived, onward}
use Rattle.runs.proofs.Demands.{big, fit}
use Rattle.runs.specs.Demands.{Refuses, Ends, RunDemand2}
use Rattle.runs.specs.Fakes.{Fakes, StoredWalk}
use Rattle.runs.specs.Said.{not_ended, said, as_outcome}
use Rattle.runs.specs.declared.Outcome as outcome
use Rattle.runs.specs.declared.RunAnswer.{RunAnswer}

not_refused : (r : Result RunAnswer Refusal) → Refuses r → Ends r → ⊥
not_refused r (k, e) (inl (j, q)) = no_value (sym e ∙ q)
not_refused r (k, e) (inr (m, q)) = no_value (sym e ∙ q)

-- the four things that a run can say
says : (r : Result RunAnswer Refusal) → Refuses r ⊎ (Ends r ⊎ (said r ≡ given not_ended))
says (Err e) = inl (number_of e, refl)
says (Ok a) = go a.outcome refl
  where
    go : (o : outcome.Outcome) → a.outcome ≡ o → Refuses (Ok a) ⊎ (Ends (Ok a) ⊎ (said (Ok a) ≡ given not_ended))
    go (outcome.TheVariants.Safe j) e = inr (inl (inl (j, ap (λ o. given (as_outcome o)) e)))
    go (outcome.TheVariants.Reached m) e = inr (inl (inr (m, ap (λ o. given (as_outcome o)) e)))
    go outcome.TheVariants.Unfinished e = inr (inr (ap (λ o. given (as_outcome o)) e))

module _ (t : Table) (hints : List ℕ) (budget : ℕ) (b b' set set' walk walk' : List ℕ) (r : Result RunAnswer Refusal) where
  -- a verdict needs a conclusive state
  ends_conclusive : Ends r → RunDemand2 t hints budget b b' set' walk' r → Conclusive t (decode b')
  ends_conclusive (inl (j, e)) d = let c = (d.safe_there j e).conclusive in inl (record { j = j; below = c.below; is = c.is })
  ends_conclusive (inr (m, e)) d = inr (d.reached_there m e).conclusive

  pub fakes : Fakes t hints budget b b' set set' walk walk' r
  fakes =
      record {
        refuses_everything = λ l f d. not_refused r f (d.ends l);
        always_safe = λ w s d. (d.exactly (inl s)).0 s w;
        buffer_as_found = λ l n pos same d. elim (says r) [
          | inl f ↦ d.not_refused f
          | inr (inl e) ↦ n (rw same at (ends_conclusive e d))
          | inr (inr e) ↦
              let spent = (d.unfinished_there e).spent in
              let down = lighter t (big t hints b set walk l) (fit t hints b set walk l).inv d.rules_published in
              let back : weight t (decode b') ≡ weight t (decode b) = ap (λ w. weight t (decode w)) same in
              omega arith
        ];
        invented_verdict = λ n e d. n (ends_conclusive e d);
        another_search = λ n _ _ _ same e d. n (rw same at (ends_conclusive e d));
        made_up_count = λ c n e d. n (d.counted c e).0;
      }

-- a walk begins with its first state
begins : (t : Table) {s : ℕ} {w : List ℕ} → LeadsToBad t s w → get_or w 0 0 ≡ s
begins t (arrived x) = refl
begins t (onward l e p) = refl

pub stored_walk : (t₁ t₂ : Table) (w : List ℕ) → StoredWalk t₁ t₂ w
stored_walk t₁ t₂ w =
    record {
      breaks = λ apart h₁ h₂ n₁ n₂ b₁ b₁' s₁ w₁ b₂ b₂' s₂ w₂ r₁ r₂ m₁ m₂ e₁ q₁ e₂ q₂ d₁ d₂.
          let a : RealWalk t₁ w = rw q₁ at (d₁.reached_walk m₁ e₁) in
          let c : RealWalk t₂ w = rw q₂ at (d₂.reached_walk m₂ e₂) in
          let same : c.first ≡ a.first = sym (begins t₂ c.moves) ∙ begins t₁ a.moves in
          apart a.first a.start (rw same at c.start);
    }
