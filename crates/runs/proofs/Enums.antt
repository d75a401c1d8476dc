-- The code's enums and the definitions', there and back.
use Prim.Native.Nat.{ℕ}
use native.Mathlib.Omega.{arith}
use denote.Enum.Bare.{sameb}
use mathlib.Core.Bool.{Bool, true, false, not}
use mathlib.Core.List.{List}
use mathlib.Core.Logic.{◌≢◌}
use mathlib.Core.Path.{◌≡◌, refl, sym, ap, ◌∙◌}
use lib.Dec.{eqb}
use Rattle.rules.proofs.Invariant.{Open}
use Rattle.rules.proofs.Reading.{conclusion-256}
use Rattle.rules.proofs.Ready.{Ready}
use Rattle.rules.specs.Buffer.{decode}
use Rattle.rules.specs.Rules as rules
use Rattle.rules.specs.Rules.{unfinished, conclusion, conclusion_of, due}
use Rattle.rules.specs.Runs.{asks, lacks_room_for}
use Rattle.rules.specs.Table.{Table}
use Rattle.runs.specs.contracts.Rule.{the_type}
use Rattle.runs.specs.Inner.{IsDue, Stands}
use Rattle.runs.specs.Said.{as_rule, rule_of, as_standing, is_open}
use Rattle.runs.specs.declared.Rule as code
use Rattle.runs.specs.declared.Standing as standing

rule_back : (r : rules.Rule) → as_rule (rule_of r) ≡ r
unfolding as_rule rule_of
rule_back rules.Unfold = refl
rule_back rules.Candidate = refl
rule_back rules.Decide = refl
rule_back rules.Conflict = refl

-- the rule due, as the definitions name it
pub due-as : (t : Table) (b : List ℕ) (rule : code.Rule) → IsDue t b rule → due t (decode b) ≡ as_rule rule
due-as t b rule e = sym (rule_back _) ∙ ap as_rule (sym e)

-- the conclusion on all 256 places is the conclusion
pub stands_by : (t : Table) (b : List ℕ) (v : standing.Standing) → Ready t b → as_standing v ≡ conclusion_of 256 t.starts (decode b) → Stands t b v
stands_by t b v r e = e ∙ conclusion-256 t.size r.good.big (decode b) r.fit.held.norm t.starts r.good.starts

-- the code's own comparison with Unfold
pub asks-is : (rule : code.Rule) (r : Bool) → r ≡ not (sameb the_type rule code.TheVariants.Unfold) → r ≡ asks (as_rule rule)
unfolding asks as_rule
asks-is code.TheVariants.Unfold r e = e
asks-is code.TheVariants.Candidate r e = e
asks-is code.TheVariants.Decide r e = e
asks-is code.TheVariants.Conflict r e = e

-- whether Unfold lacks room; r is what `asks` answered
module _ (rule : code.Rule) (n : ℕ) (r : Bool) (e : r ≡ asks (as_rule rule)) where
  pub room-no : r ≡ true → false ≡ lacks_room_for (as_rule rule) n
  unfolding lacks_room_for
  room-no h = rw (sym e ∙ h)

  pub room-is : r ≡ false → eqb n 258 ≡ lacks_room_for (as_rule rule) n
  unfolding lacks_room_for
  room-is h = rw (sym e ∙ h)

open_false : (v : standing.Standing) → is_open v ≡ false → as_standing v ≢ unfinished
unfolding is_open
open_false (standing.TheVariants.Safe j) e q = let z : ◌≡◌ {A = ℕ} 0 1 = cc in omega arith
open_false standing.TheVariants.Reached e q = let z : ◌≡◌ {A = ℕ} 0 1 = cc in omega arith
open_false standing.TheVariants.Unfinished e q = let z : ◌≡◌ {A = ℕ} 0 1 = cc in omega arith

open_true : (v : standing.Standing) → is_open v ≡ true → as_standing v ≡ unfinished
unfolding is_open
open_true (standing.TheVariants.Safe j) e = let z : ◌≡◌ {A = ℕ} 0 1 = cc in absurd (omega arith)
open_true standing.TheVariants.Reached e = let z : ◌≡◌ {A = ℕ} 0 1 = cc in absurd (omega arith)
open_true standing.TheVariants.Unfinished e = refl

-- what `if !standing.is_open() {` says of the run
module _ (t : Table) (b : List ℕ) (v : standing.Standing) (s : Stands t b v) (r : Bool) (e : r ≡ is_open v) where
  pub concluded : r ≡ false → conclusion t (decode b) ≢ unfinished
  concluded n q = open_false v (sym e ∙ n) (s ∙ q)

  pub still_open : r ≡ true → Open t (decode b)
  still_open n = sym s ∙ open_true v (sym e ∙ n)
