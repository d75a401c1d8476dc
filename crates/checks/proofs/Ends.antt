-- The run of `check` on a table that was read is safe or reached, and a walk fits the 256 numbers lent for it.
use Prim.Native.Nat.{ℕ, ◌≤◌}
use native.Mathlib.Omega.{arith}
use mathlib.Core.List.{List, []}
use mathlib.Core.Path.{◌≡◌, sym, ◌∙◌}
use Rattle.rules.proofs.Budget.{run-standing, run-keeps}
use Rattle.rules.proofs.Demands.{fresh-inv, ends_by}
use Rattle.rules.specs.Demands.{bound, Ended}
use Rattle.rules.specs.Rules.{fresh, reached}
use Rattle.rules.specs.Table.{Table}
use Rattle.runs.proofs.Walks.{none_closes, not-long}
use Rattle.tables.proofs.Files.{contents-is}
use Rattle.tables.specs.Control.{control_of}
use Rattle.tables.specs.Format.{Contents, taken, contents}
use Rattle.checks.specs.Check.{searched}

module _ (t : Table) (big : t.size ≤ 256) where
  pub searched-ends : Ended (searched t).standing
  searched-ends = ends_by t big (fresh t) (fresh-inv t big) (bound t.size) [] (omega arith)

  pub few_states : (searched t).standing ≡ reached → (searched t).state.n ≤ 257
  few_states e =
      let v = fresh-inv t big in
      let stands = sym (run-standing t big (bound t.size) [] (fresh t) v) ∙ e in
      omega (arith, not-long t (searched t).state (run-keeps t big (bound t.size) [] (fresh t) v) (none_closes t (searched t).state stands))

-- of a file that was read, the two standings that have no listing never come
pub check_ends : (file : List ℕ) (l : Contents) → contents file ≡ taken l → Ended (searched (control_of l).table).standing
unfolding control_of
check_ends file l e = searched-ends (control_of l).table (contents-is file l e).states.most
