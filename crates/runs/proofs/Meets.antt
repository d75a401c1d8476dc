-- The demands of the promises, gathered: each is a theorem of Demands, Known or Singles.
use Rattle.rules.specs.Table.{Table}
use Rattle.runs.proofs.Demands.{run-demand_2, run-demand_3, same_verdict_run}
use Rattle.runs.proofs.Known.{known_lent, fresh-lent}
use Rattle.runs.proofs.Singles.{single-demand}
use Rattle.runs.specs.Meets.{Meets}

pub meets : (t : Table) → Meets t
meets t =
    record {
      demand_2 = λ hints budget b b' set set' walk walk' r l p. run-demand_2 t hints b set walk l budget b' set' walk' r p;
      demand_3 = λ hints budget b b' set set' walk walk' r l p. run-demand_3 t hints b set walk l budget b' set' walk' r p;
      known = λ hints budget b b' set set' walk walk' r p k. known_lent t hints b set walk budget b' set' walk' r p k;
      fresh = λ hints b₀ b set walk. fresh-lent t hints b set walk b₀;
      single = single-demand t;
      same_verdict = λ hints₁ hints₂ budget₁ budget₂ b₁ b₁' set₁ set₁' walk₁ walk₁' b₂ b₂' set₂ set₂' walk₂ walk₂' r₁ r₂ l₁ l₂ p₁ p₂.
          same_verdict_run t hints₁ hints₂ b₁ b₂ set₁ set₂ walk₁ walk₂ l₁ l₂ budget₁ budget₂ b₁' set₁' walk₁' b₂' set₂' walk₂' r₁ r₂ p₁ p₂;
    }
