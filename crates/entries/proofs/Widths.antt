-- A sound table and a buffer with no members from N up have what `Widths` says.
use Prim.Native.Nat.{ℕ}
use mathlib.Core.Path.{◌≡◌}
use mathlib.Core.List.{List}
use Rattle.moves.proofs.Rows.{forward-is, backward-is}
use Rattle.rules.proofs.Reading.{proper_forward, proper_backward}
use Rattle.rules.proofs.Ready.{Good}
use Rattle.rules.specs.Buffer.{decode, Normal}
use Rattle.rules.specs.Table.{Table}
use Rattle.sets.proofs.Within.{within-256}
use Rattle.sets.specs.Sets.{Set, within, Proper}
use Rattle.entries.specs.Widths.{Widths}

pub widths : (t : Table) (b : List ℕ) → Good t → Normal t.size (decode b) → Widths t b
widths t b good norm =
    let wide : (x u : Set) → Proper t.size x → within 256 x u ≡ within t.size x u = within-256 t.size good.big in
    record {
      x = λ j u. wide _ _ (norm.proper_x j);
      starts = λ u. wide _ _ good.starts;
      safe = λ u. wide _ _ good.safe;
      forward = λ x u. rw (forward-is t.size t.rows good.big good.rows x) (wide _ _ (proper_forward t.size t.rows _ good.big));
      backward = λ u y. rw (backward-is t.size t.rows good.big good.rows u) (wide _ _ (proper_backward t.size t.rows _ good.big));
    }
