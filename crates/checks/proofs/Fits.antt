-- What `check` lists of a file is at most 5,424 bytes long.
use Prim.Native.Nat.{ℕ, ◌^◌, ◌≤◌, ◌<◌}
use native.Mathlib.Omega.{arith}
use mathlib.Core.List.{List}
use mathlib.Core.Path.{◌≡◌}
use lib.ListN.{length}
use Rattle.tables.proofs.Files.{contents-is}
use Rattle.tables.specs.RoundTrip.{Bytes}
use Rattle.tables.proofs.Round.{read-proper, moves-counted}
use Rattle.tables.specs.Control.{control_of}
use Rattle.tables.specs.Format.{Contents, taken, contents}
use Rattle.checks.specs.Check.{table_listing, check_listing}
use Rattle.checks.proofs.Lengths.{Small, table_fits}
use Rattle.checks.proofs.Stops.{file-fits}

-- the table of a file that was read is small
contents-small : (file : List ℕ) (l : Contents) → Bytes file → contents file ≡ taken l → Small (control_of l)
unfolding control_of
contents-small file l B e =
    let f = contents-is file l e in
    let p = read-proper file B l e in
    record {
      size = f.states.most;
      moves = omega (arith, f.moves.most, moves-counted file l e);
      angles = p.angles;
      modes = p.modes;
    }

pub check_fits : (file : List ℕ) → length file < 10 ^ 20 → Bytes file → length (check_listing file) ≤ 5424
check_fits file short B = file-fits table_listing 5424 file short (omega arith) (λ l e. table_fits (control_of l) (contents-small file l B e))
