-- What the tests of a run buffer give, once they have passed: n and k are in range, and the buffer has its shape.
use Prim.Native.Nat.{ℕ, ◌≤◌}
use native.Mathlib.Omega.{arith}
use mathlib.Core.Bool.{true}
use mathlib.Core.List.{List}
use mathlib.Core.Path.{◌≡◌}
use lib.ListN.{length}
use Rattle.rules.proofs.Entry.{ranges-say}
use Rattle.rules.proofs.Held.{held_by}
use Rattle.rules.proofs.Ready.{Good, Spans}
use Rattle.rules.specs.Buffer.{decode, ranges, unused, sound_x, sound_y}
use Rattle.rules.specs.Table.{Table}
use Rattle.sets.specs.Sets.{Words}
use Rattle.entries.proofs.Widths.{widths}
use Rattle.entries.specs.Widths.{Widths}

pub spans_by : (N : ℕ) (b : List ℕ) → ranges N (decode b) ≡ true → length b ≡ 2066 → N ≤ 256 → Spans b
unfolding decode
spans_by N b passed long big =
    let (two, cap, pos, le) = ranges-say N (decode b) passed in
    record { long = long; two = two; room = omega arith; pos = pos; le = le }

pub shaped_by : (t : Table) (b : List ℕ) → Words b → Good t → length b ≡ 2066 → ranges t.size (decode b) ≡ true → unused b ≡ true
    → sound_x t.size (decode b) (decode b).n ≡ true → sound_y t.size (decode b) ≡ true → Widths t b
unfolding decode
shaped_by t b words good long passed clear x y =
    let spans = spans_by t.size b passed long good.big in
    widths t b good (held_by t good.big b long words clear x y spans.room).norm
