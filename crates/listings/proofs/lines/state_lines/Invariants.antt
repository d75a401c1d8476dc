-- `state_lines` meets its contract. The invariant: the lines of the first i states are appended.
use Rattle.listings.specs.Text.{appended}
use Rattle.listings.specs.Listing.{state_line}
use Rattle.outputs.specs.Appends.{Appends}
use Rattle.listings.proofs.lines.state_lines.Given as goal

abbrev pub invariant-loop-i : goal.invariant-loop-i
invariant-loop-i l = Appends l.initial.out (appended l.i (state_line l.walk l.control.angles.now l.control.modes.now)) l.out
