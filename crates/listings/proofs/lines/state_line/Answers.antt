-- `state_line` meets its contract: the fields are appended one after another.
use borrow.Author.Rules.{rules}
use Prim.Native.Nat.{◌+◌, ◌<◌, ◌^◌}
use lib.IntN.{ℤ}
use lib.Signed.{mag}
use mir.Syntax.{w16}
use mir.ValLaws.{to_z-of_z}
use Rattle.listings.specs.Text.{appended, text, spaced, parted, line}
use Rattle.listings.specs.Listing.{state_line}
use Rattle.outputs.proofs.Puts.{appends_then}
use Rattle.listings.proofs.Text.{decimal-is, signed-is}
use Rattle.listings.proofs.lines.state_line.Goals as goal

pub returns : goal.returns
unfolding state_line appended text spaced parted line
returns c =
    let read = λ (z : ℤ) (h : mag z < 2 ^ 15). to_z-of_z w16 z (record { sfits = h }) in
    let p = rw (decimal-is (c.args.i + 1) (search rules)) at c.number.ensures in
    let p = appends_then p (rw (decimal-is c.state_at.result (search rules), c.state_at.ensures) at c.number-2.ensures) in
    let a = c.angle_at in
    let p = appends_then p (rw (read a.result a.type_inv, signed-is a.result (search rules), a.ensures) at c.number-3.ensures) in
    let p = appends_then p (rw (decimal-is c.mode_at.result (search rules), c.mode_at.ensures) at c.number-4.ensures) in
    let t = c.turn_at in
    let p = appends_then p (rw (read t.result t.type_inv, signed-is t.result (search rules), t.ensures) at c.number-5.ensures) in
    appends_then p c.text.ensures
