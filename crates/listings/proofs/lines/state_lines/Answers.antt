-- `state_lines` meets its contract. The invariant: the lines of the first i states are appended.
use borrow.Author.Rules.{rules}
use Rattle.outputs.proofs.Puts.{appends_none, appends_then}
use Rattle.listings.proofs.Text.{appended-none, appended-more}
use Rattle.listings.proofs.lines.state_lines.Goals as goal

pub loop-i-init : goal.loop-i-init
loop-i-init c = search (appends_none, appended-none, rules)

pub loop-i-preserved : goal.loop-i-preserved
loop-i-preserved c = search (appends_then, appended-more, rules)

pub returns : goal.returns
returns c = search rules
