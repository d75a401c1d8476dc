-- `lead_in` meets its contract: the bits of w, lowest first, until none is left.
use borrow.Author.Rules.{rules}
use Rattle.edits.proofs.Turning.{lead_goes, lead_ends, rest-shrinks}
use Rattle.edits.proofs.lead_in.Goals as goal

pub loop-rest-smaller : goal.loop-rest-smaller
loop-rest-smaller c = search (rest-shrinks, rules)

pub loop-rest-preserved : goal.loop-rest-preserved
loop-rest-preserved c = search (lead_goes, rules)

pub returns : goal.returns
returns c = search (lead_ends, rules)
