-- `put::put_set` meets its contract: the number of members, then the members.
use mathlib.Core.Path.{◌∙◌}
use Rattle.tables.proofs.Putting.{set-put}
use Rattle.tables.proofs.put.put_set.Goals as goal

pub returns : goal.returns
returns c = set-put _ _ (c.from.ensures ∙ c.count.ensures) c.put_bits16.ensures c.put_members.ensures
