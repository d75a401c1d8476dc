-- `new` meets its contract: each set is empty.
use Rattle.runs.proofs.Kept.{blank}
use Rattle.runs.proofs.memo.Memo.new.Goals as goal

pub returns : goal.returns
returns c = blank
