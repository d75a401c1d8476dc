-- `recall` meets its contract: g(y) stands in the memo, or is worked out and put there.
use borrow.Author.Rules.{rules}
use Rattle.runs.proofs.Kept.{recall_hit, recall_miss}
use Rattle.runs.proofs.memo.Memo.recall.Goals as goal

pub returns-then-ne : goal.returns-then-ne
returns-then-ne c = search (recall_hit, c.requires.1, rules)

pub returns : goal.returns
returns c = search (recall_miss, rules)
