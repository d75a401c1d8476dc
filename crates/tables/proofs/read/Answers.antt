-- `read` meets its contract: buffers of other lengths, a file that was not taken, or one that was.
use borrow.Author.Rules.{rules}
use Rattle.tables.proofs.Files.{read-unsized, read-stopped, fillable}
use Rattle.tables.proofs.read.Goals as goal

pub returns-then-not-sized : goal.returns-then-not-sized
returns-then-not-sized c = search (read-unsized, rules)

pub returns-in_err-counts : goal.returns-in_err-counts
returns-in_err-counts c = read-stopped _ _ _ _ _ c.sized.ensures c.if-not-sized.false _ c.count.ensures _ c.in_err-counts.was _ c.from_residual.ensures.1

pub filled-requires : goal.filled-requires
filled-requires c = fillable _ _ _ _ _ c.sized.ensures c.if-not-sized.false _ c.count.ensures _ c.in_ok-counts.was
