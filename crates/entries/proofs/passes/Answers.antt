-- `passes` meets its contract: what has been tested gives the buffer its range, and then its shape.
use Rattle.std.proofs.Common.{arith}
use Rattle.entries.proofs.Shapes.{spans_by, shaped_by}
use Rattle.entries.proofs.passes.Goals as goal

pub invariant_of-held : goal.invariant_of-held
invariant_of-held c = record { spans = spans_by c.args.table.now.model.size _ (grind arith) c.requires.0 c.requires.1.big }

pub invariant_of-shape : goal.invariant_of-shape
invariant_of-shape c =
    record { widths = shaped_by _ _ (λ i. (c.type_inv.buf i).fits) c.requires.1 c.requires.0 (grind arith) (grind arith) (grind arith) (grind arith) }
