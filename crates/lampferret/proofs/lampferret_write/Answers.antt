-- `lampferret_write` meets its contract: what `write` promises, of the control table made of what is lent.
use mathlib.Core.Path.{ap}
use Rattle.moves.specs.Models.{control}
use Rattle.lampferret.proofs.Giving.{write-given}
use Rattle.lampferret.proofs.lampferret_write.Goals as goal

pub returns : goal.returns
returns c = write-given (ap (λ t. control t c.args.angles.now c.args.modes.now) c.table_of-table.ensures) c.write.ensures c.give.ensures
