-- `put::put_moves` meets its contract: the number of moves, then the moves.
use Rattle.tables.proofs.Putting.{moves_put}
use Rattle.tables.proofs.put.put_moves.Goals as goal

pub returns : goal.returns
returns c = moves_put _ _ c.count_moves.ensures c.put_bits16.ensures c.put_rows.ensures
