-- `put::put_file` meets its contract: the parts of the file one after another.
use Rattle.tables.proofs.Writing.{put_all}
use Rattle.tables.proofs.put.put_file.Goals as goal

pub returns : goal.returns
returns c =
    put_all _ _ _ _ _ _ _ c.from.ensures c.put_bits16.ensures c.put_states.ensures c.put_set.ensures c.put_set-2.ensures c.put_moves.ensures
