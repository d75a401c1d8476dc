-- `number` meets its contract: the digits are appended after the text.
use Rattle.outputs.proofs.Puts.{appends_then}
use Rattle.listings.proofs.put.number.Goals as goal

pub returns : goal.returns
returns g c = appends_then c.text.ensures (rw (c.as_bytes.ensures.value, c.format.ensures.text) at c.text-2.ensures)
