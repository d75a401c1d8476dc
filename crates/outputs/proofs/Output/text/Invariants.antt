-- `text` meets its contract. The invariant: the first bytes of the text are appended.
use lib.ListN.{take}
use Rattle.outputs.specs.Appends.{Appends}
use Rattle.outputs.proofs.Output.text.Given as goal

abbrev pub invariant-loop-b : goal.invariant-loop-b
invariant-loop-b l = Appends l.initial.self (take l.b-index l.t) l.self
