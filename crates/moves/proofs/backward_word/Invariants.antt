-- `backward_word` meets its contract. The loop adds one bit for each state of the word.
use Rattle.moves.proofs.Rows.{Packing}
use Rattle.moves.proofs.backward_word.Given as goal

abbrev pub invariant-loop-k : goal.invariant-loop-k
invariant-loop-k l = Packing l.moves l.x.words l.q l.m l.w l.k
