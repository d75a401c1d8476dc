-- `g_by_second` meets its contract: refused, or g worked out from a second table that agrees.
use borrow.Author.Rules.{rules}
use Rattle.sets.proofs.Answers.{answers_err, answers_ok}
use Rattle.edits.proofs.Answered.{g-big, g_set}
use Rattle.edits.proofs.g_by_second.Goals as goal

pub returns-in_err-test_g : goal.returns-in_err-test_g
returns-in_err-test_g c = search (answers_err, rules)

pub backward-requires : goal.backward-requires
backward-requires c = search (g-big, rules)

pub returns : goal.returns
returns c = answers_ok _ _ _ c.in_ok-test_g.ensures (g_set _ _ _ _ c.in_ok-test_g.ensures _ c.backward.ensures)
