-- `g` meets its contract: refused, or g worked out without tests on rows that are sound.
use borrow.Author.Rules.{rules}
use mathlib.Core.Path.{sym, ◌∙◌}
use Rattle.sets.proofs.Answers.{answers_err, answers_ok}
use Rattle.moves.proofs.Rows.{backward-is}
use Rattle.moves.proofs.Refused.{not_refused}
use Rattle.moves.proofs.g.Goals as goal

pub returns-in_err-test : goal.returns-in_err-test
returns-in_err-test c = search (answers_err, rules)

pub returns : goal.returns
returns c =
    let s = not_refused _ _ _ (sym c.in_ok-test.ensures) in
    answers_ok _ _ _ c.in_ok-test.ensures (c.backward.ensures ∙ backward-is _ _ s.big s.rows_ok _)
