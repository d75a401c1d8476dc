-- `fresh` meets its contract: a length is wrong, N is out of range, or zeros and three stores make the fresh state.
use borrow.Author.Rules.{rules}
use Rattle.runs.proofs.Cleared.{fresh-7, fresh-err, fresh-ok}
use Rattle.runs.proofs.fresh.Goals as goal

pub returns-then-buf-ne2066 : goal.returns-then-buf-ne2066
returns-then-buf-ne2066 c = search (fresh-7, rules)

pub returns-in_err-all : goal.returns-in_err-all
returns-in_err-all c = search (fresh-err, rules)

pub returns : goal.returns
returns c = fresh-ok _ _ c.if-buf-ne2066.false _ c.in_ok-all.ensures (search rules) _ _ (c.fill.ensures.after (λ y e. e)) c.write_x.ensures
