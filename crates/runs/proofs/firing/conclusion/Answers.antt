-- `conclusion` meets its contract. The loop looks for the first j that closes; then k and y_1 decide.
use borrow.Author.Rules.{rules}
use Rattle.runs.proofs.Tested.{look_begins, look_goes, stands_safe, stands_high, stands_in, stands_out}
use Rattle.runs.proofs.firing.conclusion.Goals as goal
use Rattle.runs.proofs.firing.conclusion.Goals.{then-buf-ne1-via-then-buf-ne1, then-buf-ne1-via-else-buf-ne1+then-within-2}

pub loop-j-init : goal.loop-j-init
loop-j-init c = search (look_begins, rules)

pub returns-then-within : goal.returns-then-within
returns-then-within c = search (stands_safe, rules)

pub loop-j-preserved : goal.loop-j-preserved
loop-j-preserved c = search (look_goes, rules)

pub returns-then-buf-ne1 : goal.returns-then-buf-ne1
returns-then-buf-ne1 c =
    elim c.then-buf-ne1.branch [
      | then-buf-ne1-via-then-buf-ne1 w ↦ search (stands_high, rules)
      | then-buf-ne1-via-else-buf-ne1+then-within-2 w ↦ search (stands_in, rules)
    ]

pub returns : goal.returns
returns c = search (stands_out, rules)
