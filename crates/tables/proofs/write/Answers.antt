-- `write` meets its contract: refused, or the file put at the front of an output that has room for it.
use borrow.Author.Rules.{rules}
use mathlib.Core.Path.{sym, ◌∙◌}
use Rattle.tables.proofs.Writing.{wrote_refused, wrote_file}
use Rattle.tables.proofs.write.Goals as goal

pub returns-in_err-test : goal.returns-in_err-test
returns-in_err-test c = wrote_refused _ _ _ c.test.ensures _ c.in_err-test.was _ c.from_residual.ensures.1

pub returns : goal.returns
returns c =
    let new = c.new-output.ensures in
    let put = c.put_file.ensures in
    let same = sym (put.same_reference ∙ new.same_reference) in
    wrote_file _ _ _ c.test.ensures c.in_ok-test.was (search rules) (record { output = new.output; place = new.place }) put _ c.place.ensures _
    (search (same, rules))
