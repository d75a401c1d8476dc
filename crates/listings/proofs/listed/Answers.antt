-- `listed` meets its contract: the listing is measured in no output, and put into one that holds it.
use borrow.Author.Rules.{rules}
use mathlib.Core.Path.{sym, ◌∙◌}
use Rattle.listings.proofs.Lists.{lists_short, lists_whole}
use Rattle.listings.proofs.listed.Goals as goal

pub returns-then-out-length : goal.returns-then-out-length
returns-then-out-length g c bytes says =
    let new = c.new-measured.ensures in
    lists_short c.args.out.now (search rules) (record { output = new.output; place = new.place }) (says _ _ _ c.append.ensures) c.place-length.ensures
    c.if-out-length.true

pub returns : goal.returns
returns g c bytes says =
    let none = c.new-measured.ensures in
    let new = c.new.ensures in
    let put = says _ _ _ c.append-2.ensures in
    let same = sym (put.same_reference ∙ new.same_reference) in
    lists_whole c.args.out.now (search rules) (record { output = none.output; place = none.place }) (says _ _ _ c.append.ensures) c.place-length.ensures
    (search rules) (record { output = new.output; place = new.place }) put (search (same, rules))
