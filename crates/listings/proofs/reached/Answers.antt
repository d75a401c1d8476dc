-- `reached` meets its contract: a refusal is answered, and without one the walk is the front of the lent walk.
use borrow.Author.Rules.{rules}
use Rattle.std.proofs.lemmas.Result.{err_from_is_err_and}
use Rattle.listings.specs.Listing.{reached_wanted}
use Rattle.listings.proofs.Lists.{lists_refused, lists-taken}
use Rattle.listings.proofs.Refusals.{states-held}
use Rattle.listings.proofs.reached.Goals as goal

pub returns-in_err-test : goal.returns-in_err-test
unfolding reached_wanted
returns-in_err-test c = let p = err_from_is_err_and c.from_residual.result c.from_residual.ensures.1 in rw (p.1, p.2) (search (lists_refused, rules))

pub slice_bounds-counted-end : goal.slice_bounds-counted-end
slice_bounds-counted-end c = search (states-held, rules)

pub returns : goal.returns
unfolding reached_wanted
returns c = lists-taken _ _ _ _ _ (c.in_ok-test.ensures) (search rules)
