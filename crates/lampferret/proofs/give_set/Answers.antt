-- `give_set` meets its contract: the set's four words.
use borrow.Author.Rules.{rules}
use Rattle.lampferret.proofs.Giving.{mapped, passed}
use Rattle.lampferret.proofs.give_set.Goals as goal

pub returns : goal.returns
returns c = passed c.give.ensures (mapped (λ x. x.words) _ _ _ (λ x y k. search rules) c.map.ensures.cases)
