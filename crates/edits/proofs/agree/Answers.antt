-- `agree` meets its contract: there is one table that agrees, the one made.
use borrow.Author.Rules.{rules}
use Rattle.edits.proofs.Lent.{lent-big, lent-sound, lent-long}
use Rattle.edits.proofs.Turning.{tables_agree}
use Rattle.edits.proofs.agree.Goals as goal

pub second_of-requires : goal.second_of-requires
second_of-requires c = record { size_bound = search (lent-big, rules); moves_value = search (lent-sound, rules) }

pub returns : goal.returns
returns c = search (tables_agree, lent-long, rules)
