-- `make_second` meets its contract: refused, or the second table made and copied.
use borrow.Author.Rules.{rules}
use Rattle.edits.proofs.Lent.{lent-big, lent-sound, lent-long}
use Rattle.edits.proofs.make_second.Goals as goal

pub second_of-made-requires : goal.second_of-made-requires
second_of-made-requires c = record { size_bound = search (lent-big, rules); moves_value = search (lent-sound, rules) }

pub copy_from_slice-requires : goal.copy_from_slice-requires
copy_from_slice-requires c = search (lent-long, rules)
