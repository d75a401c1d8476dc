-- `Reader::signed` meets its contract: two bytes, the lower first, read as signed.
use borrow.Author.Rules.{rules}
use Rattle.tables.specs.Format.{bits16}
use Rattle.tables.proofs.Signed.{signed-bytes}
use Rattle.tables.proofs.Reader.signed.Goals as goal

pub returns : goal.returns
unfolding bits16
returns c = search (signed-bytes, rules)
