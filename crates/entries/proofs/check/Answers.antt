-- `check` meets its contract: past the soundness test, I and P are four words each, and the table is sound.
use Rattle.std.proofs.Common.{arith}
use borrow.Author.Rules.{rules}
use Rattle.rules.proofs.Ready.{good_by}
use Rattle.sets.proofs.Range.{range_high_by}
use Rattle.sets.proofs.Words.{proper_words}
use Rattle.sets.specs.Sets.{Proper}
use Rattle.entries.proofs.check.Goals as goal

pub passes-requires : goal.passes-requires
passes-requires c =
    let starts : Proper 256 c.args.table.now.model.starts.words = proper_words _ (search rules) (λ j. search rules) in
    let safe : Proper 256 c.args.table.now.model.safe.words = proper_words _ (search rules) (λ j. search rules) in
    (search rules, good_by _ (search (range_high_by, rules)) starts safe (grind arith))
