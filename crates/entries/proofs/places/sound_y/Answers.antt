-- `sound_y` meets its contract: every held y is tested; those below k are not held.
use Rattle.std.proofs.Common.{rules}
use borrow.Author.Tests.{tests}
use Rattle.rules.specs.Buffer.{decode, held}
use Rattle.sets.specs.Sets.{sound}
use Rattle.sets.proofs.AllIn.{all_in}
use Rattle.entries.proofs.places.sound_y.Goals as goal

pub returns : goal.returns
unfolding held
returns c =
    all_in (λ j. sound c.args.size ((decode c.args.held.now.buf.now).y j)) _ _ c.k.result _ _ _ (search rules) c.all.ensures.ran
    (λ x b q k. search (rules, tests)) (λ i l. search (rules, tests)) (λ i a l. search (rules, tests))
