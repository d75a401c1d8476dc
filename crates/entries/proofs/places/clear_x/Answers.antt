-- `clear_x` meets its contract: every x from n on is tested; those below are held.
use Prim.Native.Nat.{◌+◌, ◌*◌}
use Rattle.std.proofs.Common.{rules}
use borrow.Author.Tests.{tests}
use Rattle.rules.specs.Buffer.{decode, clear_x}
use Rattle.sets.specs.Sets.{sound, quad}
use Rattle.sets.proofs.AllIn.{all_in}
use Rattle.entries.proofs.places.clear_x.Goals as goal

pub returns : goal.returns
unfolding decode clear_x
returns c =
    all_in (λ j. sound 0 (quad c.args.held.now.buf.now (2 + 4 * j))) _ _ c.n.result _ _ _ (search rules) c.all.ensures.ran
    (λ x b q k. search (rules, tests)) (λ i l. search (rules, tests)) (λ i a l. search (rules, tests))
