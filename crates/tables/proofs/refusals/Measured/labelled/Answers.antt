-- `refusals::Measured::labelled` meets its contract: every state is tested.
use Rattle.std.proofs.Common.{rules}
use borrow.Author.Tests.{tests}
use mathlib.Core.Path.{ap, ◌∙◌}
use Prim.Native.Nat.{ℕ}
use Rattle.sets.proofs.AllIn.{all_below}
use Rattle.sets.specs.Search.{all}
use Rattle.tables.specs.Control.{label_at, labelled}
use Rattle.tables.proofs.refusals.Measured.labelled.Goals as goal

pub returns : goal.returns
unfolding labelled
returns c =
    all_below _ _ _ (search rules) c.all.ensures.ran (λ x b q k. search (rules, tests))
    ∙ ap (λ (n : ℕ). all n (label_at c.args.self.now.control.angles.now c.args.self.now.control.modes.now)) c.from-size.ensures
