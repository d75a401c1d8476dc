-- `entry::Section::entry` meets its contract: what stands there by the section's kind, a refusal with its place.
use mathlib.Core.Logic.{inl, inr}
use mathlib.Core.Path.{ap, ◌∙◌}
use Rattle.tables.specs.Format.{entry}
use Rattle.tables.specs.Inner.{said_at}
use Rattle.tables.proofs.entry.Section.entry.Goals as goal
use Rattle.tables.proofs.entry.Section.entry.Goals.{in-States, in-Starts, in-Moves}

pub returns : goal.returns
unfolding entry
returns c =
    elim c.match-self.branch [
      | in-States w ↦ c.placed.ensures ∙ ap (said_at c.args.reader.now.at) w.number-is ∙ w.labels-number.ensures ∙ rw w.in-States.is
      | in-Starts w ↦
          c.placed.ensures ∙ ap (said_at c.args.reader.now.at) w.number-is ∙ w.number-number.ensures ∙ elim w.in-Starts.is [ inl e ↦ rw e | inr e ↦ rw e ]
      | in-Moves w ↦ c.placed.ensures ∙ ap (said_at c.args.reader.now.at) w.number-is ∙ w.pair-number.ensures ∙ rw w.in-Moves.is
    ]
