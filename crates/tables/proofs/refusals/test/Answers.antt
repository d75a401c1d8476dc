-- `refusals::test` meets its contract: test by test, in the order of the definition.
use borrow.Author.Rules.{rules}
use mathlib.Core.Bool.{true}
use mathlib.Core.Path.{◌≡◌, sym, ◌∙◌}
use Rattle.answers.specs.Refusals.{first_failing}
use Rattle.answers.proofs.Order.{refuses, goes_on}
use Rattle.sets.specs.Sets.{in_range}
use Rattle.tables.specs.Control.{sized, write_refusal}
use Rattle.tables.proofs.Files.{sized-lengths}
use Rattle.tables.proofs.Writing.{range_few, refuses_more, goes_on_most, output_short, output_long}
use Rattle.tables.proofs.refusals.test.Goals as goal
use Rattle.tables.proofs.refusals.test.Goals.{then-not-is_sound-via-then-not-is_sound, then-not-is_sound-via-else-not-is_sound+then-not-clear_past}

pub returns-then-not-sized : goal.returns-then-not-sized
unfolding write_refusal
returns-then-not-sized c = search (refuses, rules)

pub returns-then-not-in_range : goal.returns-then-not-in_range
unfolding write_refusal
returns-then-not-in_range c = search (goes_on, refuses, rules)

pub invariant_of-measured : goal.invariant_of-measured
invariant_of-measured c = search (sized-lengths, range_few, rules)

pub returns-then-not-is_sound : goal.returns-then-not-is_sound
unfolding write_refusal first_failing
returns-then-not-is_sound c =
    let sized : sized _ _ _ ≡ true = sym c.sized.ensures ∙ c.if-not-sized.false in
    let range : in_range _ ≡ true = sym c.in_range.ensures ∙ c.if-not-in_range.false in
    elim c.then-not-is_sound.branch [
      | then-not-is_sound-via-then-not-is_sound w ↦ rw (sized, range, sym c.is_sound.ensures ∙ w.if-not-is_sound.true)
      | then-not-is_sound-via-else-not-is_sound+then-not-clear_past w ↦
          rw (sized, range, sym c.is_sound.ensures ∙ w.if-not-is_sound.false, sym w.clear_past.ensures ∙ w.if-not-clear_past.true)
    ]

pub returns-then-not-labelled : goal.returns-then-not-labelled
unfolding write_refusal
returns-then-not-labelled c = search (goes_on, refuses, rules)

pub returns-then-k-gt4096 : goal.returns-then-k-gt4096
unfolding write_refusal
returns-then-k-gt4096 c = search (goes_on, refuses_more, rules) depth 12

pub returns-then-room-file_length : goal.returns-then-room-file_length
unfolding write_refusal
returns-then-room-file_length c = search (goes_on, goes_on_most, output_short, rules) depth 12

pub returns : goal.returns
unfolding write_refusal
returns c = search (goes_on, goes_on_most, output_long, rules) depth 12
