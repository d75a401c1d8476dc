-- `counts::count` meets its contract: each section that was taken leaves the rest of the file to say.
use borrow.Author.Rules.{rules}
use mathlib.Core.Path.{ap, ◌∙◌}
use Rattle.tables.specs.Inner.{said_counts}
use Rattle.tables.proofs.Taking.{err_is}
use Rattle.tables.proofs.Counting.{stop-1, stop-2, stop-3, stop-4, stop-5, all-taken}
use Rattle.tables.proofs.counts.count.Goals as goal

pub returns-in_err-states : goal.returns-in_err-states
returns-in_err-states c = ap said_counts (err_is c.from_residual.ensures.1) ∙ stop-1 _ _ c.section_of.ensures _ c.in_err-states.was

pub returns-in_err-starts : goal.returns-in_err-starts
returns-in_err-starts c =
    ap said_counts (err_is c.from_residual-in_err-starts.ensures.1)
    ∙ stop-2 _ _ c.section_of.ensures _ c.in_ok-states.was _ c.section_of-2.ensures _ c.in_err-starts.was

pub returns-in_err-safe : goal.returns-in_err-safe
returns-in_err-safe c =
    ap said_counts (err_is c.from_residual-in_err-safe.ensures.1)
    ∙ stop-3 _ _ c.section_of.ensures _ c.in_ok-states.was _ c.section_of-2.ensures _ c.in_ok-starts.was _ c.section_of-3.ensures _ c.in_err-safe.was

pub returns-in_err-moves : goal.returns-in_err-moves
returns-in_err-moves c =
    ap said_counts (err_is c.from_residual-in_err-moves.ensures.1)
    ∙ stop-4 _ _ c.section_of.ensures _ c.in_ok-states.was _ c.section_of-2.ensures _ c.in_ok-starts.was _ c.section_of-3.ensures _ c.in_ok-safe.was
    _ c.section_of-4.ensures _ c.in_err-moves.was

pub returns-then-moves-file : goal.returns-then-moves-file
returns-then-moves-file c =
    rw c.new.ensures
    (stop-5 _ _ c.section_of.ensures _ c.in_ok-states.was _ c.section_of-2.ensures _ c.in_ok-starts.was _ c.section_of-3.ensures _ c.in_ok-safe.was
    _ c.section_of-4.ensures _ c.in_ok-moves.was (search rules))

pub returns : goal.returns
returns c =
    all-taken _ _ c.section_of.ensures _ c.in_ok-states.was _ c.section_of-2.ensures _ c.in_ok-starts.was _ c.section_of-3.ensures _ c.in_ok-safe.was
    _ c.section_of-4.ensures _ c.in_ok-moves.was (search rules)
