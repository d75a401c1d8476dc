-- `advance` meets its contract. The loop: the whole run is the run from here, with what it has done already.
use borrow.Author.Rules.{rules}
use native.Mathlib.Omega.{arith}
use Rattle.moves.specs.Models.{as_table}
use Rattle.rules.specs.Buffer.{decode}
use Rattle.rules.specs.Runs.{run}
use Rattle.runs.proofs.Runs.{Turning, going, end_spent, end_concluded, turning, never_full, goes_on}
use Rattle.runs.proofs.Steps.{step_few}
use Rattle.runs.specs.Hints.{hints_at}
use Rattle.runs.proofs.search.advance.Goals as goal
use Rattle.runs.proofs.search.advance.Goals.{Else-not-is_open}
use Rattle.runs.proofs.search.advance.Goals.{then-fired-budget-via-then-fired-budget, then-fired-budget-via-else-fired-budget+then-not-is_open}

-- the run is open: a rule is fired in this turn
turn : (c : Else-not-is_open)
    → let t = as_table c.args.table.now in
    Turning t c.args.hints.now c.args.budget (run t c.args.budget (hints_at c.args.hints.now 0) (decode c.args.buf.now))
    c.loop-fired.buf c.loop-fired.fired c.loop-fired.taken c.loop-fired.used
turn c =
    turning c.loop-fired.invariant.running _ c.conclusion-standing.ensures c.if-fired-budget.false c.is_open.ensures c.if-not-is_open.false

pub loop-fired-init : goal.loop-fired-init
loop-fired-init c = search (going, rules)

pub returns-then-fired-budget : goal.returns-then-fired-budget
returns-then-fired-budget c =
    let running = c.loop-fired.invariant.running in
    elim c.then-fired-budget.branch [
      | then-fired-budget-via-then-fired-budget w ↦
          end_spent _ _ _ _ _ _ _ _ running _ c.conclusion-standing.ensures w.if-fired-budget.true
      | then-fired-budget-via-else-fired-budget+then-not-is_open w ↦
          end_concluded _ _ _ _ _ _ _ _ running _ c.conclusion-standing.ensures _ w.is_open.ensures w.if-not-is_open.true
    ]

pub due-due-requires : goal.due-due-requires
due-due-requires c = ((turn (goal.at.due-due-requires c).Else-not-is_open).running.ready, c.loop-fired.invariant.kept)

pub returns-then-lacks_room : goal.returns-then-lacks_room
returns-then-lacks_room c =
    never_full (turn (goal.at.returns-then-lacks_room c).Else-not-is_open) c.due-due.ensures.due c.lacks_room.ensures c.if-lacks_room.true

pub step-took-requires : goal.step-took-requires
step-took-requires c =
    let now = turn (goal.at.step-took-requires c).Else-not-is_open in
    (record { ready = now.running.ready; due = c.due-due.ensures.due; house = c.due-due.ensures.house }, now.opened)

pub overflow_add-fired : goal.overflow_add-fired
overflow_add-fired c = omega (arith, (turn (goal.at.overflow_add-fired c).Else-not-is_open).more, c.ranges.budget)

-- the rule is fired: at most one hint was taken
pub overflow_add-taken : goal.overflow_add-taken
overflow_add-taken c =
    let now = turn (goal.at.overflow_add-taken c).Else-not-is_open in
    omega (arith, step_few _ _ _ _ _ _ _ _ _ c.step-took.ensures, now.more, now.running, c.ranges.budget)

pub overflow_add-used : goal.overflow_add-used
overflow_add-used c =
    let now = turn (goal.at.overflow_add-used c).Else-not-is_open in
    omega (arith, step_few _ _ _ _ _ _ _ _ _ c.step-took.ensures, now.more, now.running, c.ranges.budget)

pub loop-fired-smaller : goal.loop-fired-smaller
loop-fired-smaller c = omega (arith, (turn (goal.at.loop-fired-smaller c).Else-not-is_open).more)

pub loop-fired-preserved : goal.loop-fired-preserved
loop-fired-preserved c =
    goes_on (turn (goal.at.loop-fired-preserved c).Else-not-is_open) (λ i. (c.type_inv.hints i).fits) c.due-due.ensures.kept c.step-took.ensures
