use Rattle.std.proofs.Common.{arith}
use Rattle.ccr_workers.specs.Settles.{IsOnlyPass}
use Rattle.ccr_workers.proofs.Lists.{none_yet, up_read, up_within, up_inside, up_step, up_done, up_weaker, so_far}
use Rattle.ccr_worlds.proofs.Endings.{at_err}
use Rattle.ccr_cells.specs.Opened.{opening_of}
use Rattle.ccr_cells.specs.Views.{Entered, MayBeEntered}
use Rattle.ccr_cells.proofs.Settled.{IsReadyToEnter, ready_to_enter, entered_may, stays_entered}
use Rattle.ccr_cells.proofs.settling.enter_each.Goals as goal

pub loop-at-init : goal.loop-at-init
loop-at-init g c = none_yet Entered c.args.passes.now

pub bounds-passes-at : goal.bounds-passes-at
bounds-passes-at g c =
    up_within (IsOnlyPass opening_of) Entered c.args.cells.now c.args.passes.now c.loop-at.passes c.loop-at.at c.loop-at-test.true c.requires.only c.loop-at.invariant

pub enter-requires-clause-only : goal.enter-requires-clause-only
enter-requires-clause-only g c =
    up_read (IsOnlyPass opening_of) Entered c.args.cells.now c.args.passes.now c.loop-at.passes c.loop-at.at c.index-cells-at.result c.index-passes-at.result c.loop-at-test.true
    c.index-cells-at.is c.requires.only c.loop-at.invariant

pub enter-requires-clause-idle : goal.enter-requires-clause-idle
enter-requires-clause-idle g c =
    (up_read IsReadyToEnter Entered c.args.cells.now c.args.passes.now c.loop-at.passes c.loop-at.at c.index-cells-at.result c.index-passes-at.result c.loop-at-test.true
    c.index-cells-at.is (ready_to_enter c.args.cells.now c.args.passes.now c.requires.only c.requires.idle) c.loop-at.invariant).1

pub returns-in_err-enter-clause-err : goal.returns-in_err-enter-clause-err
returns-in_err-enter-clause-err g c =
    at_err _ c.from_residual.result
    (so_far MayBeEntered MayBeEntered stays_entered (λ x y e. e) _ c.args.passes.now _
    (up_step MayBeEntered c.loop-at.at c.args.passes.now c.loop-at.passes c.index-passes-at.result c.enter.new.pass
    (up_inside (IsOnlyPass opening_of) Entered c.args.cells.now c.args.passes.now c.loop-at.at c.loop-at-test.true c.requires.only)
    c.in_err-enter.ensures.err
    (up_weaker Entered MayBeEntered entered_may c.loop-at.at c.args.passes.now c.loop-at.passes c.loop-at.invariant)))

pub loop-at-preserved : goal.loop-at-preserved
loop-at-preserved g c =
    up_step Entered c.loop-at.at c.args.passes.now c.loop-at.passes c.index-passes-at.result c.enter.new.pass
    (up_inside (IsOnlyPass opening_of) Entered c.args.cells.now c.args.passes.now c.loop-at.at c.loop-at-test.true c.requires.only)
    c.in_ok-enter.ensures.ok c.loop-at.invariant

pub returns-clause-ok : goal.returns-clause-ok
returns-clause-ok g c =
    up_done (IsOnlyPass opening_of) Entered c.args.cells.now c.args.passes.now c.loop-at.passes c.loop-at.at (omega (arith, c.loop-at-test.false)) c.requires.only c.loop-at.invariant
