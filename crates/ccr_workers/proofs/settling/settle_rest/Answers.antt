use Rattle.std.proofs.Common.{arith}
use Rattle.ccr_workers.specs.Settles.{IsChosen, IsOnlyPass}
use Rattle.ccr_workers.specs.Lending.{Went, Finished}
use Rattle.ccr_workers.proofs.Lists.{none_yet, up_read, up_within, up_inside, up_step, up_done, up_weaker, so_far, each_weaker}
use Rattle.ccr_workers.proofs.Growing.{went_self}
use Rattle.ccr_workers.proofs.settling.settle_rest.Goals as goal

pub loop-at-init : goal.loop-at-init
loop-at-init g c = none_yet (Finished (IsChosen g.X.Machine.entry_of g.X.Machine.may_reply g.X.Machine.may_choose g.X.Machine.is_idle) g.X.Machine.is_idle) c.args.passes.now

pub bounds-passes-at : goal.bounds-passes-at
bounds-passes-at g c =
    up_within (IsOnlyPass g.X.Machine.start) (Finished (IsChosen g.X.Machine.entry_of g.X.Machine.may_reply g.X.Machine.may_choose g.X.Machine.is_idle) g.X.Machine.is_idle) c.args.cells.now c.args.passes.now c.loop-at.passes c.loop-at.at c.loop-at-test.true c.requires c.loop-at.invariant

pub settle_one-requires : goal.settle_one-requires
settle_one-requires g c = record {
  own = (up_read (IsOnlyPass g.X.Machine.start) (Finished (IsChosen g.X.Machine.entry_of g.X.Machine.may_reply g.X.Machine.may_choose g.X.Machine.is_idle) g.X.Machine.is_idle) c.args.cells.now c.args.passes.now c.loop-at.passes c.loop-at.at c.index-cells-at.result c.index-passes-at.result
      c.loop-at-test.true c.index-cells-at.is c.requires c.loop-at.invariant).home.own;
}

pub returns-in_err-settle_one-clause-went : goal.returns-in_err-settle_one-clause-went
returns-in_err-settle_one-clause-went g c =
    so_far (Went (IsChosen g.X.Machine.entry_of g.X.Machine.may_reply g.X.Machine.may_choose g.X.Machine.is_idle) 0 0) (Went (IsChosen g.X.Machine.entry_of g.X.Machine.may_reply g.X.Machine.may_choose g.X.Machine.is_idle) 0 0) (went_self (IsChosen g.X.Machine.entry_of g.X.Machine.may_reply g.X.Machine.may_choose g.X.Machine.is_idle)) (λ x y went. went) _ c.args.passes.now _
    (up_step (Went (IsChosen g.X.Machine.entry_of g.X.Machine.may_reply g.X.Machine.may_choose g.X.Machine.is_idle) 0 0) c.loop-at.at c.args.passes.now c.loop-at.passes c.index-passes-at.result c.settle_one.new.pass
    (up_inside (IsOnlyPass g.X.Machine.start) (Finished (IsChosen g.X.Machine.entry_of g.X.Machine.may_reply g.X.Machine.may_choose g.X.Machine.is_idle) g.X.Machine.is_idle) c.args.cells.now c.args.passes.now c.loop-at.at c.loop-at-test.true c.requires)
    c.settle_one.ensures.went
    (up_weaker (Finished (IsChosen g.X.Machine.entry_of g.X.Machine.may_reply g.X.Machine.may_choose g.X.Machine.is_idle) g.X.Machine.is_idle) (Went (IsChosen g.X.Machine.entry_of g.X.Machine.may_reply g.X.Machine.may_choose g.X.Machine.is_idle) 0 0) (λ x y finished. finished.went) c.loop-at.at c.args.passes.now c.loop-at.passes c.loop-at.invariant))

pub loop-at-preserved : goal.loop-at-preserved
loop-at-preserved g c =
    up_step (Finished (IsChosen g.X.Machine.entry_of g.X.Machine.may_reply g.X.Machine.may_choose g.X.Machine.is_idle) g.X.Machine.is_idle) c.loop-at.at c.args.passes.now c.loop-at.passes c.index-passes-at.result c.settle_one.new.pass
    (up_inside (IsOnlyPass g.X.Machine.start) (Finished (IsChosen g.X.Machine.entry_of g.X.Machine.may_reply g.X.Machine.may_choose g.X.Machine.is_idle) g.X.Machine.is_idle) c.args.cells.now c.args.passes.now c.loop-at.at c.loop-at-test.true c.requires)
    (record { went = c.settle_one.ensures.went; idle = c.in_ok-settle_one.ensures.idle }) c.loop-at.invariant

pub returns-clause-went : goal.returns-clause-went
returns-clause-went g c =
    each_weaker (Finished (IsChosen g.X.Machine.entry_of g.X.Machine.may_reply g.X.Machine.may_choose g.X.Machine.is_idle) g.X.Machine.is_idle) (Went (IsChosen g.X.Machine.entry_of g.X.Machine.may_reply g.X.Machine.may_choose g.X.Machine.is_idle) 0 0) (λ x y finished. finished.went) c.args.passes.now c.loop-at.passes
    (up_done (IsOnlyPass g.X.Machine.start) (Finished (IsChosen g.X.Machine.entry_of g.X.Machine.may_reply g.X.Machine.may_choose g.X.Machine.is_idle) g.X.Machine.is_idle) c.args.cells.now c.args.passes.now c.loop-at.passes c.loop-at.at (omega (arith, c.loop-at-test.false)) c.requires c.loop-at.invariant)

pub returns-clause-ok : goal.returns-clause-ok
returns-clause-ok g c =
    up_done (IsOnlyPass g.X.Machine.start) (Finished (IsChosen g.X.Machine.entry_of g.X.Machine.may_reply g.X.Machine.may_choose g.X.Machine.is_idle) g.X.Machine.is_idle) c.args.cells.now c.args.passes.now c.loop-at.passes c.loop-at.at (omega (arith, c.loop-at-test.false)) c.requires c.loop-at.invariant
