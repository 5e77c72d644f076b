use denote.Exit.{no}
use denote.Param.Send.{param_send, arg_send}
use Rattle.ccr_cell.specs.Passes.{view_of}
use Rattle.ccr_workers.specs.Settles.{IsIdleAt}
use Rattle.ccr_workers.specs.Lending.{Went, Finished}
use Rattle.ccr_workers.proofs.Lists.{each_second, each_weaker}
use Rattle.ccr_worlds.proofs.Endings.{at_err}
use Rattle.ccr_cells.specs.Opened.{chosen_in, is_idle_in}
use Rattle.ccr_cells.specs.Views.{Pass, Entered, MayBeEntered, anything}
use Rattle.ccr_cells.proofs.Settled.{worlds_settled, worlds_may, worlds_begun}
use Rattle.ccr_cells.proofs.Sending.{numbered_send}
use Rattle.ccr_cells.proofs.Slots.{went_only, went_numbered, either_way, ok_then, err_then}
use Rattle.ccr_cells.proofs.settling.settle_each.Goals as goal

pub returns-in_err-settle_all-clause-only : goal.returns-in_err-settle_all-clause-only
returns-in_err-settle_all-clause-only g c = went_only chosen_in c.args.cells.now c.args.passes.now c.settle_all.new.passes c.requires.only c.settle_all.ensures.went

pub returns-in_err-settle_all-clause-numbered : goal.returns-in_err-settle_all-clause-numbered
returns-in_err-settle_all-clause-numbered g c = went_numbered chosen_in c.args.passes.now c.settle_all.new.passes c.settle_all.ensures.went c.requires.numbered

pub returns-in_err-settle_all-clause-err : goal.returns-in_err-settle_all-clause-err
returns-in_err-settle_all-clause-err g c =
    at_err _ c.from_residual.result (worlds_begun c.args.cells.now c.args.passes.now c.settle_all.new.passes c.requires.only c.settle_all.ensures.went)

pub enter_each-requires-clause-only : goal.enter_each-requires-clause-only
enter_each-requires-clause-only g c = went_only chosen_in c.args.cells.now c.args.passes.now c.settle_all.new.passes c.requires.only c.settle_all.ensures.went

pub enter_each-requires-clause-idle : goal.enter_each-requires-clause-idle
enter_each-requires-clause-idle g c =
    each_second (Finished chosen_in is_idle_in) (λ (p : Pass). IsIdleAt is_idle_in (view_of p)) (λ p q finished. finished.idle) c.args.passes.now c.settle_all.new.passes
    c.in_ok-settle_all.ensures.ok

pub returns-clause-only : goal.returns-clause-only
returns-clause-only g c =
    let alone = went_only chosen_in c.args.cells.now c.args.passes.now c.settle_all.new.passes c.requires.only c.settle_all.ensures.went in
    went_only anything c.args.cells.now c.settle_all.new.passes c.enter_each.new.passes alone
    (either_way _ _ _ c.enter_each.result c.enter_each.ensures.ok c.enter_each.ensures.err
    (each_weaker Entered (Went anything 0 0) (λ p q e. e.went) c.settle_all.new.passes c.enter_each.new.passes)
    (each_weaker MayBeEntered (Went anything 0 0) (λ p q e. e.went) c.settle_all.new.passes c.enter_each.new.passes))

pub returns-clause-numbered : goal.returns-clause-numbered
returns-clause-numbered g c =
    went_numbered anything c.settle_all.new.passes c.enter_each.new.passes
    (either_way _ _ _ c.enter_each.result c.enter_each.ensures.ok c.enter_each.ensures.err
    (each_weaker Entered (Went anything 0 0) (λ p q e. e.went) c.settle_all.new.passes c.enter_each.new.passes)
    (each_weaker MayBeEntered (Went anything 0 0) (λ p q e. e.went) c.settle_all.new.passes c.enter_each.new.passes))
    (went_numbered chosen_in c.args.passes.now c.settle_all.new.passes c.settle_all.ensures.went c.requires.numbered)

pub returns-clause-ok : goal.returns-clause-ok
returns-clause-ok g c =
    ok_then _ _ c.enter_each.result
    (worlds_settled c.args.cells.now c.args.passes.now c.settle_all.new.passes c.enter_each.new.passes c.requires.only c.in_ok-settle_all.ensures.ok) c.enter_each.ensures.ok

pub returns-clause-err : goal.returns-clause-err
returns-clause-err g c =
    err_then _ _ c.enter_each.result
    (worlds_may c.args.cells.now c.args.passes.now c.settle_all.new.passes c.enter_each.new.passes c.requires.only c.in_ok-settle_all.ensures.ok) c.enter_each.ensures.err

pub settle_all-requires-send-W : goal.settle_all-requires-send-W
settle_all-requires-send-W g c κs within =
    param_send 0 _ (arg_send _ no _ (numbered_send _ _ g.P.Chooser g.K.Handed c.type_bounds.send-P c.type_bounds.send-K))
