use Rattle.std.proofs.Common.{◌++◌, ◌∷◌, [], length, ap, subst, sym, ◌∙◌, arith, length-append}
use Rattle.ccr_workers.specs.Lists.{Each}
use Rattle.ccr_workers.specs.Settles.{IsChosen, IsOnlyPass}
use Rattle.ccr_workers.specs.Lending.{IsReady, MayLend, Went}
use Rattle.ccr_workers.specs.declared.crew.Hand.{Hand}
use Rattle.ccr_workers.proofs.Lists.{all_none, all_push, each_self, each_then}
use Rattle.ccr_workers.proofs.Growing.{went_self, may_lend}
use Rattle.ccr_workers.proofs.Hiring.{each_lent}
use Rattle.ccr_workers.proofs.settling.hire_all.Goals as goal

pub loop-number-init : goal.loop-number-init
loop-number-init g c = record {
  ready = all_none (λ (worker : Hand g.row.X.Denot g.row.X-Start.Denot g.row.X-Entry.Denot). Each (IsReady g.X.Machine.start (IsChosen g.X.Machine.entry_of g.X.Machine.may_reply g.X.Machine.may_choose g.X.Machine.is_idle)) c.args.cells.now worker.passes.items) c.args.crew.now.items c.requires.none;
  lent = subst (λ n. Each (Went (IsChosen g.X.Machine.entry_of g.X.Machine.may_reply g.X.Machine.may_choose g.X.Machine.is_idle) n 0) c.args.passes.now c.args.passes.now) (sym (ap length c.requires.none))
      (each_self (Went (IsChosen g.X.Machine.entry_of g.X.Machine.may_reply g.X.Machine.may_choose g.X.Machine.is_idle) 0 0) (went_self (IsChosen g.X.Machine.entry_of g.X.Machine.may_reply g.X.Machine.may_choose g.X.Machine.is_idle)) c.args.passes.now);
  count = ap length c.requires.none;
}

pub hire-requires : goal.hire-requires
hire-requires g c =
    each_then (IsOnlyPass g.X.Machine.start) (Went (IsChosen g.X.Machine.entry_of g.X.Machine.may_reply g.X.Machine.may_choose g.X.Machine.is_idle) (length c.loop-number.crew.items) 0) (MayLend g.X.Machine.start)
    (λ cell p q only went. may_lend g.X.Machine.start (IsChosen g.X.Machine.entry_of g.X.Machine.may_reply g.X.Machine.may_choose g.X.Machine.is_idle) (length c.loop-number.crew.items) cell p q (omega (arith, c.loop-number.invariant.count)) only went)
    c.args.cells.now c.args.passes.now c.loop-number.passes c.requires.own c.loop-number.invariant.lent

pub loop-number-preserved : goal.loop-number-preserved
loop-number-preserved g c =
    let grew = c.put.ensures.items ∙ ap (λ ws. ws ++ c.in_ok-worker.worker ∷ []) c.reserve.ensures.items in
    let more = ap length grew ∙ length-append c.loop-number.crew.items (c.in_ok-worker.worker ∷ []) in
    record {
      ready = all_push (λ (worker : Hand g.row.X.Denot g.row.X-Start.Denot g.row.X-Entry.Denot). Each (IsReady g.X.Machine.start (IsChosen g.X.Machine.entry_of g.X.Machine.may_reply g.X.Machine.may_choose g.X.Machine.is_idle)) c.args.cells.now worker.passes.items) c.loop-number.crew.items c.put.new.list.items c.in_ok-worker.worker grew c.loop-number.invariant.ready c.in_ok-worker.ensures.given;
      lent = each_lent g.X.Machine.start (IsChosen g.X.Machine.entry_of g.X.Machine.may_reply g.X.Machine.may_choose g.X.Machine.is_idle) (length c.loop-number.crew.items) (length c.put.new.list.items) c.args.cells.now c.args.passes.now c.loop-number.passes _
          (omega (arith, c.loop-number.invariant.count)) (omega (arith, more)) c.requires.own c.loop-number.invariant.lent c.in_ok-worker.ensures.kept;
      count = omega (arith, more, c.loop-number.invariant.count);
    }
