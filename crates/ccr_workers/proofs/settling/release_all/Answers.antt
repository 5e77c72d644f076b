use Rattle.std.proofs.Common.{◌-◌, ◌∷◌, [], length, ap, subst, ◌∙◌, arith, length-append}
use Rattle.ccr_workers.specs.Lists.{Each}
use Rattle.ccr_workers.specs.Settles.{IsChosen, IsHome}
use Rattle.ccr_workers.specs.Lending.{IsReady, Went}
use Rattle.ccr_workers.specs.declared.crew.Hand.{Hand}
use Rattle.ccr_workers.proofs.Lists.{all_front, each_self, each_then}
use Rattle.ccr_workers.proofs.Growing.{went_self, home_went}
use Rattle.ccr_workers.proofs.Hiring.{each_back}
use Rattle.ccr_workers.proofs.settling.release_all.Goals as goal

pub loop-worker-init : goal.loop-worker-init
loop-worker-init g c = record {
  ready = c.requires.ready;
  fewer = omega arith;
  back = subst (λ n. Each (Went (IsChosen g.X.Machine.entry_of g.X.Machine.may_reply g.X.Machine.may_choose g.X.Machine.is_idle) 0 n) c.args.passes.now c.args.passes.now) (omega arith)
      (each_self (Went (IsChosen g.X.Machine.entry_of g.X.Machine.may_reply g.X.Machine.may_choose g.X.Machine.is_idle) 0 0) (went_self (IsChosen g.X.Machine.entry_of g.X.Machine.may_reply g.X.Machine.may_choose g.X.Machine.is_idle)) c.args.passes.now);
}

pub release-requires-clause-own : goal.release-requires-clause-own
release-requires-clause-own g c =
    each_then (IsHome g.X.Machine.start) (Went (IsChosen g.X.Machine.entry_of g.X.Machine.may_reply g.X.Machine.may_choose g.X.Machine.is_idle) 0 (length c.args.crew.items - length c.loop-worker.left.items)) (IsHome g.X.Machine.start)
    (λ cell p q home went. home_went g.X.Machine.start (IsChosen g.X.Machine.entry_of g.X.Machine.may_reply g.X.Machine.may_choose g.X.Machine.is_idle) 0 (length c.args.crew.items - length c.loop-worker.left.items) cell p q home went)
    c.args.cells.now c.args.passes.now c.loop-worker.passes c.requires.own c.loop-worker.invariant.back

pub loop-worker-preserved : goal.loop-worker-preserved
loop-worker-preserved g c =
    let less = ap length c.in-Some.ensures.items ∙ length-append c.pop.new.self.items (c.in-Some.worker ∷ []) in
    record {
      ready = (all_front (λ (worker : Hand g.row.X.Denot g.row.X-Start.Denot g.row.X-Entry.Denot). Each (IsReady g.X.Machine.start (IsChosen g.X.Machine.entry_of g.X.Machine.may_reply g.X.Machine.may_choose g.X.Machine.is_idle)) c.args.cells.now worker.passes.items) c.pop.new.self.items c.loop-worker.left.items c.in-Some.worker c.in-Some.ensures.items c.loop-worker.invariant.ready).0;
      fewer = omega (arith, less, c.loop-worker.invariant.fewer);
      back = each_back (IsChosen g.X.Machine.entry_of g.X.Machine.may_reply g.X.Machine.may_choose g.X.Machine.is_idle) (length c.args.crew.items - length c.loop-worker.left.items) (length c.args.crew.items - length c.pop.new.self.items) c.args.passes.now c.loop-worker.passes _
          (omega (arith, less, c.loop-worker.invariant.fewer)) c.loop-worker.invariant.back c.release.ensures;
    }
