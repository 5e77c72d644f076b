use Rattle.std.proofs.Common.{subst, sym, arith}
use Rattle.ccr_workers.specs.Settles.{IsChosen}
use Rattle.ccr_workers.specs.Lending.{IsReady}
use Rattle.ccr_workers.proofs.Lists.{each_length, each_read, each_step}
use Rattle.ccr_workers.proofs.Growing.{ready_went}
use Rattle.ccr_workers.proofs.crew.settle_at.Goals as goal

pub index_mut-requires : goal.index_mut-requires
index_mut-requires g c = let long = each_length (IsReady g.X.Machine.start (IsChosen g.X.Machine.entry_of g.X.Machine.may_reply g.X.Machine.may_choose g.X.Machine.is_idle)) c.args.cells.now c.args.passes.now.items c.requires.ready in omega (arith, long, c.requires.within)

pub settle_one-requires : goal.settle_one-requires
settle_one-requires g c = record {
  own = (subst (λ p. IsReady g.X.Machine.start (IsChosen g.X.Machine.entry_of g.X.Machine.may_reply g.X.Machine.may_choose g.X.Machine.is_idle) c.index-cells-at.result p) (sym c.index_mut.ensures.value)
      (each_read (IsReady g.X.Machine.start (IsChosen g.X.Machine.entry_of g.X.Machine.may_reply g.X.Machine.may_choose g.X.Machine.is_idle)) c.args.cells.now c.args.passes.now.items c.args.at c.index-cells-at.result c.index_mut.result.now c.requires.within c.index-cells-at.is c.requires.ready)).home.own;
}

pub returns : goal.returns
returns g c =
    let ready = subst (λ p. IsReady g.X.Machine.start (IsChosen g.X.Machine.entry_of g.X.Machine.may_reply g.X.Machine.may_choose g.X.Machine.is_idle) c.index-cells-at.result p) (sym c.index_mut.ensures.value)
    (each_read (IsReady g.X.Machine.start (IsChosen g.X.Machine.entry_of g.X.Machine.may_reply g.X.Machine.may_choose g.X.Machine.is_idle)) c.args.cells.now c.args.passes.now.items c.args.at c.index-cells-at.result c.index_mut.result.now c.requires.within c.index-cells-at.is c.requires.ready) in
    each_step (IsReady g.X.Machine.start (IsChosen g.X.Machine.entry_of g.X.Machine.may_reply g.X.Machine.may_choose g.X.Machine.is_idle)) c.args.cells.now c.args.passes.now.items c.args.at c.index-cells-at.result c.settle_one.new.pass c.requires.within c.index-cells-at.is
    (ready_went g.X.Machine.start (IsChosen g.X.Machine.entry_of g.X.Machine.may_reply g.X.Machine.may_choose g.X.Machine.is_idle) c.index-cells-at.result c.index_mut.result.now c.settle_one.new.pass ready c.settle_one.ensures.went) c.requires.ready
