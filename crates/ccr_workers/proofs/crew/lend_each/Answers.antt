use Rattle.std.proofs.Common.{◌∷◌, [], length, ap, subst, sym, arith, length-append}
use Rattle.ccr_workers.specs.Lists.{Fronts}
use Rattle.ccr_workers.specs.Settles.{IsChosen}
use Rattle.ccr_workers.specs.Lending.{IsReady, MayLend, Halved}
use Rattle.ccr_workers.proofs.Lists.{none_yet, up_read, up_within, up_inside, up_step, up_done, fronts_step, fronts_short, fronts_whole}
use Rattle.ccr_workers.proofs.Growing.{ready_given, halved_at}
use Rattle.ccr_workers.proofs.crew.lend_each.Goals as goal

pub loop-at-init : goal.loop-at-init
loop-at-init g c = record {
  given = subst (λ l. Fronts (IsReady g.X.Machine.start (IsChosen g.X.Machine.entry_of g.X.Machine.may_reply g.X.Machine.may_choose g.X.Machine.is_idle)) c.args.cells.now l) (sym c.requires.empty) tt;
  count = ap length c.requires.empty;
  kept = none_yet Halved c.args.passes.now;
  room = c.requires.room;
}

pub bounds-passes-at : goal.bounds-passes-at
bounds-passes-at g c =
    up_within (MayLend g.X.Machine.start) Halved c.args.cells.now c.args.passes.now c.loop-at.passes c.loop-at.at c.loop-at-test.true c.requires.lend c.loop-at.invariant.kept

pub split-requires-clause-own : goal.split-requires-clause-own
split-requires-clause-own g c =
    (up_read (MayLend g.X.Machine.start) Halved c.args.cells.now c.args.passes.now c.loop-at.passes c.loop-at.at c.index-cells-at.result c.index-passes-at.result c.loop-at-test.true
    c.index-cells-at.is c.requires.lend c.loop-at.invariant.kept).home.own

pub split-requires-clause-two : goal.split-requires-clause-two
split-requires-clause-two g c =
    (up_read (MayLend g.X.Machine.start) Halved c.args.cells.now c.args.passes.now c.loop-at.passes c.loop-at.at c.index-cells-at.result c.index-passes-at.result c.loop-at-test.true
    c.index-cells-at.is c.requires.lend c.loop-at.invariant.kept).two

pub loop-at-preserved : goal.loop-at-preserved
loop-at-preserved g c =
    let lends = up_read (MayLend g.X.Machine.start) Halved c.args.cells.now c.args.passes.now c.loop-at.passes c.loop-at.at c.index-cells-at.result c.index-passes-at.result c.loop-at-test.true
    c.index-cells-at.is c.requires.lend c.loop-at.invariant.kept in
    record {
      given = fronts_step (IsReady g.X.Machine.start (IsChosen g.X.Machine.entry_of g.X.Machine.may_reply g.X.Machine.may_choose g.X.Machine.is_idle)) c.args.cells.now c.loop-at.given.items c.put.new.list.items c.loop-at.at c.index-cells-at.result c.split.result
          c.loop-at.invariant.count c.loop-at-test.true c.index-cells-at.is
          (ready_given g.X.Machine.start (IsChosen g.X.Machine.entry_of g.X.Machine.may_reply g.X.Machine.may_choose g.X.Machine.is_idle) c.index-cells-at.result _ c.split.result lends c.split.ensures.own.1 c.split.ensures.given)
          c.put.ensures.items c.loop-at.invariant.given;
      count = omega (arith, ap length c.put.ensures.items, length-append c.loop-at.given.items (c.split.result ∷ []), c.loop-at.invariant.count);
      kept = up_step Halved c.loop-at.at c.args.passes.now c.loop-at.passes c.index-passes-at.result c.split.new.pass
          (up_inside (MayLend g.X.Machine.start) Halved c.args.cells.now c.args.passes.now c.loop-at.at c.loop-at-test.true c.requires.lend)
          (halved_at g.X.Machine.start (IsChosen g.X.Machine.entry_of g.X.Machine.may_reply g.X.Machine.may_choose g.X.Machine.is_idle) c.index-cells-at.result _ c.split.new.pass lends c.split.ensures.own.0 c.split.ensures.kept)
          c.loop-at.invariant.kept;
      room = omega (arith, c.loop-at.invariant.room, c.put.ensures.room);
    }

pub returns-clause-given : goal.returns-clause-given
returns-clause-given g c =
    let short = fronts_short (IsReady g.X.Machine.start (IsChosen g.X.Machine.entry_of g.X.Machine.may_reply g.X.Machine.may_choose g.X.Machine.is_idle)) c.args.cells.now c.loop-at.given.items c.loop-at.invariant.given in
    fronts_whole (IsReady g.X.Machine.start (IsChosen g.X.Machine.entry_of g.X.Machine.may_reply g.X.Machine.may_choose g.X.Machine.is_idle)) c.args.cells.now c.loop-at.given.items (omega (arith, short, c.loop-at.invariant.count, c.loop-at-test.false)) c.loop-at.invariant.given

pub returns-clause-kept : goal.returns-clause-kept
returns-clause-kept g c =
    up_done (MayLend g.X.Machine.start) Halved c.args.cells.now c.args.passes.now c.loop-at.passes c.loop-at.at (omega (arith, c.loop-at-test.false)) c.requires.lend c.loop-at.invariant.kept
