use Rattle.std.proofs.Common.{rules, ap, subst, sym, ◌∙◌}
use Rattle.std.specs.Vec.Iter.{into_iter_items}
use Rattle.std.proofs.lemmas.List.{nil_from_length}
use Rattle.ccr_workers.specs.Lists.{Each}
use Rattle.ccr_workers.specs.Settles.{IsChosen, IsHome}
use Rattle.ccr_workers.specs.Lending.{IsReady, Went}
use Rattle.ccr_workers.proofs.Lists.{none_yet, up_read, up_within, up_inside, up_step, up_done, rest_at, rest_none}
use Rattle.ccr_workers.proofs.Growing.{joined_went}
use Rattle.ccr_workers.proofs.crew.release.Goals as goal

pub loop-pass-init : goal.loop-pass-init
loop-pass-init g c = record {
  rest = subst (λ l. Each (IsReady g.X.Machine.start (IsChosen g.X.Machine.entry_of g.X.Machine.may_reply g.X.Machine.may_choose g.X.Machine.is_idle)) c.args.cells.now l) (search rules) c.requires.given;
  joined = none_yet (Went (IsChosen g.X.Machine.entry_of g.X.Machine.may_reply g.X.Machine.may_choose g.X.Machine.is_idle) 0 1) c.args.passes.now;
}

pub bounds-passes-at : goal.bounds-passes-at
bounds-passes-at g c =
    let rest = rest_at (IsReady g.X.Machine.start (IsChosen g.X.Machine.entry_of g.X.Machine.may_reply g.X.Machine.may_choose g.X.Machine.is_idle)) c.args.cells.now (into_iter_items c.loop-pass.pass-iterator) (into_iter_items c.next.new.self) c.loop-pass.at c.index-cells-at.result c.in-Some.pass
    c.in-Some.ensures.steps.0 c.loop-pass.invariant.rest in
    up_within (IsHome g.X.Machine.start) (Went (IsChosen g.X.Machine.entry_of g.X.Machine.may_reply g.X.Machine.may_choose g.X.Machine.is_idle) 0 1) c.args.cells.now c.args.passes.now c.loop-pass.passes c.loop-pass.at rest.0 c.requires.own c.loop-pass.invariant.joined

pub join-requires-clause-own : goal.join-requires-clause-own
join-requires-clause-own g c =
    let rest = rest_at (IsReady g.X.Machine.start (IsChosen g.X.Machine.entry_of g.X.Machine.may_reply g.X.Machine.may_choose g.X.Machine.is_idle)) c.args.cells.now (into_iter_items c.loop-pass.pass-iterator) (into_iter_items c.next.new.self) c.loop-pass.at c.index-cells-at.result c.in-Some.pass
    c.in-Some.ensures.steps.0 c.loop-pass.invariant.rest in
    (up_read (IsHome g.X.Machine.start) (Went (IsChosen g.X.Machine.entry_of g.X.Machine.may_reply g.X.Machine.may_choose g.X.Machine.is_idle) 0 1) c.args.cells.now c.args.passes.now c.loop-pass.passes c.loop-pass.at c.index-cells-at.result c.index-passes-at.result rest.0
    c.index-cells-at.is c.requires.own c.loop-pass.invariant.joined).own

pub join-requires-clause-other : goal.join-requires-clause-other
join-requires-clause-other g c =
    let rest = rest_at (IsReady g.X.Machine.start (IsChosen g.X.Machine.entry_of g.X.Machine.may_reply g.X.Machine.may_choose g.X.Machine.is_idle)) c.args.cells.now (into_iter_items c.loop-pass.pass-iterator) (into_iter_items c.next.new.self) c.loop-pass.at c.index-cells-at.result c.in-Some.pass
    c.in-Some.ensures.steps.0 c.loop-pass.invariant.rest in
    rest.1.home.own ∙ ap (λ cell. cell.table.shared.table_id) (sym c.index-cells-at.is)

pub loop-pass-preserved : goal.loop-pass-preserved
loop-pass-preserved g c =
    let rest = rest_at (IsReady g.X.Machine.start (IsChosen g.X.Machine.entry_of g.X.Machine.may_reply g.X.Machine.may_choose g.X.Machine.is_idle)) c.args.cells.now (into_iter_items c.loop-pass.pass-iterator) (into_iter_items c.next.new.self) c.loop-pass.at c.index-cells-at.result c.in-Some.pass
    c.in-Some.ensures.steps.0 c.loop-pass.invariant.rest in
    let home = up_read (IsHome g.X.Machine.start) (Went (IsChosen g.X.Machine.entry_of g.X.Machine.may_reply g.X.Machine.may_choose g.X.Machine.is_idle) 0 1) c.args.cells.now c.args.passes.now c.loop-pass.passes c.loop-pass.at c.index-cells-at.result c.index-passes-at.result rest.0
    c.index-cells-at.is c.requires.own c.loop-pass.invariant.joined in
    record {
      rest = rest.2;
      joined = up_step (Went (IsChosen g.X.Machine.entry_of g.X.Machine.may_reply g.X.Machine.may_choose g.X.Machine.is_idle) 0 1) c.loop-pass.at c.args.passes.now c.loop-pass.passes c.index-passes-at.result c.join.new.pass
          (up_inside (IsHome g.X.Machine.start) (Went (IsChosen g.X.Machine.entry_of g.X.Machine.may_reply g.X.Machine.may_choose g.X.Machine.is_idle) 0 1) c.args.cells.now c.args.passes.now c.loop-pass.at rest.0 c.requires.own)
          (joined_went g.X.Machine.start (IsChosen g.X.Machine.entry_of g.X.Machine.may_reply g.X.Machine.may_choose g.X.Machine.is_idle) c.index-cells-at.result _ c.in-Some.pass c.join.new.pass home
          (subst (λ cell. IsReady g.X.Machine.start (IsChosen g.X.Machine.entry_of g.X.Machine.may_reply g.X.Machine.may_choose g.X.Machine.is_idle) cell c.in-Some.pass) (sym c.index-cells-at.is) rest.1) c.join.ensures.own c.join.ensures.joined)
          c.loop-pass.invariant.joined;
    }

pub returns : goal.returns
returns g c =
    up_done (IsHome g.X.Machine.start) (Went (IsChosen g.X.Machine.entry_of g.X.Machine.may_reply g.X.Machine.may_choose g.X.Machine.is_idle) 0 1) c.args.cells.now c.args.passes.now c.loop-pass.passes c.loop-pass.at
    (rest_none (IsReady g.X.Machine.start (IsChosen g.X.Machine.entry_of g.X.Machine.may_reply g.X.Machine.may_choose g.X.Machine.is_idle)) c.args.cells.now (into_iter_items c.loop-pass.pass-iterator) c.loop-pass.at
    (nil_from_length (into_iter_items c.loop-pass.pass-iterator) (sym c.loop-pass.pass-iterator.rest.ok.0 ∙ c.in-None.ensures.steps.0)) c.loop-pass.invariant.rest)
    c.requires.own c.loop-pass.invariant.joined
