use Rattle.std.proofs.Common.{◌≡◌, ◌<◌, List, ◌∷◌, [], length, sym, ◌∙◌, subst, arith}
use Rattle.std.specs.Prelude.{slice_set, Ok}
use Rattle.ccr_cell.specs.Passes.{view_of}
use Rattle.ccr_deeds.specs.Logs.{Log, entered}
use Rattle.ccr_worlds.proofs.Endings.{at_err}
use Rattle.ccr_worlds.proofs.Slots.{set_ok}
use Rattle.ccr_cells.specs.Opened.{entry_in}
use Rattle.ccr_cells.specs.Views.{Pass, log_in, logs_in}
use Rattle.ccr_cells.proofs.Logs.{acted_log, looked_log}
use Rattle.ccr_cells.proofs.Slots.{inside_cells, inside_passes, only_at}
use Rattle.ccr_cells.proofs.Turns.{acted_went, looked_went, kept_at, cells_set}
use Rattle.ccr_cells.proofs.cells.CellsWorlds.happens.Goals as goal

pub index-requires : goal.index-requires
index-requires g c =
    let lt : c.args.world < length (logs_in c.self.inside.passes.items) = subst (λ (ls : List Log). c.args.world < length ls) (sym c.self.view_is) c.requires in
    let low = inside_cells c.self.inside.cells.items c.self.inside.passes.items c.self.invariant.only c.args.world lt in
    omega (arith, low, c.self.inside.cells.ok.0)

pub act-requires : goal.act-requires
act-requires g c =
    let lt : c.args.world < length (logs_in c.self.inside.passes.items) = subst (λ (ls : List Log). c.args.world < length ls) (sym c.self.view_is) c.requires in
    record {
      own = (only_at c.self.inside.cells.items c.self.inside.passes.items c.self.invariant.only c.args.world lt c.index.result.now c.index.result.now c.index_mut.result.now
          c.index_mut.result.now c.index.ensures c.index_mut.ensures.value).home.own;
    }

pub invariant_of-self : goal.invariant_of-self
invariant_of-self g c =
    let lt : c.args.world < length (logs_in c.self.inside.passes.items) = subst (λ (ls : List Log). c.args.world < length ls) (sym c.self.view_is) c.requires in
    let only = only_at c.self.inside.cells.items c.self.inside.passes.items c.self.invariant.only c.args.world lt c.index.result.now c.index.result.now c.index_mut.result.now
    c.index_mut.result.now c.index.ensures c.index_mut.ensures.value in
    cells_set g.K.Handed.fates c.self.inside.cells.items c.self.inside.passes.items _ _ _ _ c.self.invariant c.args.world lt c.index.result.now c.index.result.now
    c.index_mut.result.now c.index_mut.result.now c.act.new.pass c.index.ensures c.index_mut.ensures.value
    (looked_went c.index.result.now c.index_mut.result.now c.act.new.pass only _ c.act.ensures.own c.in_err-reply.ensures.err)

pub returns-in_err-reply-clause-err : goal.returns-in_err-reply-clause-err
returns-in_err-reply-clause-err g c =
    let lt : c.args.world < length (logs_in c.self.inside.passes.items) = subst (λ (ls : List Log). c.args.world < length ls) (sym c.self.view_is) c.requires in
    let only = only_at c.self.inside.cells.items c.self.inside.passes.items c.self.invariant.only c.args.world lt c.index.result.now c.index.result.now c.index_mut.result.now
    c.index_mut.result.now c.index.ensures c.index_mut.ensures.value in
    at_err _ c.from_residual.result
    (kept_at c.self.inside.passes.items c.args.world c.index_mut.result.now c.index_mut.result.now c.act.new.pass
    (inside_passes c.self.inside.cells.items c.self.inside.passes.items c.self.invariant.only c.args.world lt) c.index_mut.ensures.value
    (looked_log _ (view_of c.index_mut.result.now) (view_of c.act.new.pass) only.alone.whole c.in_err-reply.ensures.err) ∙ c.self.view_is)

pub invariant_of-self-2 : goal.invariant_of-self-2
invariant_of-self-2 g c =
    let lt : c.args.world < length (logs_in c.self.inside.passes.items) = subst (λ (ls : List Log). c.args.world < length ls) (sym c.self.view_is) c.requires in
    let only = only_at c.self.inside.cells.items c.self.inside.passes.items c.self.invariant.only c.args.world lt c.index.result.now c.index.result.now c.index_mut.result.now
    c.index_mut.result.now c.index.ensures c.index_mut.ensures.value in
    cells_set g.K.Handed.fates c.self.inside.cells.items c.self.inside.passes.items _ _ _ _ c.self.invariant c.args.world lt c.index.result.now c.index.result.now
    c.index_mut.result.now c.index_mut.result.now c.act.new.pass c.index.ensures c.index_mut.ensures.value
    (acted_went c.index.result.now c.index_mut.result.now c.act.new.pass only _ _ _ c.act.ensures.own c.in_ok-reply.ensures.ok)

pub returns-clause-ok : goal.returns-clause-ok
returns-clause-ok g c =
    let lt : c.args.world < length (logs_in c.self.inside.passes.items) = subst (λ (ls : List Log). c.args.world < length ls) (sym c.self.view_is) c.requires in
    let only = only_at c.self.inside.cells.items c.self.inside.passes.items c.self.invariant.only c.args.world lt c.index.result.now c.index.result.now c.index_mut.result.now
    c.index_mut.result.now c.index.ensures c.index_mut.ensures.value in
    subst (λ (ls : List Log). logs_in (slice_set c.self.inside.passes.items c.args.world c.act.new.pass)
    ≡ entered ls c.args.world (record { event = c.args.event.now; reply = c.in_ok-reply.reply } ∷ [])) c.self.view_is
    (set_ok (λ (p : Pass). log_in (view_of p)) c.self.inside.passes.items c.args.world c.index_mut.result.now c.index_mut.result.now c.act.new.pass c.args.event.now
    (Ok c.in_ok-reply.reply) lt c.index_mut.ensures.value
    (acted_log _ (view_of c.index_mut.result.now) (view_of c.act.new.pass) (entry_in c.args.event.now c.in_ok-reply.reply) _ only.alone.whole c.in_ok-reply.ensures.ok))
