use Rattle.std.proofs.Common.{◌<◌, List, length, sym, ap, ◌∙◌, subst, arith}
use Rattle.ccr_model.specs.Settling.{note_of}
use Rattle.ccr_cell.specs.Passes.{view_of}
use Rattle.ccr_deeds.specs.Logs.{Log, IsNoteOf, state_of}
use Rattle.ccr_worlds.proofs.Slots.{note_at}
use Rattle.ccr_cells.specs.Views.{Pass, log_in, logs_in}
use Rattle.ccr_cells.proofs.Logs.{looked_log}
use Rattle.ccr_cells.proofs.Slots.{inside_cells, inside_passes, only_at}
use Rattle.ccr_cells.proofs.Turns.{looked_went, kept_at, cells_set, noted}
use Rattle.ccr_cells.proofs.cells.CellsWorlds.note.Goals as goal

pub index-requires : goal.index-requires
index-requires g c =
    let lt : c.args.world < length (logs_in c.self.inside.passes.items) = subst (λ (ls : List Log). c.args.world < length ls) (sym c.self.view_is) c.requires in
    let low = inside_cells c.self.inside.cells.items c.self.inside.passes.items c.self.invariant.only c.args.world lt in
    omega (arith, low, c.self.inside.cells.ok.0)

pub look-requires : goal.look-requires
look-requires g c =
    let lt : c.args.world < length (logs_in c.self.inside.passes.items) = subst (λ (ls : List Log). c.args.world < length ls) (sym c.self.view_is) c.requires in
    record {
      own = (only_at c.self.inside.cells.items c.self.inside.passes.items c.self.invariant.only c.args.world lt c.index.result.now c.index.result.now c.index_mut.result.now
          c.index_mut.result.now c.index.ensures c.index_mut.ensures.value).home.own;
    }

pub invariant_of-self : goal.invariant_of-self
invariant_of-self g c =
    let lt : c.args.world < length (logs_in c.self.inside.passes.items) = subst (λ (ls : List Log). c.args.world < length ls) (sym c.self.view_is) c.requires in
    let only = only_at c.self.inside.cells.items c.self.inside.passes.items c.self.invariant.only c.args.world lt c.index.result.now c.index.result.now c.index_mut.result.now
    c.index_mut.result.now c.index.ensures c.index_mut.ensures.value in
    cells_set g.K.Handed.fates c.self.inside.cells.items c.self.inside.passes.items _ _ _ _ c.self.invariant c.args.world lt c.index.result.now c.index.result.now
    c.index_mut.result.now c.index_mut.result.now c.look.new.pass c.index.ensures c.index_mut.ensures.value
    (looked_went c.index.result.now c.index_mut.result.now c.look.new.pass only _ c.look.ensures.own c.in_err-note.ensures.err)

pub returns-in_err-note-clause-same : goal.returns-in_err-note-clause-same
returns-in_err-note-clause-same g c =
    let lt : c.args.world < length (logs_in c.self.inside.passes.items) = subst (λ (ls : List Log). c.args.world < length ls) (sym c.self.view_is) c.requires in
    let only = only_at c.self.inside.cells.items c.self.inside.passes.items c.self.invariant.only c.args.world lt c.index.result.now c.index.result.now c.index_mut.result.now
    c.index_mut.result.now c.index.ensures c.index_mut.ensures.value in
    kept_at c.self.inside.passes.items c.args.world c.index_mut.result.now c.index_mut.result.now c.look.new.pass
    (inside_passes c.self.inside.cells.items c.self.inside.passes.items c.self.invariant.only c.args.world lt) c.index_mut.ensures.value
    (looked_log _ (view_of c.index_mut.result.now) (view_of c.look.new.pass) only.alone.whole c.in_err-note.ensures.err) ∙ c.self.view_is

pub invariant_of-self-2 : goal.invariant_of-self-2
invariant_of-self-2 g c =
    let lt : c.args.world < length (logs_in c.self.inside.passes.items) = subst (λ (ls : List Log). c.args.world < length ls) (sym c.self.view_is) c.requires in
    let only = only_at c.self.inside.cells.items c.self.inside.passes.items c.self.invariant.only c.args.world lt c.index.result.now c.index.result.now c.index_mut.result.now
    c.index_mut.result.now c.index.ensures c.index_mut.ensures.value in
    cells_set g.K.Handed.fates c.self.inside.cells.items c.self.inside.passes.items _ _ _ _ c.self.invariant c.args.world lt c.index.result.now c.index.result.now
    c.index_mut.result.now c.index_mut.result.now c.look.new.pass c.index.ensures c.index_mut.ensures.value
    (looked_went c.index.result.now c.index_mut.result.now c.look.new.pass only _ c.look.ensures.own c.in_ok-note.ensures.ok)

pub returns-clause-ok : goal.returns-clause-ok
returns-clause-ok g c =
    let lt : c.args.world < length (logs_in c.self.inside.passes.items) = subst (λ (ls : List Log). c.args.world < length ls) (sym c.self.view_is) c.requires in
    let only = only_at c.self.inside.cells.items c.self.inside.passes.items c.self.invariant.only c.args.world lt c.index.result.now c.index.result.now c.index_mut.result.now
    c.index_mut.result.now c.index.ensures c.index_mut.ensures.value in
    subst (λ (ls : List Log). IsNoteOf ls c.args.world c.args.of c.note_of.result) c.self.view_is
    (note_at (λ (p : Pass). log_in (view_of p)) c.self.inside.passes.items c.args.world c.args.of c.index_mut.result.now c.index_mut.result.now c.note_of.result lt
    c.index_mut.ensures.value
    (c.note_of.ensures ∙ (noted (view_of c.index_mut.result.now) (view_of c.look.new.pass) _ c.in_ok-note.note only.alone.whole c.in_ok-note.ensures.ok
    ∙ ap (note_of (state_of (log_in (view_of c.index_mut.result.now)))) c.from.ensures)))

pub returns-clause-same : goal.returns-clause-same
returns-clause-same g c =
    let lt : c.args.world < length (logs_in c.self.inside.passes.items) = subst (λ (ls : List Log). c.args.world < length ls) (sym c.self.view_is) c.requires in
    let only = only_at c.self.inside.cells.items c.self.inside.passes.items c.self.invariant.only c.args.world lt c.index.result.now c.index.result.now c.index_mut.result.now
    c.index_mut.result.now c.index.ensures c.index_mut.ensures.value in
    kept_at c.self.inside.passes.items c.args.world c.index_mut.result.now c.index_mut.result.now c.look.new.pass
    (inside_passes c.self.inside.cells.items c.self.inside.passes.items c.self.invariant.only c.args.world lt) c.index_mut.ensures.value
    (looked_log _ (view_of c.index_mut.result.now) (view_of c.look.new.pass) only.alone.whole c.in_ok-note.ensures.ok) ∙ c.self.view_is
