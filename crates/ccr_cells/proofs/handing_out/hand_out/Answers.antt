use Rattle.std.proofs.Common.{◌≡◌, ◌∷◌, vec_len, sym, ◌∙◌}
use Rattle.std.specs.Vec.Iter.{into_iter_items}
use Rattle.std.proofs.lemmas.List.{nil_from_length}
use Rattle.ccr_cell.specs.Passes.{view_of}
use Rattle.ccr_worlds.proofs.Endings.{journals_all, journals_more, known_more, room_more}
use Rattle.ccr_cells.specs.Views.{Pass, log_in}
use Rattle.ccr_cells.proofs.Endings.{first_only, next_numbered, no_pass, picks_more, seen_entries}
use Rattle.ccr_cells.proofs.handing_out.hand_out.Goals as goal

pub loop-cell-preserved : goal.loop-cell-preserved
loop-cell-preserved g c =
    let taken : into_iter_items c.loop-cell.rest ≡ c.in-Some-next.pass ∷ into_iter_items c.next-in-loop-cell.new.self = c.in-Some-next.ensures.items in
    record {
      only = (first_only c.in-Some.cell c.in-Some-next.pass (into_iter_items c.loop-cell.cell-iterator) (into_iter_items c.next.new.self) (into_iter_items c.loop-cell.rest)
          (into_iter_items c.next-in-loop-cell.new.self) c.in-Some.ensures.steps.0 taken c.loop-cell.invariant.only).1;
      numbered = next_numbered (vec_len c.loop-cell.journals) _ c.in-Some-next.pass (into_iter_items c.loop-cell.rest) (into_iter_items c.next-in-loop-cell.new.self) taken
          c.put.ensures.len c.loop-cell.invariant.numbered;
      told = journals_more (λ (p : Pass). (view_of p).seen) c.in-Some-next.pass (into_iter_items c.loop-cell.rest) (into_iter_items c.next-in-loop-cell.new.self)
          c.loop-cell.journals.items c.put.new.list.items _ c.close.result taken c.put.ensures.items c.close.ensures.value c.loop-cell.invariant.told;
      known = known_more (λ (p : Pass). log_in (view_of p)) c.in-Some-next.pass (into_iter_items c.loop-cell.rest) (into_iter_items c.next-in-loop-cell.new.self) _ taken
          c.close.ensures.handed c.loop-cell.invariant.known;
      picks = picks_more g.K.Handed.fates (vec_len c.loop-cell.journals) _ c.in-Some-next.pass (into_iter_items c.loop-cell.rest) (into_iter_items c.next-in-loop-cell.new.self) _ taken
          c.put.ensures.len c.loop-cell.invariant.numbered c.close.ensures.picks c.loop-cell.invariant.picks;
      room = room_more c.in-Some-next.pass (into_iter_items c.loop-cell.rest) (into_iter_items c.next-in-loop-cell.new.self) _ _ _ _ taken c.put.ensures.len c.put.ensures.room
          c.loop-cell.invariant.room;
    }

pub returns-clause-value : goal.returns-clause-value
returns-clause-value g c =
    journals_all (λ (p : Pass). (view_of p).seen) (into_iter_items c.loop-cell.rest) c.loop-cell.journals.items _
    (no_pass (into_iter_items c.loop-cell.cell-iterator) (into_iter_items c.loop-cell.rest)
    (nil_from_length (into_iter_items c.loop-cell.cell-iterator) (sym c.loop-cell.cell-iterator.rest.ok.0 ∙ c.in-None.ensures.steps.0)) c.loop-cell.invariant.only)
    c.loop-cell.invariant.told ∙ sym (seen_entries c.args.passes.items)
