use Rattle.std.proofs.Common.{List, sym, ◌∙◌}
use Rattle.std.specs.Vec.Iter.{into_iter_items}
use Rattle.std.proofs.lemmas.List.{nil_from_length}
use Rattle.ccr_shard_world.specs.declared.world.World.{World}
use Rattle.ccr_worlds.specs.Fated.{log_of}
use Rattle.ccr_worlds.proofs.Endings.{handed_out, journals_all, journals_more, known_more, room_more}
use Rattle.ccr_worlds.proofs.handing_out.hand_out.Goals as goal

pub loop-world-preserved : goal.loop-world-preserved
loop-world-preserved g c = record {
  told = journals_more (λ (w : World g.row.P.Denot). w.recorded.journal) c.in-Some.world (into_iter_items c.loop-world.world-iterator) (into_iter_items c.next.new.self)
      c.loop-world.journals.items c.put.new.list.items _ c.into_journal.result
      c.in-Some.ensures.steps.0 c.put.ensures.items c.into_journal.ensures.value c.loop-world.invariant.told;
  known = known_more (λ (w : World g.row.P.Denot). log_of w.recorded) c.in-Some.world (into_iter_items c.loop-world.world-iterator) (into_iter_items c.next.new.self)
      _ c.in-Some.ensures.steps.0
      (handed_out c.in-Some.world.recorded c.into_journal.result c.into_journal.ensures.value c.into_journal.ensures.possible c.into_journal.ensures.headline c.into_journal.ensures.prefix)
      c.loop-world.invariant.known;
  room = room_more c.in-Some.world (into_iter_items c.loop-world.world-iterator) (into_iter_items c.next.new.self) _ _ _ _
      c.in-Some.ensures.steps.0 c.put.ensures.len c.put.ensures.room c.loop-world.invariant.room;
}

pub returns-clause-value : goal.returns-clause-value
returns-clause-value g c =
    journals_all (λ (w : World g.row.P.Denot). w.recorded.journal) (into_iter_items c.loop-world.world-iterator) c.loop-world.journals.items _
    (nil_from_length (into_iter_items c.loop-world.world-iterator) (sym c.loop-world.world-iterator.rest.ok.0 ∙ c.in-None.ensures.steps.0)) c.loop-world.invariant.told
