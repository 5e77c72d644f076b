use Rattle.std.proofs.Common.{◌≡◌, ◌-◌, ◌++◌, take}
use Rattle.ccr_model.specs.Restores.{asks_chunks}
use Rattle.ccr_restore.specs.Places.{places_left}
use Rattle.ccr_restore.specs.Stages.{fetch_at}
use Rattle.ccr_restore.proofs.fetch.ask_places.Given as goal

abbrev pub invariant-loop-turn : goal.invariant-loop-turn
invariant-loop-turn l = record {
  same : l.fetch.places.chunk_size ≡ l.plan.chunk_size;
  next : (asks_chunks (take (l.room - l.turn) (places_left l.fetch.places)) (fetch_at l.plan l.counters l.fetch)).next
      ≡ (asks_chunks (take l.room (places_left l.initial.fetch.places)) (fetch_at l.plan l.initial.counters l.initial.fetch)).next;
  sent : l.sent.items ++ (asks_chunks (take (l.room - l.turn) (places_left l.fetch.places)) (fetch_at l.plan l.counters l.fetch)).sent
      ≡ (asks_chunks (take l.room (places_left l.initial.fetch.places)) (fetch_at l.plan l.initial.counters l.initial.fetch)).sent;
}
