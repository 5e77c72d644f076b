use Rattle.std.proofs.Common.{◌≡◌, ◌++◌, drop}
use Rattle.ccr_model.specs.Restores.{chunks_again}
use Rattle.ccr_restore.specs.Stages.{fetch_at}
use Rattle.ccr_restore.proofs.fetch.ask_all_again.Given as goal

abbrev pub invariant-loop-asked : goal.invariant-loop-asked
invariant-loop-asked l = record {
  same : l.fetch.places.chunk_size ≡ l.plan.chunk_size;
  next : (chunks_again (drop l.asked-index l.due) (fetch_at l.plan l.counters l.fetch)).next ≡ (chunks_again l.due (fetch_at l.plan l.initial.counters l.initial.fetch)).next;
  sent : l.sent.items ++ (chunks_again (drop l.asked-index l.due) (fetch_at l.plan l.counters l.fetch)).sent ≡ (chunks_again l.due (fetch_at l.plan l.initial.counters l.initial.fetch)).sent;
}
