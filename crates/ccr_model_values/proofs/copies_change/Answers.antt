use Rattle.std.specs.Prelude.{refl}
use Rattle.ccr_model.specs.CopyRows.{add_copy_row, follower_promote_row, merge_row, replicate_row, sync_row}
use Rattle.ccr_model.specs.Outcomes.{guarded}
use Rattle.ccr_model_values.proofs.copies_change.Goals as goal

pub returns-clause-are_new : goal.returns-clause-are_new
unfolding add_copy_row follower_promote_row guarded merge_row replicate_row sync_row
returns-clause-are_new c = record {
  collection = refl;
  higher = refl;
  lower = refl;
}

pub returns-clause-are_ready : goal.returns-clause-are_ready
unfolding add_copy_row follower_promote_row guarded merge_row replicate_row sync_row
returns-clause-are_ready c = record {
  acked_alone = refl;
  resynced_alone = refl;
  both = refl;
}

pub returns-clause-replicate : goal.returns-clause-replicate
unfolding add_copy_row follower_promote_row guarded merge_row replicate_row sync_row
returns-clause-replicate c = record {
  above_gap = refl;
  in_gap = refl;
  taken = refl;
}

pub returns-clause-ack : goal.returns-clause-ack
unfolding add_copy_row follower_promote_row guarded merge_row replicate_row sync_row
returns-clause-ack c = record {
  known = refl;
}

pub returns-clause-sync : goal.returns-clause-sync
unfolding add_copy_row follower_promote_row guarded merge_row replicate_row sync_row
returns-clause-sync c = record {
  learnt = refl;
  older = refl;
  newer = refl;
}

pub returns-clause-add_copy : goal.returns-clause-add_copy
unfolding add_copy_row follower_promote_row guarded merge_row replicate_row sync_row
returns-clause-add_copy c = record {
  told = refl;
  replicas = refl;
  global = refl;
  next = refl;
}

pub returns-clause-merge : goal.returns-clause-merge
unfolding add_copy_row follower_promote_row guarded merge_row replicate_row sync_row
returns-clause-merge c = record {
  floor = refl;
}

pub returns-clause-promote_at_follower : goal.returns-clause-promote_at_follower
unfolding add_copy_row follower_promote_row guarded merge_row replicate_row sync_row
returns-clause-promote_at_follower c = record {
  told = refl;
  replicas = refl;
}
