use Rattle.std.specs.Prelude.{refl}
use Rattle.ccr_model.specs.CopyRows.{merge_row}
use Rattle.ccr_model.specs.FollowerRows.{apply_row, follower_clock_row, pause_row, restart_row, resume_row, written_row}
use Rattle.ccr_model.specs.Outcomes.{guarded}
use Rattle.ccr_model_values.proofs.followers_go_on.Goals as goal

pub returns-clause-stop : goal.returns-clause-stop
unfolding apply_row follower_clock_row guarded merge_row pause_row restart_row resume_row written_row
returns-clause-stop c = record {
  missing = refl;
  other_history = refl;
  paused = refl;
}

pub returns-clause-apply : goal.returns-clause-apply
unfolding apply_row follower_clock_row guarded merge_row pause_row restart_row resume_row written_row
returns-clause-apply c = record {
  later = refl;
  epoch_left = refl;
  earlier = refl;
  other_batch = refl;
  new = refl;
}

pub returns-clause-are_same : goal.returns-clause-are_same
unfolding apply_row follower_clock_row guarded merge_row pause_row restart_row resume_row written_row
returns-clause-are_same c = record {
  same = refl;
  term = refl;
  version = refl;
  number = refl;
  longer = refl;
}

pub returns-clause-end : goal.returns-clause-end
unfolding apply_row follower_clock_row guarded merge_row pause_row restart_row resume_row written_row
returns-clause-end c = record {
  each = refl;
  least = refl;
  not_acked = refl;
  ended = refl;
}

pub returns-clause-restart : goal.returns-clause-restart
unfolding apply_row follower_clock_row guarded merge_row pause_row restart_row resume_row written_row
returns-clause-restart c = record {
  next = refl;
  sent_on = refl;
  paused = refl;
  not_paused = refl;
}

pub returns-clause-go_on : goal.returns-clause-go_on
unfolding apply_row follower_clock_row guarded merge_row pause_row restart_row resume_row written_row
returns-clause-go_on c = record {
  clock = refl;
  floor = refl;
}
