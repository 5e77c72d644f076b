use Rattle.std.specs.Prelude.{refl}
use Rattle.ccr_model.specs.FollowerRows.{follower_receive_row}
use Rattle.ccr_model.specs.LeaderFrames.{chunk_row, lease_add_row, lease_remove_row, lease_renew_row, read_row, session_open_row}
use Rattle.ccr_model.specs.Outcomes.{guarded}
use Rattle.ccr_model.specs.World.{deliver_row, follow_row}
use Rattle.ccr_model_values.proofs.worlds_settle.Goals as goal

pub returns-clause-deliver : goal.returns-clause-deliver
unfolding chunk_row deliver_row follow_row follower_receive_row guarded lease_add_row lease_remove_row lease_renew_row read_row session_open_row
returns-clause-deliver c = record {
  neither = refl;
  no_copy = refl;
}

pub returns-clause-send : goal.returns-clause-send
unfolding chunk_row deliver_row follow_row follower_receive_row guarded lease_add_row lease_remove_row lease_renew_row read_row session_open_row
returns-clause-send c = record {
  sent = refl;
}

pub returns-clause-follow : goal.returns-clause-follow
unfolding chunk_row deliver_row follow_row follower_receive_row guarded lease_add_row lease_remove_row lease_renew_row read_row session_open_row
returns-clause-follow c = record {
  made = refl;
  asks = refl;
  same_name = refl;
  too_many = refl;
}

pub returns-clause-are_whole : goal.returns-clause-are_whole
unfolding chunk_row deliver_row follow_row follower_receive_row guarded lease_add_row lease_remove_row lease_renew_row read_row session_open_row
returns-clause-are_whole c = record {
  whole = refl;
  more = refl;
  fewer = refl;
  knows_fewer = refl;
  knows_more = refl;
}

pub returns-clause-are_settled : goal.returns-clause-are_settled
unfolding chunk_row deliver_row follow_row follower_receive_row guarded lease_add_row lease_remove_row lease_renew_row read_row session_open_row
returns-clause-are_settled c = record {
  active = refl;
  buffer = refl;
  writes = refl;
  replica_behind = refl;
  old_history = refl;
  paused = refl;
  bootstrap = refl;
}

pub returns-clause-is_settled : goal.returns-clause-is_settled
unfolding chunk_row deliver_row follow_row follower_receive_row guarded lease_add_row lease_remove_row lease_renew_row read_row session_open_row
returns-clause-is_settled c = record {
  settled = refl;
  flight = refl;
  leader_behind = refl;
  follower_behind = refl;
  not_ready = refl;
}
