use Rattle.std.specs.Prelude.{refl}
use Rattle.ccr_model.specs.CopyRows.{fail_copy_row}
use Rattle.ccr_model.specs.LeaderRows.{force_promote_row, leader_fail_copy_row, leader_promote_row, resync_row}
use Rattle.ccr_model_values.proofs.leaders_are_promoted.Goals as goal

pub returns-clause-are_missing : goal.returns-clause-are_missing
unfolding fail_copy_row force_promote_row leader_fail_copy_row leader_promote_row resync_row
returns-clause-are_missing c = record {
  end_above_gap = refl;
  end_without_gap = refl;
  missing = refl;
  nothing = refl;
}

pub returns-clause-promote : goal.returns-clause-promote
unfolding fail_copy_row force_promote_row leader_fail_copy_row leader_promote_row resync_row
returns-clause-promote c = record {
  primary = refl;
  told = refl;
  sessions_end = refl;
  session_numbers = refl;
  requests_end = refl;
  polls_left = refl;
}

pub returns-clause-force_promote : goal.returns-clause-force_promote
unfolding fail_copy_row force_promote_row leader_fail_copy_row leader_promote_row resync_row
returns-clause-force_promote c = record {
  primary = refl;
  told = refl;
  next = refl;
  unknown = refl;
}

pub returns-clause-have_histories : goal.returns-clause-have_histories
unfolding fail_copy_row force_promote_row leader_fail_copy_row leader_promote_row resync_row
returns-clause-have_histories c = record {
  first = refl;
  later = refl;
  round = refl;
}

pub returns-clause-are_stale : goal.returns-clause-are_stale
unfolding fail_copy_row force_promote_row leader_fail_copy_row leader_promote_row resync_row
returns-clause-are_stale c = record {
  order = refl;
  eight = refl;
  ninth = refl;
  least_ninth = refl;
}

pub returns-clause-resync : goal.returns-clause-resync
unfolding fail_copy_row force_promote_row leader_fail_copy_row leader_promote_row resync_row
returns-clause-resync c = record {
  told = refl;
  replicas = refl;
}

pub returns-clause-fail_copy : goal.returns-clause-fail_copy
unfolding fail_copy_row force_promote_row leader_fail_copy_row leader_promote_row resync_row
returns-clause-fail_copy c = record {
  told = refl;
  copies = refl;
  polls_left = refl;
  requests_left = refl;
  sent = refl;
  kept_still = refl;
}
