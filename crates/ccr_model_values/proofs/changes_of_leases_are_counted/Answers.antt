use Rattle.std.specs.Prelude.{refl}
use Rattle.ccr_model.specs.LeaderFrames.{lease_remove_row, lease_renew_row}
use Rattle.ccr_model.specs.LeaderRows.{expire_row}
use Rattle.ccr_model_values.proofs.changes_of_leases_are_counted.Goals as goal

pub returns-clause-count : goal.returns-clause-count
unfolding expire_row lease_remove_row lease_renew_row
returns-clause-count c = record {
  added = refl;
  there = refl;
  renewed = refl;
  same = refl;
  low = refl;
  unknown = refl;
  removed = refl;
  missing = refl;
  expired = refl;
  at_period = refl;
  kept_by_expiry = refl;
  ended_by_expiry = refl;
}

pub returns-clause-supersede : goal.returns-clause-supersede
unfolding expire_row lease_remove_row lease_renew_row
returns-clause-supersede c = record {
  term = refl;
  lower_term = refl;
  version = refl;
  lower_version = refl;
  equal = refl;
}
