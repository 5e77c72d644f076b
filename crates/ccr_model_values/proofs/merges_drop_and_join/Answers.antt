use Rattle.std.specs.Prelude.{refl}
use Rattle.ccr_model_values.proofs.merges_drop_and_join.Goals as goal

pub returns-clause-are_dropped : goal.returns-clause-are_dropped
returns-clause-are_dropped c = record {
  passed = refl;
  passed_by_delete = refl;
  passed_at_count = refl;
  another_id = refl;
  smaller = refl;
  delete_alone = refl;
  delete_behind = refl;
  delete_between = refl;
  none = refl;
  at_bound = refl;
}

pub returns-clause-go_in_order : goal.returns-clause-go_in_order
returns-clause-go_in_order c = record {
  both = refl;
  across = refl;
}

pub returns-clause-are_joined : goal.returns-clause-are_joined
returns-clause-are_joined c = record {
  order = refl;
  place = refl;
  repeated = refl;
  emptied = refl;
}

pub returns-clause-floors_rise : goal.returns-clause-floors_rise
returns-clause-floors_rise c = record {
  least_lease = refl;
  retention = refl;
  commit = refl;
  leased = refl;
  higher = refl;
  bound = refl;
  leased_bound = refl;
}
