use Rattle.std.specs.Prelude.{refl}
use Rattle.ccr_model_values.proofs.bootstraps_fetch.Goals as goal

pub returns-clause-ask : goal.returns-clause-ask
returns-clause-ask c = record {
  fifth = refl;
  both = refl;
  next_request = refl;
  lost = refl;
  again = refl;
  changed = refl;
}

pub returns-clause-are_numbered : goal.returns-clause-are_numbered
returns-clause-are_numbered c = record {
  session = refl;
  sent = refl;
  waits = refl;
}

pub returns-clause-hear : goal.returns-clause-hear
returns-clause-hear c = record {
  added = refl;
  exists = refl;
  gone = refl;
  not_ready = refl;
}

pub returns-clause-are_complete : goal.returns-clause-are_complete
returns-clause-are_complete c = record {
  outstanding = refl;
  not_asked = refl;
  all = refl;
}

pub returns-clause-are_restored : goal.returns-clause-are_restored
returns-clause-are_restored c = record {
  parts = refl;
  replicas = refl;
}

pub returns-clause-ends : goal.returns-clause-ends
returns-clause-ends c = record {
  task = refl;
  epoch = refl;
  sent = refl;
}
