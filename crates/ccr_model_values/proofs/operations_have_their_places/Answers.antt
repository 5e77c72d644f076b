use Rattle.std.specs.Prelude.{refl}
use Rattle.ccr_model_values.proofs.operations_have_their_places.Goals as goal

pub returns-clause-stand_in_order : goal.returns-clause-stand_in_order
returns-clause-stand_in_order c = record {
  between = refl;
  before = refl;
  behind = refl;
  several = refl;
  all = refl;
}

pub returns-clause-have_files : goal.returns-clause-have_files
returns-clause-have_files c = record {
  some = refl;
  closed = refl;
  every = refl;
  none = refl;
}

pub returns-clause-come_into_open_part : goal.returns-clause-come_into_open_part
returns-clause-come_into_open_part c = record {
  open_part = refl;
  parts = refl;
}
