use Rattle.std.specs.Prelude.{refl}
use Rattle.ccr_model_values.proofs.losses_wait.Goals as goal

pub returns-clause-doubles : goal.returns-clause-doubles
returns-clause-doubles c = record {
  first = refl;
  second = refl;
  fourth = refl;
  fifth = refl;
  greatest = refl;
  no_greater = refl;
  end = refl;
}

pub returns-clause-count_losses : goal.returns-clause-count_losses
returns-clause-count_losses c = record {
  second = refl;
  read_waits = refl;
  third = refl;
  write_waits = refl;
  ended = refl;
}

pub returns-clause-count_refusals : goal.returns-clause-count_refusals
returns-clause-count_refusals c = record {
  refused = refl;
  lost = refl;
}
