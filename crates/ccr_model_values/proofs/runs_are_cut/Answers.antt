use Rattle.std.specs.Prelude.{refl}
use Rattle.ccr_model_values.proofs.runs_are_cut.Goals as goal

pub returns-clause-are_cut : goal.returns-clause-are_cut
returns-clause-are_cut c = record {
  size = refl;
  reached = refl;
  one_byte_less = refl;
  too_large = refl;
  count = refl;
  all = refl;
}

pub returns-clause-are_runs : goal.returns-clause-are_runs
returns-clause-are_runs c = record {
  hole = refl;
  count = refl;
  nothing = refl;
}

pub returns-clause-are_numbers : goal.returns-clause-are_numbers
returns-clause-are_numbers c = record {
  filled = refl;
  closed = refl;
  left = refl;
  lower = refl;
}
