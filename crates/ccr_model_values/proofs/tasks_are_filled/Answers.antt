use Rattle.std.specs.Prelude.{refl}
use Rattle.ccr_model_values.proofs.tasks_are_filled.Goals as goal

pub returns-clause-have_budget : goal.returns-clause-have_budget
returns-clause-have_budget c = record {
  one = refl;
  two = refl;
}

pub returns-clause-are_sent : goal.returns-clause-are_sent
returns-clause-are_sent c = record {
  begun = refl;
  again = refl;
}

pub returns-clause-is_filled : goal.returns-clause-is_filled
returns-clause-is_filled c = record {
  batch = refl;
  held = refl;
  then_new = refl;
  peek = refl;
  no_peek = refl;
}

pub returns-clause-are_kept : goal.returns-clause-are_kept
returns-clause-are_kept c = record {
  rest = refl;
  among = refl;
  next = refl;
}

pub returns-clause-are_retried : goal.returns-clause-are_retried
returns-clause-are_retried c = record {
  order = refl;
  buffer = refl;
  lost_write = refl;
  writes = refl;
  filled = refl;
  least = refl;
  none = refl;
}
