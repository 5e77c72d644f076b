use Rattle.std.specs.Prelude.{refl}
use Rattle.ccr_model_values.proofs.histories_end.Goals as goal

pub returns-clause-begin : goal.returns-clause-begin
returns-clause-begin c = record {
  first = refl;
  plugged = refl;
  last = refl;
  beyond = refl;
  ops = refl;
  cut = refl;
  cut_else = refl;
}

pub returns-clause-have_lines : goal.returns-clause-have_lines
returns-clause-have_lines c = record {
  own = refl;
  other = refl;
  ends = refl;
  ended_before = refl;
  goes_on = refl;
}

pub returns-clause-are_noted : goal.returns-clause-are_noted
returns-clause-are_noted c = record {
  notes = refl;
  earlier_notes = refl;
  notes_else = refl;
  earlier_else = refl;
}
