use Rattle.std.specs.Prelude.{refl}
use Rattle.ccr_model.specs.LeaderRows.{write_row}
use Rattle.ccr_model.specs.Outcomes.{guarded}
use Rattle.ccr_model_values.proofs.queries_hold.Goals as goal

pub returns-clause-are_asked : goal.returns-clause-are_asked
unfolding guarded write_row
returns-clause-are_asked c = record {
  not_needed = refl;
  needed = refl;
  met = refl;
  not_met = refl;
  another_kind = refl;
  ascending = refl;
  descending = refl;
}

pub returns-clause-are_written : goal.returns-clause-are_written
unfolding guarded write_row
returns-clause-are_written c = record {
  bad = refl;
  conflict = refl;
  routed = refl;
}
