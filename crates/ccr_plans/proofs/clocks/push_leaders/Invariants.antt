use Rattle.std.proofs.Common.{◌≡◌, ◌++◌}
use Rattle.std.specs.Prelude.{flat_map}
use Rattle.ccr_plans.specs.Clocks.{LieWithin64, clock_of_leader}
use Rattle.ccr_plans.proofs.clocks.push_leaders.Given as goal

abbrev pub invariant-loop-name : goal.invariant-loop-name
invariant-loop-name l = record {
  done : l.deeds.items ++ flat_map (clock_of_leader l.cluster l.now) l.name-iterator ≡ l.initial.deeds.items ++ flat_map (clock_of_leader l.cluster l.now) l.indices.entries;
  left : LieWithin64 l.name-iterator;
}
