use Rattle.std.proofs.Common.{◌≡◌, ◌++◌}
use Rattle.std.specs.Prelude.{flat_map}
use Rattle.ccr_plans.specs.Clocks.{LieWithin64, clock_of_follower}
use Rattle.ccr_plans.proofs.clocks.push_followers.Given as goal

abbrev pub invariant-loop-name : goal.invariant-loop-name
invariant-loop-name l = record {
  done : l.deeds.items ++ flat_map (clock_of_follower l.cluster l.now l.f) l.name-iterator ≡ l.initial.deeds.items ++ flat_map (clock_of_follower l.cluster l.now l.f) l.indices.entries;
  left : LieWithin64 l.name-iterator;
}
