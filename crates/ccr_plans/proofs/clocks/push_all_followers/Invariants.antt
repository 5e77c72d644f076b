use Rattle.std.proofs.Common.{◌≡◌, ◌-◌, ◌++◌}
use Rattle.std.specs.Prelude.{flat_map}
use Rattle.std.specs.List.{range_with_len}
use Rattle.ccr_plans.specs.Clocks.{clocks_of_followers}
use Rattle.ccr_plans.proofs.clocks.push_all_followers.Given as goal

abbrev pub invariant-loop-f : goal.invariant-loop-f
invariant-loop-f l =
    l.deeds.items ++ flat_map (clocks_of_followers l.meta l.cluster l.now) (range_with_len l.f (8 - l.f))
    ≡ l.initial.deeds.items ++ flat_map (clocks_of_followers l.meta l.cluster l.now) (range_with_len 0 8)
