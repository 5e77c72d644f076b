use Rattle.std.proofs.Common.{◌≡◌, ◌+◌, ◌++◌}
use Rattle.ccr_plans.specs.Clocks.{follower_clocks}
use Rattle.ccr_plans.proofs.clocks.push_follower_clocks.Given as goal

abbrev pub invariant-loop-left : goal.invariant-loop-left
invariant-loop-left l = record {
  done : l.deeds.items ++ follower_clocks l.now l.f l.world l.left ≡ l.initial.deeds.items ++ follower_clocks l.now l.f l.fn.first l.fn.n;
  place : l.world + l.left ≡ l.fn.first + l.fn.n;
}

abbrev pub decreases-loop-left : goal.decreases-loop-left
decreases-loop-left l = l.left
