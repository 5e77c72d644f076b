use Rattle.std.proofs.Common.{◌≡◌, ◌+◌, ◌++◌}
use Rattle.ccr_plans.specs.Clocks.{leader_clocks}
use Rattle.ccr_plans.proofs.clocks.push_leader_clocks.Given as goal

abbrev pub invariant-loop-left : goal.invariant-loop-left
invariant-loop-left l = record {
  done : l.deeds.items ++ leader_clocks l.now l.world l.left ≡ l.initial.deeds.items ++ leader_clocks l.now l.fn.first l.fn.n;
  place : l.world + l.left ≡ l.fn.first + l.fn.n;
}

abbrev pub decreases-loop-left : goal.decreases-loop-left
decreases-loop-left l = l.left
