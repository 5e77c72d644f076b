use Rattle.std.proofs.Common.{◌≡◌, ◌+◌, ◌++◌}
use Rattle.ccr_plans.specs.Made.{starts_from}
use Rattle.ccr_plans.proofs.making.starts_of.Given as goal

abbrev pub invariant-loop-left : goal.invariant-loop-left
invariant-loop-left l = record {
  done : l.starts.items ++ starts_from l.index l.x l.shard l.left ≡ starts_from l.index l.x 0 l.x.shards;
  place : l.shard + l.left ≡ l.x.shards;
}

abbrev pub decreases-loop-left : goal.decreases-loop-left
decreases-loop-left l = l.left
