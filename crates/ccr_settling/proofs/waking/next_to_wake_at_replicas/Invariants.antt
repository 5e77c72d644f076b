use Rattle.ccr_settling.specs.Idle.{NoneWakesAtReplica}
use Rattle.ccr_settling.specs.Served.{EachBelow}
use Rattle.ccr_settling.proofs.waking.next_to_wake_at_replicas.Given as goal

abbrev pub invariant-loop-place : goal.invariant-loop-place
invariant-loop-place l = EachBelow l.place (NoneWakesAtReplica l.shard) l.shard.leader.copies
