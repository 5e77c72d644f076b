use Rattle.ccr_settling.specs.Idle.{NoneWaitsBelow}
use Rattle.ccr_settling.proofs.followers.first_to_wait.Given as goal

abbrev pub invariant-loop-f : goal.invariant-loop-f
invariant-loop-f l = NoneWaitsBelow l.shard l.f
