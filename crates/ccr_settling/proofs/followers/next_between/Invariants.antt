use Rattle.ccr_settling.specs.Still.{AreStillBetween}
use Rattle.ccr_settling.proofs.followers.next_between.Given as goal

abbrev pub invariant-loop-f : goal.invariant-loop-f
invariant-loop-f l = AreStillBetween l.shard l.first l.f
