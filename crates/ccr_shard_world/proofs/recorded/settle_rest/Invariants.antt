use Rattle.std.proofs.Common.{◌≡◌, ◌-◌, ◌^◌, length}
use Rattle.ccr_law_reached.specs.Reached.{IsPossible}
use Rattle.ccr_shard_world.specs.Runs.{Settling}
use Rattle.ccr_shard_world.proofs.recorded.settle_rest.Given as goal

abbrev pub invariant-loop-chosen : goal.invariant-loop-chosen
invariant-loop-chosen l = (l.world.start ≡ l.fn.world.start) × IsPossible l.world.start l.world.journal × Settling l.fn.world.start l.fn.world.journal l.world.journal

abbrev pub decreases-loop-chosen : goal.decreases-loop-chosen
decreases-loop-chosen l = 2 ^ 32 - length l.world.journal
