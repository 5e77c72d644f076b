use Rattle.std.proofs.Common.{◌≡◌}
use Rattle.ccr_shard.specs.Wholes.{are_whole_from}
use Rattle.ccr_shard.proofs.lookups.are_whole.Given as goal

abbrev pub invariant-loop-place : goal.invariant-loop-place
invariant-loop-place l = are_whole_from l.place l.count l.copies.replicas ≡ are_whole_from 0 l.count l.copies.replicas
