use Rattle.std.proofs.Common.{◌≡◌, drop}
use Rattle.ccr_copies.proofs.Walking.{least_lacking, merged_least}
use Rattle.ccr_copies.proofs.walks.least_lacking.Given as goal

abbrev pub invariant-loop-replica : goal.invariant-loop-replica
invariant-loop-replica l = merged_least l.least (least_lacking l.batch (drop l.replica-index l.replicas)) ≡ least_lacking l.batch l.replicas
