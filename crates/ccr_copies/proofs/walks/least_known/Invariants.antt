use Rattle.std.proofs.Common.{◌≡◌, drop}
use Rattle.ccr_model.specs.Copies.{least_known}
use Rattle.ccr_copies.proofs.walks.least_known.Given as goal

abbrev pub invariant-loop-replica : goal.invariant-loop-replica
invariant-loop-replica l = least_known l.least (drop l.replica-index l.replicas) ≡ least_known l.count l.replicas
