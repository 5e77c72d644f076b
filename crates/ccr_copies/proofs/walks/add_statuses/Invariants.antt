use Rattle.std.proofs.Common.{◌≡◌, ◌++◌, map, drop}
use Rattle.ccr_journal.specs.declared.statuses.CopyStatus.{CopyStatus}
use Rattle.ccr_model.specs.Copies.{Replica, status_of}
use Rattle.ccr_copies.proofs.walks.add_statuses.Given as goal

abbrev pub invariant-loop-replica : goal.invariant-loop-replica
invariant-loop-replica l =
    l.list.items ++ map {A = Replica} {B = CopyStatus} (λ r. status_of r.copy) (drop l.replica-index l.replicas)
    ≡ l.initial.list.items ++ map {A = Replica} {B = CopyStatus} (λ r. status_of r.copy) l.replicas
