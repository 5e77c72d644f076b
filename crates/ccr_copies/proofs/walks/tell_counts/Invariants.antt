use Rattle.std.proofs.Common.{◌≡◌, ◌++◌, map, take, drop}
use Rattle.ccr_model.specs.Copies.{Replica}
use Rattle.ccr_model.specs.CopyRows.{with_true_count}
use Rattle.ccr_copies.proofs.walks.tell_counts.Given as goal

abbrev pub invariant-loop-replica : goal.invariant-loop-replica
invariant-loop-replica l =
    l.replicas ≡ map {A = Replica} {B = Replica} with_true_count (take l.replica-index l.initial.replicas) ++ drop l.replica-index l.initial.replicas
