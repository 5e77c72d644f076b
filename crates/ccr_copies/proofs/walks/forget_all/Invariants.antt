use Rattle.std.proofs.Common.{◌≡◌, ◌++◌, map, take, drop}
use Rattle.ccr_model.specs.Copies.{Replica}
use Rattle.ccr_model.specs.CopyRows.{unknown}
use Rattle.ccr_copies.proofs.walks.forget_all.Given as goal

abbrev pub invariant-loop-replica : goal.invariant-loop-replica
invariant-loop-replica l =
    l.replicas ≡ map {A = Replica} {B = Replica} unknown (take l.replica-index l.initial.replicas) ++ drop l.replica-index l.initial.replicas
