use Rattle.std.proofs.Common.{◌≡◌, ℕ, ◌++◌, map, take, drop}
use Rattle.ccr_model.specs.Copies.{Replica}
use Rattle.ccr_copies.specs.Places.{AreNumbered}
use Rattle.ccr_copies.proofs.Walking.{filed}
use Rattle.ccr_copies.proofs.walks.restore_all.Given as goal

abbrev pub invariant-loop-replica : goal.invariant-loop-replica
invariant-loop-replica l =
    (l.replicas ≡ map {A = Replica} {B = Replica} (filed l.count l.store) (take l.replica-index l.initial.replicas) ++ drop l.replica-index l.initial.replicas)
    × ((next : ℕ) → AreNumbered next l.initial.replicas → AreNumbered next l.replicas)
