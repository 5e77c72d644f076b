use Rattle.std.specs.Prelude.{find}
use Rattle.std.proofs.Common.{◌≡◌, ◌&&◌, not, drop}
use Rattle.ccr_model.specs.Copies.{Replica}
use Rattle.ccr_copies.proofs.walks.first_unready.Given as goal

abbrev pub invariant-loop-replica : goal.invariant-loop-replica
invariant-loop-replica l =
    find (λ (r : Replica). not (r.resynced && r.acked)) (drop l.replica-index l.replicas) ≡ find (λ (r : Replica). not (r.resynced && r.acked)) l.replicas
