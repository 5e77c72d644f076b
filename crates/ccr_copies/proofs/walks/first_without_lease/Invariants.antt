use Rattle.std.specs.Prelude.{find}
use Rattle.std.proofs.Common.{◌≡◌, not, drop}
use Rattle.ccr_model.specs.Copies.{Copy, has_lease}
use Rattle.ccr_copies.proofs.Walking.{copies_of}
use Rattle.ccr_copies.proofs.walks.first_without_lease.Given as goal

abbrev pub invariant-loop-replica : goal.invariant-loop-replica
invariant-loop-replica l =
    find (λ (c : Copy). not (has_lease l.id c)) (copies_of (drop l.replica-index l.replicas)) ≡ find (λ (c : Copy). not (has_lease l.id c)) (copies_of l.replicas)
