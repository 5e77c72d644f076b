use Rattle.std.proofs.Common.{◌≡◌, ◌∷◌, drop}
use Rattle.ccr_model.specs.Copies.{greatest}
use Rattle.ccr_copies.proofs.Walking.{floors_of}
use Rattle.ccr_copies.proofs.walks.greatest_floor_with.Given as goal

abbrev pub invariant-loop-replica : goal.invariant-loop-replica
invariant-loop-replica l = greatest (l.greatest ∷ floors_of (drop l.replica-index l.replicas)) ≡ greatest (l.floor ∷ floors_of l.replicas)
