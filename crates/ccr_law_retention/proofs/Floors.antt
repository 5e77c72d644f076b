-- What is taken of the leader's copies follows from what is stated of them.
use Rattle.std.proofs.Common.{◌≤◌, arith}
use Rattle.ccr_model.specs.Copies.{Copy, Replica, all_copies}
use Rattle.ccr_model.specs.Past.{Past}
use Rattle.ccr_model.specs.Invariants.{IsTrueReplica, IsTrueLeader}
use Rattle.ccr_law_base.proofs.Lists.{All-weaker, All-map}
use Rattle.ccr_law_retention.specs.Grounds.{FloorsLow}

-- each floor is at most the global count that its copy knows, and that is at most the cut
pub floors-low : (p : Past) → IsTrueLeader p → FloorsLow p.line.cut (all_copies p.state.leader.copies)
floors-low p leader =
    let floor : p.state.leader.copies.primary.floor ≤ p.state.leader.copies.primary.global = leader.store.floor in
    let global : p.state.leader.copies.primary.global ≤ p.line.cut = leader.copy.global in (
      omega arith,
      All-map (λ (c : Copy). c.floor ≤ p.line.cut) (λ (r : Replica). r.copy) p.state.leader.copies.replicas
          (All-weaker (IsTrueReplica p) (λ (r : Replica). r.copy.floor ≤ p.line.cut)
          (λ r own.
          let low : r.copy.floor ≤ r.copy.global = own.store.floor in
          let known : r.copy.global ≤ p.line.cut = own.line.global in
          omega arith) p.state.leader.copies.replicas leader.replicas),
    )
