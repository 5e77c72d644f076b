use Rattle.std.proofs.Common.{◌≡◌, ◌∙◌, take, arith}
use Rattle.std.proofs.lemmas.List.{take_all}
use Rattle.ccr_lease.proofs.collection.Leases.copy.Goals as goal

pub invariant_of-result : goal.invariant_of-result
invariant_of-result c =
    let xs = c.deref-lease-items.result.now in
    let full : take c.loop-lease.lease-index xs ≡ xs = take_all c.loop-lease.lease-index xs (omega arith) in
    let e = c.loop-lease.invariant ∙ (full ∙ c.deref-lease-items.ensures.value) in
    rw e c.self.invariant
