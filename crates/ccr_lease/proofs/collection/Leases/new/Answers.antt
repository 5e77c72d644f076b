use Rattle.ccr_lease.proofs.Ordered.{Ascend-nil}
use Rattle.ccr_lease.proofs.collection.Leases.new.Goals as goal

pub invariant_of-result : goal.invariant_of-result
invariant_of-result c = rw c.new.ensures.items Ascend-nil
