use Rattle.ccr_lease.specs.Leases.{IsPlace}
use Rattle.ccr_lease.proofs.Ordered.{Ascend-taken}
use Rattle.ccr_lease.proofs.collection.Leases.remove.Goals as goal

pub invariant_of-self : goal.invariant_of-self
invariant_of-self c =
    let at : IsPlace c.args.id.now c.in-Ok.place c.as_slice.result.now = c.in-Ok.ensures in
    let here = rw c.as_slice.ensures.value at at in
    rw c.remove.ensures.items (Ascend-taken c.args.id.now c.in-Ok.place c.self.inside.list.items here c.self.invariant)
