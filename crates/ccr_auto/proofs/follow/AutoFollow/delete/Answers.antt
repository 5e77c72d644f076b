use Rattle.ccr_auto.specs.Follow.{IsPlace}
use Rattle.ccr_auto.proofs.Ordered.{Ascend-taken}
use Rattle.ccr_auto.proofs.follow.AutoFollow.delete.Goals as goal

pub invariant_of-self : goal.invariant_of-self
invariant_of-self c =
    let at : IsPlace c.args.name.now c.in-Ok.place c.as_slice.result.now = c.in-Ok.ensures in
    let here = rw c.as_slice.ensures.value at at in
    rw c.remove.ensures.items (Ascend-taken c.args.name.now c.in-Ok.place c.self.inside.list.items here c.self.invariant)
