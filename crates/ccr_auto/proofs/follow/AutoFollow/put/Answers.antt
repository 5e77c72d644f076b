use Rattle.ccr_auto.specs.Follow.{IsGap}
use Rattle.ccr_auto.proofs.Markers.{MarksOnce-copied}
use Rattle.ccr_auto.proofs.Ordered.{Ascend-added, Ascend-either}
use Rattle.ccr_auto.proofs.follow.AutoFollow.put.Goals as goal

pub invariant_of-entry : goal.invariant_of-entry
invariant_of-entry c = MarksOnce-copied _ _ _ _ _ c.in-Some.ensures c.in-Ok-from_str.ensures.ok c.in-Ok-from_str-2.ensures.ok

pub invariant_of-self-2 : goal.invariant_of-self-2
invariant_of-self-2 c =
    let gap : IsGap c.args.name c.in-Err.place c.as_slice.result.now = c.in-Err.ensures in
    let here = rw c.as_slice.ensures.value at gap in
    rw c.insert.ensures.items (Ascend-either _ _ _ (Ascend-added _ c.in-Err.place c.self.inside.list.items here c.self.invariant) c.self.invariant)
