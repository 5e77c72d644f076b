use Rattle.ccr_auto.proofs.Ordered.{Ascend-nil}
use Rattle.ccr_auto.proofs.follow.AutoFollow.new.Goals as goal

pub invariant_of-result : goal.invariant_of-result
invariant_of-result c = rw c.new.ensures.items Ascend-nil
