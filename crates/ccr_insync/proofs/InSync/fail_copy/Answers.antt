use Rattle.std.proofs.Common.{max, ◌∙◌, ap}
use Rattle.ccr_insync.specs.Members.{least_known}
use Rattle.ccr_insync.proofs.Kept.{left_left}
use Rattle.ccr_insync.proofs.InSync.fail_copy.Goals as goal

pub invariant_of-self : goal.invariant_of-self
invariant_of-self c =
    left_left _ _ _ c.self.inside.global c.self.inside.members.items _ c.args.copy _ c.self.invariant c.if-copy-self.false c.take_out.ensures
    (c.counted-self-inside.ensures ∙ ap (λ ms. max c.self.inside.global (least_known ms)) c.deref-2.ensures.value)
