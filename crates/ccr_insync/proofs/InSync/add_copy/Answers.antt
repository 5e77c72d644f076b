use Rattle.std.proofs.Common.{rules, arith, max, ◌∙◌, ap}
use Rattle.std.proofs.lemmas.Grind.{common_steps}
use Rattle.ccr_insync.specs.Members.{least_known}
use Rattle.ccr_insync.proofs.Kept.{added_left}
use Rattle.ccr_insync.proofs.InSync.add_copy.Goals as goal

pub invariant_of-self-2 : goal.invariant_of-self-2
invariant_of-self-2 c =
    added_left _ _ c.self.inside.next c.self.inside.global c.self.inside.members.items _ c.map_or-known.result _ c.self.invariant
    (first_of (search rules, grind (arith, common_steps)))
    (first_of (search rules, grind (arith, common_steps)))
    (c.counted-self-inside.ensures ∙ ap (λ ms. max c.self.inside.global (least_known ms)) c.deref-2.ensures.value)
