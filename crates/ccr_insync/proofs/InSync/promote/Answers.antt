use Rattle.std.proofs.Common.{rules, arith, max, ◌∙◌, ap}
use Rattle.std.proofs.lemmas.Grind.{common_steps}
use Rattle.ccr_insync.specs.Members.{least_known}
use Rattle.ccr_insync.proofs.Kept.{promoted_left}
use Rattle.ccr_insync.proofs.InSync.promote.Goals as goal

pub invariant_of-self : goal.invariant_of-self
invariant_of-self c =
    promoted_left c.self.inside.term c.self.inside.primary _ c.self.inside.global c.self.inside.members.items _ c.args.copy c.args.count c.args.global _ c.self.invariant
    (first_of (search rules, grind (arith, common_steps))) c.if-copy-self.false
    (first_of (search rules, grind (arith, common_steps)))
    (c.counted-self-inside.ensures ∙ ap (λ ms. max c.args.global (least_known ms)) c.deref-2.ensures.value)
