use Rattle.std.proofs.Common.{rules, arith}
use Rattle.std.proofs.lemmas.Grind.{common_steps}
use Rattle.ccr_insync.proofs.Kept.{resynced_left}
use Rattle.ccr_insync.proofs.InSync.resynced.Goals as goal

pub invariant_of-self : goal.invariant_of-self
invariant_of-self c =
    resynced_left _ _ _ _ c.self.inside.members.items _ c.args.copy c.self.invariant
    (first_of (search rules, grind (arith, common_steps)))
