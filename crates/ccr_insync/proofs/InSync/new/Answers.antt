use Rattle.std.proofs.Common.{arith}
use Rattle.ccr_insync.proofs.Kept.{first_left}
use Rattle.ccr_insync.proofs.InSync.new.Goals as goal

pub invariant_of-result : goal.invariant_of-result
invariant_of-result c =
    first_left c.args.copies c.loop-copy.copy c.loop-copy.members.items c.requires.some c.requires.few (omega arith) c.loop-copy.invariant
