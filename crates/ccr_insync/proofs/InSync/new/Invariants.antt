use Rattle.std.proofs.Common.{◌≡◌}
use Rattle.ccr_insync.specs.InSyncSet.{first_copies}
use Rattle.ccr_insync.proofs.InSync.new.Given as goal

abbrev pub invariant-loop-copy : goal.invariant-loop-copy
invariant-loop-copy l = l.members.items ≡ first_copies l.copy
