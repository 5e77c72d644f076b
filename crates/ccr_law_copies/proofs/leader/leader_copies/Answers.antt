use Rattle.ccr_law_copies.proofs.LeaderEvents.{core-at, true_core_at, committed_at}
use Rattle.ccr_law_copies.proofs.leader.leader_copies.Goals as goal

pub returns-clause-invariant : goal.returns-clause-invariant
returns-clause-invariant c = core-at

pub returns-clause-copies : goal.returns-clause-copies
returns-clause-copies c = true_core_at

pub returns-clause-committed : goal.returns-clause-committed
returns-clause-committed c = committed_at
