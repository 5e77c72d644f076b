use Rattle.ccr_model.specs.Past.{start_past, past_of}
use Rattle.ccr_law_leases.proofs.Events.{leases-hold}
use Rattle.ccr_law_leases.proofs.Says.{leases-says}
use Rattle.ccr_law_leases.proofs.law.leader_leases.Goals as goal

pub returns-clause-truth : goal.returns-clause-truth
returns-clause-truth c = leases-hold

pub returns-clause-retained : goal.returns-clause-retained
returns-clause-retained c start counts entries legal = leases-says (past_of (start_past start) entries) (leases-hold start counts entries legal)
