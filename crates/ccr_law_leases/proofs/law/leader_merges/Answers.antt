use Rattle.ccr_law_leases.proofs.Says.{merges-safely}
use Rattle.ccr_law_leases.proofs.law.leader_merges.Goals as goal

pub returns : goal.returns
returns c = merges-safely
