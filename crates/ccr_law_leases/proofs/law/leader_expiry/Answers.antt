use Rattle.ccr_law_leases.proofs.Expiring.{expires-rightly}
use Rattle.ccr_law_leases.proofs.law.leader_expiry.Goals as goal

pub returns : goal.returns
returns c = expires-rightly
