use Rattle.ccr_law_reached.proofs.InReached.{kept_at}
use Rattle.ccr_law_reached.proofs.facts.kept_requests_wait.Goals as goal

pub returns : goal.returns
returns c = kept_at
