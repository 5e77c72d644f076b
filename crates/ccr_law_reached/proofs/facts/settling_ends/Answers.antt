use Rattle.ccr_law_reached.proofs.InReached.{ends_at}
use Rattle.ccr_law_reached.proofs.facts.settling_ends.Goals as goal

pub returns : goal.returns
returns c = ends_at
