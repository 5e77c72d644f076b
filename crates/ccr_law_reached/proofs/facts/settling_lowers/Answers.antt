use Rattle.ccr_law_reached.proofs.InReached.{lowers_at, lowers_after}
use Rattle.ccr_law_reached.proofs.facts.settling_lowers.Goals as goal

pub returns-clause-state : goal.returns-clause-state
returns-clause-state c = lowers_at

pub returns-clause-places : goal.returns-clause-places
returns-clause-places c = lowers_after
