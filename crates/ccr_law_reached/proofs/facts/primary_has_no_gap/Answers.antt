use Rattle.ccr_law_reached.proofs.InReached.{no_gap_at}
use Rattle.ccr_law_reached.proofs.facts.primary_has_no_gap.Goals as goal

pub returns : goal.returns
returns c = no_gap_at
