use Rattle.ccr_law_reached.proofs.InReached.{parts_at}
use Rattle.ccr_law_reached.proofs.facts.parts_are_there.Goals as goal

pub returns : goal.returns
returns c = parts_at
