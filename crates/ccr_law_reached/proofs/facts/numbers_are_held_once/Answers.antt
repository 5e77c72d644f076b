use Rattle.ccr_law_reached.proofs.InReached.{held_once_at}
use Rattle.ccr_law_reached.proofs.facts.numbers_are_held_once.Goals as goal

pub returns : goal.returns
returns c = held_once_at
