use Rattle.ccr_law_reached.proofs.InReached.{files_at}
use Rattle.ccr_law_reached.proofs.facts.fetched_files_are_right.Goals as goal

pub returns : goal.returns
returns c = files_at
