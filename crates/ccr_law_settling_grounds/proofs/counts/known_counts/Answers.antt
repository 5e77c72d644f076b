use Rattle.ccr_law_settling_grounds.proofs.Count.Events.{known_start, known_keep}
use Rattle.ccr_law_settling_grounds.proofs.counts.known_counts.Goals as goal

pub returns-clause-start : goal.returns-clause-start
returns-clause-start c = known_start

pub returns-clause-keep : goal.returns-clause-keep
returns-clause-keep c = known_keep
