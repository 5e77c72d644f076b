use Rattle.ccr_law_settling_grounds.proofs.Work.Events.{each_event}
use Rattle.ccr_law_settling_grounds.proofs.works.pending.Goals as goal

pub returns-clause-keep : goal.returns-clause-keep
returns-clause-keep c = each_event
