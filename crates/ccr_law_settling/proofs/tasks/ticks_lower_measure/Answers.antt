use Rattle.ccr_law_settling.proofs.Task.Ticks.{ticks_lower}
use Rattle.ccr_law_settling.proofs.tasks.ticks_lower_measure.Goals as goal

pub returns : goal.returns
returns c = record { lower = ticks_lower }
