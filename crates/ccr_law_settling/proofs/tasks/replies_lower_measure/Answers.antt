use Rattle.ccr_law_settling.proofs.Task.ReplySays.{replies_lower}
use Rattle.ccr_law_settling.proofs.tasks.replies_lower_measure.Goals as goal

pub returns : goal.returns
returns c = record { lower = replies_lower }
