use Rattle.ccr_law_tasks.proofs.Calls.{write_ended-good}
use Rattle.ccr_law_tasks.proofs.task.ends.Goals as goal

pub returns : goal.returns
returns c = write_ended-good
