use Rattle.ccr_law_tasks.proofs.Calls.{started-good}
use Rattle.ccr_law_tasks.proofs.task.starts.Goals as goal

pub returns : goal.returns
returns c = started-good
