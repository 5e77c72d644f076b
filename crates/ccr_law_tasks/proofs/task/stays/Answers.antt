use Rattle.ccr_law_tasks.proofs.Calls.{later-good}
use Rattle.ccr_law_tasks.proofs.task.stays.Goals as goal

pub returns : goal.returns
returns c = later-good
