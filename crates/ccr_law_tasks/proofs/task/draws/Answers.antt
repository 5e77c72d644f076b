use Rattle.ccr_law_tasks.proofs.Calls.{drawn-good}
use Rattle.ccr_law_tasks.proofs.task.draws.Goals as goal

pub returns : goal.returns
returns c = drawn-good
