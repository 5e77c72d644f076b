use Rattle.ccr_law_tasks.proofs.Calls.{reply-good}
use Rattle.ccr_law_tasks.proofs.task.replies.Goals as goal

pub returns : goal.returns
returns c = reply-good
