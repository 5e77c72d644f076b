use Rattle.ccr_law_tasks.proofs.Calls.{ticked-good}
use Rattle.ccr_law_tasks.proofs.task.retries.Goals as goal

pub returns : goal.returns
returns c = λ now line begun_at written t. ticked-good line begun_at written t now
