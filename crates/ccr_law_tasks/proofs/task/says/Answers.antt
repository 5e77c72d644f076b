use Rattle.ccr_law_tasks.proofs.TaskSays.{says-true, says-bounded, says-once}
use Rattle.ccr_law_tasks.proofs.task.says.Goals as goal

pub returns : goal.returns
returns c = λ line begun_at written t good. record {
  truth = says-true line begun_at written t good;
  bounded = says-bounded line begun_at written t good;
  once = λ active. says-once line begun_at written t active good;
}
