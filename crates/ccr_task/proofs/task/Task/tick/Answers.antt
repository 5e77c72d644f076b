use Rattle.ccr_task.proofs.Laws.{ticks-well}
use Rattle.ccr_task.proofs.task.Task.tick.Goals as goal

pub returns-clause-well : goal.returns-clause-well
returns-clause-well c = ticks-well c.args.now c.args.self.now c.retry_due.new.self c.in_ok-sent.sent c.in_ok-sent.ensures
