use Rattle.ccr_task.proofs.Laws.{ends-well}
use Rattle.ccr_task.proofs.task.Task.on_written.Goals as goal

pub returns-clause-well : goal.returns-clause-well
returns-clause-well c = ends-well c.args.write c.end_sent.result c.args.self.now c.end_sent.new.self c.end_sent.ensures
