use Rattle.ccr_model.specs.Tasks.{ticked}
use Rattle.ccr_task.proofs.Sending.{did-same}
use Rattle.ccr_task.proofs.task.Task.retry_due.Goals as goal

pub returns : goal.returns
returns c =
    did-same (ticked c.args.now) c.args.self.now c.break_off.new.self c.send_due.new.self c.mend.new.self c.none-sent.result c.send_due.new.sent c.break_off.ensures c.mend.ensures c.none-sent.ensures c.in_ok-send_due.ensures
