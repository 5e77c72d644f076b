use Rattle.ccr_task.proofs.Laws.{hears-well}
use Rattle.ccr_task.proofs.task.Task.on_reply.Goals as goal

pub returns-clause-well : goal.returns-clause-well
returns-clause-well c = hears-well c.args.self.now c.args.reply.request c.args.reply.content c.in_ok-taken.taken c.hear.new.self c.in_ok-taken.ensures
