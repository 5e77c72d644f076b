use Rattle.ccr_task.proofs.Laws.{starts-well}
use Rattle.ccr_task.proofs.task.Task.start.Goals as goal

pub returns-clause-well : goal.returns-clause-well
returns-clause-well c =
    starts-well c.args.params c.args.count c.args.epoch c.args.history c.args.follower c.args.request c.in_ok-begun.begun.0 c.in_ok-begun.begun.1 c.values-ranges.ensures.bounds c.in_ok-begun.ensures
