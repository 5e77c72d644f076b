use Rattle.std.proofs.Common.{sym, ◌∙◌}
use Rattle.ccr_task.proofs.Calls.{waits-both, waits-writes}
use Rattle.ccr_task.proofs.task.Task.waits_until.Goals as goal

pub returns-then-not-may_read : goal.returns-then-not-may_read
returns-then-not-may_read c = waits-writes c.args.self.now c.writes_wait-writes.result (sym c.may_read.ensures ∙ c.if-not-may_read.true) c.writes_wait-writes.ensures

pub returns : goal.returns
returns c =
    waits-both c.args.self.now c.writes_wait-writes.result c.reads_wait.result (sym c.may_read.ensures ∙ c.if-not-may_read.false) c.writes_wait-writes.ensures c.reads_wait.ensures
