use Rattle.std.proofs.Common.{sym, ◌∙◌}
use Rattle.ccr_task.proofs.Calls.{ends-none, ends-some}
use Rattle.ccr_task.proofs.task.Task.end_sent.Goals as goal

pub returns-then-not-has_sent : goal.returns-then-not-has_sent
returns-then-not-has_sent c = ends-none c.args.self.now c.args.write (sym c.has_sent.ensures ∙ c.if-not-has_sent.true)

pub returns-in-Ok : goal.returns-in-Ok
returns-in-Ok c = ends-some c.args.self.now c.end.new.self c.args.write c.in-Ok.sent (sym c.has_sent.ensures ∙ c.if-not-has_sent.false) c.in-Ok.ensures
