use Rattle.ccr_task.proofs.Matches.{sent_if_due, mapped-turn}
use Rattle.ccr_task.proofs.lists.send_due_writes.Goals as goal

pub loop-i-preserved : goal.loop-i-preserved
loop-i-preserved c =
    mapped-turn (sent_if_due c.args.now) c.args.writes.now c.loop-i.writes c.loop-i.i c.index-writes-i.result c.send_if_due.new.self c.loop-i-test.true c.loop-i.invariant c.send_if_due.ensures
