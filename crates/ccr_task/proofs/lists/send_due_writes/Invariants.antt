use Rattle.std.proofs.Common.{◌≡◌, ◌++◌, take, drop, map}
use Rattle.ccr_task.proofs.Matches.{sent_if_due}
use Rattle.ccr_task.proofs.lists.send_due_writes.Given as goal

abbrev pub invariant-loop-i : goal.invariant-loop-i
invariant-loop-i l = l.writes ≡ map (sent_if_due l.now) (take l.i l.initial.writes) ++ drop l.i l.initial.writes
