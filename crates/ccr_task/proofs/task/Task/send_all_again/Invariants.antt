use Rattle.std.proofs.Common.{List, drop}
use Rattle.ccr_wire.specs.Message.{Frame}
use Rattle.ccr_model.specs.Tasks.{Task, all_sent_again}
use Rattle.ccr_task.specs.Does.{Did}
use Rattle.ccr_task.proofs.task.Task.send_all_again.Given as goal

abbrev pub invariant-loop-read : goal.invariant-loop-read
invariant-loop-read l = (new : Task) (after : List Frame) → Did new l.sent after (all_sent_again (drop l.read-index l.reads) l.self) → Did new l.initial.sent after (all_sent_again l.reads l.initial.self)
