use Rattle.std.proofs.Common.{◌-◌, List}
use Rattle.ccr_wire.specs.Message.{Frame}
use Rattle.ccr_model.specs.Tasks.{Task, fill_reads, with_reads}
use Rattle.ccr_task.specs.Does.{Did}
use Rattle.ccr_task.proofs.task.Task.fill_reads.Given as goal

abbrev pub invariant-loop-turn : goal.invariant-loop-turn
invariant-loop-turn l = (new : Task) (after : List Frame) → Did new l.sent after (with_reads (l.turns - l.turn) l.self) → Did new l.initial.sent after (fill_reads l.initial.self)
