-- What the end of a write comes to.
use Rattle.std.specs.Prelude.{◌≡◌, List, [], Option, Some, None, Result, Ok, Err}
use Rattle.ccr_wire.specs.Message.{Frame}
use Rattle.ccr_model.specs.Tasks.{Task, Write, write_ended}
use Rattle.ccr_task.specs.declared.task.TaskFault.{TaskFault}
use Rattle.ccr_task.specs.declared.task.TaskFault.TheVariants as faults
use Rattle.ccr_task.specs.Does.{Did}

-- By the write that was sent: where there is none, this is told and nothing changes, and otherwise it ends. After want of
-- memory nothing is said.
abbrev pub EndsWrite : Task → Option Write → Result (List Frame) TaskFault → Task → Type 0
EndsWrite t found (Err faults.Memory) new = Unit {0}
EndsWrite t None (Err faults.NoBatch) new = new ≡ t
EndsWrite t (Some w) (Ok sent) new = Did new [] sent (write_ended t w)
EndsWrite t _ _ new = ⊥
