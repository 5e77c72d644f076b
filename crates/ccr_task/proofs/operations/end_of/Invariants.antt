use Rattle.std.proofs.Common.{◌≡◌, drop}
use Rattle.ccr_model.specs.Tasks.{end_of_ops}
use Rattle.ccr_task.proofs.operations.end_of.Given as goal

abbrev pub invariant-loop-op : goal.invariant-loop-op
invariant-loop-op l = end_of_ops (drop l.op-index l.ops) l.end ≡ end_of_ops l.ops l.next
