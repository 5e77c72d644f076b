use Rattle.std.proofs.Common.{take}
use Rattle.std.specs.List.{AllByRecursion}
use Rattle.ccr_op.specs.Operation.{HasSpelling}
use Rattle.ccr_segment.proofs.writing.know_ops.Given as goal

abbrev pub invariant-loop-op : goal.invariant-loop-op
invariant-loop-op l = AllByRecursion HasSpelling (take l.op-index l.ops)
