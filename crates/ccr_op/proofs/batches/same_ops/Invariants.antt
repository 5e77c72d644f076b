use Rattle.std.proofs.Common.{◌≡◌, drop}
use Rattle.ccr_op.specs.Sameness.{same_operations}
use Rattle.ccr_op.proofs.batches.same_ops.Given as goal

abbrev pub invariant-loop-i : goal.invariant-loop-i
invariant-loop-i l = same_operations (drop l.i l.a) (drop l.i l.b) ≡ same_operations l.a l.b
