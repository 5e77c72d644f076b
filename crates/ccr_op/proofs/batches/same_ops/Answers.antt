use Rattle.std.proofs.Common.{sym}
use Rattle.ccr_op.proofs.Sameness.{same_operations-differ}
use Rattle.ccr_op.proofs.batches.same_ops.Goals as goal

pub returns-then-a-b : goal.returns-then-a-b
returns-then-a-b c = sym (same_operations-differ c.args.a.now c.args.b.now c.if-a-b.true)
