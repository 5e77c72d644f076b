use Rattle.std.proofs.Common.{◌≡◌, ◌++◌, nat_lt, filter}
use Rattle.std.specs.Vec.Iter.{into_iter_items}
use Rattle.ccr_op.specs.Operation.{Operation}
use Rattle.ccr_task.proofs.operations.below.Given as goal

abbrev pub invariant-loop-op : goal.invariant-loop-op
invariant-loop-op l = l.kept.items ++ filter (λ (op : Operation). nat_lt op.seq l.to) (into_iter_items l.op-iterator) ≡ filter (λ (op : Operation). nat_lt op.seq l.to) l.fn.ops.items
