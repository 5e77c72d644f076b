use Rattle.std.proofs.Common.{◌≤◌, ◌≡◌, ◌+◌, nat_lt, drop, filter, length}
use Rattle.ccr_op.specs.Operation.{Operation}
use Rattle.ccr_task.proofs.operations.count_below.Given as goal

abbrev pub invariant-loop-op : goal.invariant-loop-op
invariant-loop-op l = record {
  counts : l.below + length (filter (λ (op : Operation). nat_lt op.seq l.to) (drop l.op-index l.ops)) ≡ length (filter (λ (op : Operation). nat_lt op.seq l.to) l.ops);
  few : l.below ≤ l.op-index;
}
