use Rattle.std.specs.List.{list_all}
use Rattle.std.proofs.Common.{◌≡◌, drop}
use Rattle.ccr_op.specs.Operation.{Operation}
use Rattle.ccr_tracker.specs.Numbers.{has}
use Rattle.ccr_copies.proofs.copy_side.has_numbers.Given as goal

abbrev pub invariant-loop-op : goal.invariant-loop-op
invariant-loop-op l = list_all (λ (op : Operation). has l.seen op.seq) (drop l.op-index l.batch) ≡ list_all (λ (op : Operation). has l.seen op.seq) l.batch
