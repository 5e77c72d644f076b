use Rattle.std.proofs.Common.{◌≡◌, ◌+◌, ◌*◌, ◌≤◌, length, take}
use Rattle.std.specs.Prelude.{sum_by}
use Rattle.ccr_op.specs.Spelling.{spelling as op_spelling}
use Rattle.ccr_segment.proofs.writing.size.Given as goal

abbrev pub invariant-loop-op : goal.invariant-loop-op
invariant-loop-op l = (l.size ≡ 9 + sum_by (λ op. length (op_spelling op)) (take l.op-index l.ops)) × (l.size ≤ 9 + l.op-index * 1048576)
