use Rattle.std.proofs.Common.{◌≡◌, ◌++◌, take}
use Rattle.std.specs.List.{flat_map}
use Rattle.ccr_op.specs.Spelling.{spelling}
use Rattle.ccr_wire.proofs.encoding.put_ops.Given as goal

abbrev pub invariant-loop-op : goal.invariant-loop-op
invariant-loop-op l = l.to.items ≡ l.initial.to.items ++ flat_map spelling (take l.op-index l.ops)
