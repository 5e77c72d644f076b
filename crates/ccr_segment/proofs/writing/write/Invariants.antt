use Rattle.std.proofs.Common.{◌≡◌, take}
use Rattle.ccr_segment.proofs.writing.write.Given as goal

abbrev pub invariant-loop-op : goal.invariant-loop-op
invariant-loop-op l = l.writer ≡ take l.op-index l.ops
