use Rattle.std.proofs.Common.{◌≡◌, take}
use Rattle.ccr_segment.specs.Index.{ops_in}
use Rattle.ccr_segment.proofs.segment.all_ops.Given as goal

abbrev pub invariant-loop-place : goal.invariant-loop-place
invariant-loop-place l = l.ops.items ≡ take l.place-index (ops_in l.bytes)
