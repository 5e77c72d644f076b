use Rattle.std.proofs.Common.{◌≡◌, ◌+◌, ◌-◌}
use Rattle.ccr_wire.specs.Reading.{ops_at}
use Rattle.ccr_wire.proofs.WireLoops.{with_front}
use Rattle.ccr_wire.proofs.fields.read_ops.Given as goal

abbrev pub invariant-loop-place : goal.invariant-loop-place
invariant-loop-place l = with_front l.ops.items (ops_at (l.from + l.place) (l.number - l.place) l.rest) ≡ ops_at l.from l.number l.bytes
