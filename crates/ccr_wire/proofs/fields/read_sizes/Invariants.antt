use Rattle.std.proofs.Common.{◌≡◌, ◌-◌}
use Rattle.ccr_wire.specs.Reading.{sizes_at}
use Rattle.ccr_wire.proofs.WireLoops.{with_front}
use Rattle.ccr_wire.proofs.fields.read_sizes.Given as goal

abbrev pub invariant-loop : goal.invariant-loop
invariant-loop l = with_front l.sizes.items (sizes_at (l.number - l.counter) l.rest) ≡ sizes_at l.number l.bytes
