use Rattle.std.proofs.Common.{◌≡◌, ◌+◌, ◌-◌, length}
use Rattle.ccr_segment.specs.Index.{least_after}
use Rattle.ccr_segment.specs.Reading.{ops_at}
use Rattle.ccr_segment.proofs.PlaceLaws.{with_front, total}
use Rattle.ccr_segment.proofs.reading.read_rest.Given as goal

abbrev pub invariant-loop : goal.invariant-loop
invariant-loop l = (with_front l.places.items l.routed l.start (ops_at l.version (least_after l.before) (l.number - l.counter) l.rest) ≡ total l.version l.number l.bytes) × (l.start + length l.rest ≡ length l.bytes + 9)
