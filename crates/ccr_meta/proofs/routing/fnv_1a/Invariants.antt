use Rattle.std.proofs.Common.{◌≡◌, drop}
use Rattle.std.specs.Prelude.{fold}
use Rattle.ccr_meta.specs.Routing.{fnv_step, fnv_1a}
use Rattle.ccr_meta.proofs.routing.fnv_1a.Given as goal

abbrev pub invariant-loop-byte : goal.invariant-loop-byte
invariant-loop-byte l = fold fnv_step l.hash (drop l.byte-index l.bytes) ≡ fnv_1a l.bytes
