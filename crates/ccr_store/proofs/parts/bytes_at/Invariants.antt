use Rattle.std.proofs.Common.{◌≡◌, ◌+◌, drop}
use Rattle.ccr_store.specs.Kept.{bytes_of, kept_at, ops_of}
use Rattle.ccr_store.proofs.parts.bytes_at.Given as goal

abbrev pub invariant-loop-n : goal.invariant-loop-n
invariant-loop-n l = l.bytes + bytes_of (ops_of (kept_at l.ops.entries) (drop l.n-index l.numbers)) ≡ bytes_of (ops_of (kept_at l.ops.entries) l.numbers)
