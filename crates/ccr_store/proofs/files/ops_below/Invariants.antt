use Rattle.std.proofs.Common.{◌≡◌, ◌++◌, nat_lt, drop}
use Rattle.std.specs.Prelude.{filter}
use Rattle.ccr_store.specs.Kept.{kept_at, ops_of}
use Rattle.ccr_store.proofs.files.ops_below.Given as goal

abbrev pub invariant-loop-n : goal.invariant-loop-n
invariant-loop-n l = l.copies.items ++ filter (λ op. nat_lt op.seq l.count) (ops_of (kept_at l.ops.entries) (drop l.n-index l.numbers)) ≡ filter (λ op. nat_lt op.seq l.count) (ops_of (kept_at l.ops.entries) l.numbers)
