use Rattle.std.proofs.Common.{◌≡◌, ◌+◌, drop, get_or, arith}
use Rattle.ccr_store.specs.Kept.{kept_at, ops_of, bytes_of}
use Rattle.ccr_store.proofs.Lengths.{bytes-turn, size_in}
use Rattle.ccr_store.proofs.parts.bytes_at.Goals as goal

pub overflow_add-bytes : goal.overflow_add-bytes
overflow_add-bytes c =
    let turn : bytes_of (ops_of (kept_at c.args.ops.now.entries) (drop c.loop-n.n-index c.args.numbers.now))
    ≡ size_in (kept_at c.args.ops.now.entries) (get_or c.args.numbers.now c.loop-n.n-index 0) + bytes_of (ops_of (kept_at c.args.ops.now.entries) (drop (c.loop-n.n-index + 1) c.args.numbers.now)) =
    bytes-turn (kept_at c.args.ops.now.entries) c.args.numbers.now c.loop-n.n-index c.loop-n-test.true in
    let size : c.size_at-bytes.result ≡ size_in (kept_at c.args.ops.now.entries) (get_or c.args.numbers.now c.loop-n.n-index 0) = c.size_at-bytes.ensures in
    let so_far : c.loop-n.bytes + bytes_of (ops_of (kept_at c.args.ops.now.entries) (drop c.loop-n.n-index c.args.numbers.now)) ≡ bytes_of (ops_of (kept_at c.args.ops.now.entries) c.args.numbers.now) = c.loop-n.invariant in
    omega arith

pub loop-n-preserved : goal.loop-n-preserved
loop-n-preserved c =
    let turn : bytes_of (ops_of (kept_at c.args.ops.now.entries) (drop c.loop-n.n-index c.args.numbers.now))
    ≡ size_in (kept_at c.args.ops.now.entries) (get_or c.args.numbers.now c.loop-n.n-index 0) + bytes_of (ops_of (kept_at c.args.ops.now.entries) (drop (c.loop-n.n-index + 1) c.args.numbers.now)) =
    bytes-turn (kept_at c.args.ops.now.entries) c.args.numbers.now c.loop-n.n-index c.loop-n-test.true in
    let size : c.size_at-bytes.result ≡ size_in (kept_at c.args.ops.now.entries) (get_or c.args.numbers.now c.loop-n.n-index 0) = c.size_at-bytes.ensures in
    let so_far : c.loop-n.bytes + bytes_of (ops_of (kept_at c.args.ops.now.entries) (drop c.loop-n.n-index c.args.numbers.now)) ≡ bytes_of (ops_of (kept_at c.args.ops.now.entries) c.args.numbers.now) = c.loop-n.invariant in
    omega arith
