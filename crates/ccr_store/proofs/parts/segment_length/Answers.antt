use Rattle.std.proofs.Common.{◌≡◌, ◌+◌, length, drop, get_or, arith}
use Rattle.ccr_segment.specs.Segment.{spelling as segment_of_ops}
use Rattle.ccr_store.specs.Kept.{kept_at, ops_of, bytes_of}
use Rattle.ccr_store.proofs.Lengths.{bytes-turn, size_in, segment-length, ended}
use Rattle.ccr_store.proofs.parts.segment_length.Goals as goal

pub returns-then-bytes-size-clause-err : goal.returns-then-bytes-size-clause-err
returns-then-bytes-size-clause-err c =
    let turn : bytes_of (ops_of (kept_at c.args.ops.now.entries) (drop c.loop-n.n-index c.args.numbers.now))
    ≡ size_in (kept_at c.args.ops.now.entries) (get_or c.args.numbers.now c.loop-n.n-index 0) + bytes_of (ops_of (kept_at c.args.ops.now.entries) (drop (c.loop-n.n-index + 1) c.args.numbers.now)) =
    bytes-turn (kept_at c.args.ops.now.entries) c.args.numbers.now c.loop-n.n-index c.loop-n-test.true in
    let own : c.size_at-size.result ≡ size_in (kept_at c.args.ops.now.entries) (get_or c.args.numbers.now c.loop-n.n-index 0) = c.size_at-size.ensures in
    let so_far : c.loop-n.bytes + bytes_of (ops_of (kept_at c.args.ops.now.entries) (drop c.loop-n.n-index c.args.numbers.now)) ≡ 9 + bytes_of (ops_of (kept_at c.args.ops.now.entries) c.args.numbers.now) = c.loop-n.invariant in
    let all : length (segment_of_ops (ops_of (kept_at c.args.ops.now.entries) c.args.numbers.now)) ≡ 9 + bytes_of (ops_of (kept_at c.args.ops.now.entries) c.args.numbers.now) = segment-length (ops_of (kept_at c.args.ops.now.entries) c.args.numbers.now) in
    omega arith

pub loop-n-preserved : goal.loop-n-preserved
loop-n-preserved c =
    let turn : bytes_of (ops_of (kept_at c.args.ops.now.entries) (drop c.loop-n.n-index c.args.numbers.now))
    ≡ size_in (kept_at c.args.ops.now.entries) (get_or c.args.numbers.now c.loop-n.n-index 0) + bytes_of (ops_of (kept_at c.args.ops.now.entries) (drop (c.loop-n.n-index + 1) c.args.numbers.now)) =
    bytes-turn (kept_at c.args.ops.now.entries) c.args.numbers.now c.loop-n.n-index c.loop-n-test.true in
    let own : c.size_at-size.result ≡ size_in (kept_at c.args.ops.now.entries) (get_or c.args.numbers.now c.loop-n.n-index 0) = c.size_at-size.ensures in
    let so_far : c.loop-n.bytes + bytes_of (ops_of (kept_at c.args.ops.now.entries) (drop c.loop-n.n-index c.args.numbers.now)) ≡ 9 + bytes_of (ops_of (kept_at c.args.ops.now.entries) c.args.numbers.now) = c.loop-n.invariant in
    omega arith

pub returns-clause-ok : goal.returns-clause-ok
returns-clause-ok c =
    ended (kept_at c.args.ops.now.entries) c.args.numbers.now c.loop-n.n-index c.loop-n.bytes (omega arith) c.loop-n.invariant
