use Rattle.std.proofs.Common.{nat_lt}
use Rattle.std.specs.Prelude.{filter}
use Rattle.ccr_store.specs.Kept.{kept_at, ops_of}
use Rattle.ccr_store.proofs.Views.{copies-turn}
use Rattle.ccr_store.proofs.files.ops_below.Goals as goal

pub loop-n-preserved : goal.loop-n-preserved
loop-n-preserved c =
    copies-turn (kept_at c.args.ops.now.entries) (λ op. nat_lt op.seq c.args.count) c.args.numbers.now c.loop-n.n-index c.loop-n.copies.items c.push_below.new.copies.items
    (filter (λ op. nat_lt op.seq c.args.count) (ops_of (kept_at c.args.ops.now.entries) c.args.numbers.now)) c.loop-n-test.true c.in_ok-push_below.ensures c.loop-n.invariant
