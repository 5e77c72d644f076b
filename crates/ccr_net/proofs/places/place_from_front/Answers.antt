use Rattle.std.proofs.Common.{arith}
use Rattle.ccr_net.proofs.Joining.{joined_more, joined_all, placed}
use Rattle.ccr_net.proofs.places.place_from_front.Goals as goal

pub returns-then-offset-size : goal.returns-then-offset-size
returns-then-offset-size c =
    placed c.args.chunks.now.items c.args.at c.loop-index.index c.loop-index.offset c.index.result.now (omega arith) c.index.ensures (omega arith) c.loop-index.invariant

pub loop-index-preserved : goal.loop-index-preserved
loop-index-preserved c =
    let more = joined_more c.args.chunks.now.items c.loop-index.index c.index.result.now (omega arith) c.index.ensures in
    omega (arith, more, c.loop-index.invariant)

pub unreachable-requires : goal.unreachable-requires
unreachable-requires c =
    omega (arith, joined_all c.args.chunks.now.items c.loop-index.index (omega arith), c.loop-index.invariant)
