use Rattle.std.proofs.Common.{◌-◌, arith}
use Rattle.ccr_net.proofs.Joining.{joined_less, placed}
use Rattle.ccr_net.proofs.places.place_from_back.Goals as goal

pub overflow_sub-start : goal.overflow_sub-start
overflow_sub-start c =
    let less = joined_less c.args.chunks.now.items c.loop-index.index c.index.result.now (omega arith) c.loop-index.invariant.in_range c.index.ensures in
    omega (arith, less)

pub returns-then-start-at : goal.returns-then-start-at
returns-then-start-at c =
    let less = joined_less c.args.chunks.now.items c.loop-index.index c.index.result.now (omega arith) c.loop-index.invariant.in_range c.index.ensures in
    placed c.args.chunks.now.items c.args.at (c.loop-index.index - 1) (c.args.at - (c.loop-index.end - c.len.result)) c.index.result.now (omega arith) c.index.ensures (omega (arith, less)) (omega (arith, less))

pub loop-index-preserved : goal.loop-index-preserved
loop-index-preserved c =
    let less = joined_less c.args.chunks.now.items c.loop-index.index c.index.result.now (omega arith) c.loop-index.invariant.in_range c.index.ensures in
    record {
      in_range = omega arith;
      counts = omega (arith, less);
      before = c.if-start-at.false;
    }
