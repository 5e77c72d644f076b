use Rattle.std.proofs.Common.{add-one, arith}
use Rattle.ccr_wire.specs.Message.{IsU64}
use Rattle.ccr_wire.proofs.WireLoops.{all_more}
use Rattle.ccr_wire.proofs.message.know_sizes.Goals as goal

pub loop-size-preserved : goal.loop-size-preserved
loop-size-preserved c =
    rw add-one (all_more IsU64 c.args.sizes.now c.loop-size.size-index 0 c.loop-size-test.true c.loop-size.invariant (omega (arith, c.type_inv.sizes c.loop-size.size-index)))
