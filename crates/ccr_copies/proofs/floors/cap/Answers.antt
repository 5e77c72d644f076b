use Rattle.std.proofs.Common.{◌+◌, drop}
use Rattle.ccr_model.specs.Stores.{capped}
use Rattle.ccr_copies.proofs.Places.{left-at}
use Rattle.ccr_copies.proofs.Walking.{capped-turn}
use Rattle.ccr_copies.proofs.floors.cap.Goals as goal

pub loop-lease-preserved : goal.loop-lease-preserved
loop-lease-preserved c =
    capped-turn c.lease-item.result (drop (c.loop-lease.lease-index + 1) c.args.leases.now) (drop c.loop-lease.lease-index c.args.leases.now) c.loop-lease.least c.min-least.result (capped c.args.leases.now c.args.n)
    (left-at c.args.leases.now c.loop-lease.lease-index c.lease-item.result c.loop-lease-test.true c.lease-item.is) c.min-least.ensures c.loop-lease.invariant
