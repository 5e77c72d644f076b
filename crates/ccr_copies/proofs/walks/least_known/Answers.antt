use Rattle.std.proofs.Common.{ℕ, ◌+◌, ◌∙◌, ap, min, drop}
use Rattle.ccr_model.specs.Copies.{least_known}
use Rattle.ccr_copies.proofs.Places.{left-at}
use Rattle.ccr_copies.proofs.Walking.{known-turn}
use Rattle.ccr_copies.proofs.walks.least_known.Goals as goal

pub loop-replica-preserved : goal.loop-replica-preserved
loop-replica-preserved c =
    known-turn c.replica-item.result (drop (c.loop-replica.replica-index + 1) c.args.replicas.now) (drop c.loop-replica.replica-index c.args.replicas.now) c.loop-replica.least c.min-least.result (least_known c.args.count c.args.replicas.now)
    (left-at c.args.replicas.now c.loop-replica.replica-index c.replica-item.result c.loop-replica-test.true c.replica-item.is)
    (c.min-least.ensures ∙ ap (λ (k : ℕ). min c.loop-replica.least k) c.known.ensures) c.loop-replica.invariant
