use Rattle.std.proofs.Common.{add-one, subst}
use Rattle.ccr_op.specs.Operation.{HasSpelling}
use Rattle.ccr_segment.proofs.SegmentLaws.{all_more}
use Rattle.ccr_segment.proofs.writing.know_ops.Goals as goal

pub loop-op-preserved : goal.loop-op-preserved
loop-op-preserved c =
    rw add-one (all_more (λ op. HasSpelling op) c.args.ops.now c.loop-op.op-index c.op-item.result c.loop-op-test.true c.loop-op.invariant (subst (λ op. HasSpelling op) c.op-item.is c.kind-kind.ensures.fits))
