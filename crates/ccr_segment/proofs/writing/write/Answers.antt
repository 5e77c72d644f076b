use Rattle.std.proofs.Common.{List, ◌++◌, ◌∷◌, [], take, subst, sym}
use Rattle.ccr_op.specs.Operation.{Operation}
use Rattle.ccr_segment.specs.Segment.{AscendsFrom}
use Rattle.ccr_segment.proofs.WritingLaws.{next-ascends}
use Rattle.ccr_segment.proofs.writing.write.Goals as goal

pub push-requires-clause-order : goal.push-requires-clause-order
push-requires-clause-order c =
    subst (λ (pushed : List Operation). AscendsFrom 0 (pushed ++ c.op-item.result ∷ [])) (sym c.loop-op.invariant)
    (subst (λ (op : Operation). AscendsFrom 0 (take c.loop-op.op-index c.args.ops.now ++ op ∷ [])) (sym c.op-item.is)
    (next-ascends c.args.ops.now c.loop-op.op-index c.op-item.result c.loop-op-test.true c.requires.order))
