use Rattle.std.proofs.Common.{◌++◌, ◌∙◌, List, ℕ, ap, sym, add-one, append_assoc, take}
use Rattle.std.specs.List.{flat_map}
use Rattle.ccr_op.specs.Operation.{Operation}
use Rattle.ccr_op.specs.Spelling.{spelling}
use Rattle.ccr_wire.proofs.WireLoops.{flat_more}
use Rattle.ccr_wire.proofs.encoding.put_ops.Goals as goal

pub loop-op-preserved : goal.loop-op-preserved
loop-op-preserved c =
    let ops = c.args.ops.now in
    let i = c.loop-op.op-index in
    let op = c.op-item.result in
    rw add-one (c.in_ok-encode.ensures.ok ∙ ap (λ (l : List ℕ). l ++ spelling op) c.loop-op.invariant
    ∙ append_assoc c.args.to.now.items (flat_map spelling (take i ops)) (spelling op)
    ∙ ap (λ (l : List ℕ). c.args.to.now.items ++ l) (ap (λ (o : Operation). flat_map spelling (take i ops) ++ spelling o) c.op-item.is ∙ sym (flat_more spelling ops i op c.loop-op-test.true)))
