use Rattle.std.proofs.Common.{◌∙◌, List, Ok, ap, sym}
use Rattle.ccr_op.specs.Operation.{Operation}
use Rattle.std.proofs.lemmas.Result.{err_from_is_err_and}
use Rattle.ccr_wire.specs.Reading.{ops_at}
use Rattle.ccr_wire.proofs.WireLoops.{ops_go_on, ops_end, ops_are_done}
use Rattle.ccr_wire.proofs.fields.read_ops.Goals as goal

pub returns-in_err-op : goal.returns-in_err-op
returns-in_err-op c =
    let p = err_from_is_err_and c.from_residual.result c.from_residual.ensures.1 in
    rw (p.1, p.2) (ops_end c.in_err-op.field-0.0 c.args.from c.loop-place.ops.items c.args.number c.loop-place.place c.loop-place.rest.now (ops_at c.args.from c.args.number c.args.bytes.now) c.loop-place-test.true c.in_err-op.ensures.read c.loop-place.invariant)

pub loop-place-preserved : goal.loop-place-preserved
loop-place-preserved c =
    rw c.in_ok-push.ensures.items (ops_go_on c.args.from c.loop-place.ops.items c.args.number c.loop-place.place c.loop-place.rest.now c.in_ok-op.op c.in_ok-op.after.now (ops_at c.args.from c.args.number c.args.bytes.now) c.loop-place-test.true c.in_ok-op.ensures.read c.loop-place.invariant)

pub returns : goal.returns
returns c = ops_are_done c.args.from c.loop-place.ops.items c.args.number c.loop-place.place c.loop-place.rest.now (ops_at c.args.from c.args.number c.args.bytes.now) c.loop-place-test.false c.loop-place.invariant ∙ ap (λ (ops : List Operation). Ok (ops, c.loop-place.rest.now)) (sym c.new.ensures)
