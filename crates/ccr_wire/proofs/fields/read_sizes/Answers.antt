use Rattle.std.proofs.Common.{◌∙◌, ℕ, List, Ok, ap, sym}
use Rattle.std.proofs.lemmas.Result.{err_from_is_err_and}
use Rattle.ccr_wire.specs.Reading.{sizes_at}
use Rattle.ccr_wire.proofs.WireLoops.{sizes_go_on, sizes_end, sizes_are_done}
use Rattle.ccr_wire.proofs.fields.read_sizes.Goals as goal

pub returns-in_err-size : goal.returns-in_err-size
returns-in_err-size c =
    let p = err_from_is_err_and c.from_residual.result c.from_residual.ensures.1 in
    rw (p.1, p.2) (sizes_end c.in_err-size.field-0.0 c.loop.sizes.items c.args.number c.loop.counter c.loop.rest.now (sizes_at c.args.number c.args.bytes.now) c.loop-test.true c.in_err-size.ensures c.loop.invariant)

pub loop-preserved : goal.loop-preserved
loop-preserved c =
    rw c.in_ok-push.ensures.items (sizes_go_on c.loop.sizes.items c.args.number c.loop.counter c.loop.rest.now c.in_ok-size.size c.in_ok-size.after.now (sizes_at c.args.number c.args.bytes.now) c.loop-test.true c.in_ok-size.ensures c.loop.invariant)

pub returns : goal.returns
returns c = sizes_are_done c.loop.sizes.items c.args.number c.loop.counter c.loop.rest.now (sizes_at c.args.number c.args.bytes.now) c.loop-test.false c.loop.invariant ∙ ap (λ (sizes : List ℕ). Ok (sizes, c.loop.rest.now)) (sym c.new.ensures)
