use Rattle.std.proofs.Common.{◌∙◌, ap, sym, List, ℕ, Ok, arith}
use Rattle.ccr_op.proofs.OperationLaws.{operation_rest}
use Rattle.ccr_op.proofs.decoding.read_sized.Goals as goal

pub overflow_sub-size : goal.overflow_sub-size
overflow_sub-size c =
    let rest = operation_rest c.args.from.now (c.in_ok-op.op, c.in_ok-op.rest.now) (λ i. omega (arith, c.type_inv.from i)) c.in_ok-op.ensures in
    omega (arith, rest.1)

pub returns-clause-exact : goal.returns-clause-exact
returns-clause-exact c =
    let rest = operation_rest c.args.from.now (c.in_ok-op.op, c.in_ok-op.rest.now) (λ i. omega (arith, c.type_inv.from i)) c.in_ok-op.ensures in
    c.in_ok-op.ensures ∙ ap (λ (r : List ℕ). Ok (c.in_ok-op.op, r)) (sym rest.0)
