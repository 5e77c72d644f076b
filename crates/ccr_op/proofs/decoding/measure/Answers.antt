use Rattle.std.proofs.Common.{sym, arith}
use Rattle.ccr_op.proofs.OperationLaws.{measures}
use Rattle.ccr_op.proofs.decoding.measure.Goals as goal

pub overflow_sub-size : goal.overflow_sub-size
overflow_sub-size c = (measures c.args.from.now c.in_ok-seq.seq c.in_ok-seq.rest.now (λ i. omega (arith, c.type_inv.from i)) (sym c.in_ok-seq.ensures)).0

pub returns-clause-exact : goal.returns-clause-exact
returns-clause-exact c = sym (measures c.args.from.now c.in_ok-seq.seq c.in_ok-seq.rest.now (λ i. omega (arith, c.type_inv.from i)) (sym c.in_ok-seq.ensures)).1
