use Rattle.std.proofs.Common.{arith}
use Rattle.ccr_op.proofs.OperationLaws.{is_found, is_sized, is_only, spelling_alone}
use Rattle.ccr_op.proofs.decoding.decode.Goals as goal

pub returns-clause-found : goal.returns-clause-found
returns-clause-found c = is_found c.args.from.now c.read_sized.result (λ i. omega (arith, c.type_inv.from i)) c.read_sized.ensures.exact

pub returns-clause-size : goal.returns-clause-size
returns-clause-size c = is_sized c.args.from.now c.read_sized.result (λ i. omega (arith, c.type_inv.from i)) c.read_sized.ensures.exact c.read_sized.ensures.within

pub returns-clause-only : goal.returns-clause-only
returns-clause-only c = is_only c.args.from.now c.read_sized.result (λ i. omega (arith, c.type_inv.from i)) c.read_sized.ensures.exact c.read_sized.ensures.within

pub returns-clause-alone : goal.returns-clause-alone
returns-clause-alone c = spelling_alone
