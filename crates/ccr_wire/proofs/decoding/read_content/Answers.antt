use Rattle.std.proofs.Common.{arith}
use Rattle.ccr_wire.proofs.MessageLaws.{content_fits}
use Rattle.ccr_wire.proofs.decoding.read_content.Goals as goal

pub returns-clause-fits : goal.returns-clause-fits
returns-clause-fits c = content_fits (λ x. (x.0, x.1.now)) c.args.kind c.args.bytes.now c.read_fields.result (λ i. omega (arith, c.type_inv.bytes i)) c.read_fields.ensures
