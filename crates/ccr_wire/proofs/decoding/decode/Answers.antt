use Rattle.std.proofs.Common.{ap, subst, ◌∙◌, arith}
use Rattle.ccr_wire.specs.Reading.{Gives, message_of}
use Rattle.ccr_wire.proofs.MessageLaws.{is_found, all_again, spelling_alone}
use Rattle.ccr_wire.proofs.decoding.decode.Goals as goal

pub returns-clause-found : goal.returns-clause-found
returns-clause-found c = is_found c.args.from.now c.read_all.result (λ i. omega (arith, c.type_inv.from i)) c.read_all.ensures

pub returns-clause-only : goal.returns-clause-only
returns-clause-only c = λ m fits e. subst (λ read. Gives (λ x. x) c.read_all.result read) (ap message_of e ∙ all_again m fits) c.read_all.ensures

pub returns-clause-alone : goal.returns-clause-alone
returns-clause-alone c = spelling_alone
