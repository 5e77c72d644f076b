use Rattle.std.proofs.Common.{◌+◌, List, length, sym, ap, ◌∙◌, arith}
use Rattle.std.specs.Prelude.{sum_by}
use Rattle.std.proofs.lemmas.List.{take_all}
use Rattle.ccr_op.specs.Operation.{Operation}
use Rattle.ccr_op.specs.Spelling.{spelling as op_spelling}
use Rattle.ccr_segment.proofs.WritingLaws.{length-spelling}
use Rattle.ccr_segment.proofs.writing.size.Goals as goal

pub returns : goal.returns
returns c =
    c.loop-op.invariant.0
    ∙ ap (λ (ops : List Operation). 9 + sum_by (λ op. length (op_spelling op)) ops) (take_all c.loop-op.op-index c.args.ops.now (omega (arith, c.loop-op-test.false)))
    ∙ sym (length-spelling c.args.ops.now)
