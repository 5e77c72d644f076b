use Rattle.std.proofs.Common.{◌≡◌, false, Some, sym, ◌∙◌, ap}
use Rattle.ccr_op.specs.Operation.{Operation}
use Rattle.ccr_tracker.specs.Numbers.{Numbers, has}
use Rattle.ccr_model.specs.Copies.{taking}
use Rattle.ccr_copies.proofs.Progress.{filling-takes}
use Rattle.ccr_copies.proofs.copy_side.CopySide.fill_gaps.Goals as goal

pub returns-in_err-take-clause-number : goal.returns-in_err-take-clause-number
returns-in_err-take-clause-number c = c.in_err-take.ensures.number ∙ c.loop-seq.invariant.number

pub loop-seq-preserved : goal.loop-seq-preserved
loop-seq-preserved c =
    let lacks : has c.loop-seq.self.seen c.loop-seq.seq ≡ false = ap (λ (s : Numbers). has s c.loop-seq.seq) (sym c.seen-in-loop-seq.ensures) ∙ (sym c.has.ensures ∙ c.if-has.false) in
    filling-takes c.args.term c.loop-seq.seq c.end-seq-end.result c.loop-seq.filled c.args.self.now c.loop-seq.self c.take.new.self c.loop-seq-test.true lacks
    (c.in_ok-take.ensures.ok ∙ ap (λ (op : Operation). taking c.loop-seq.self op.seq (Some op)) c.no_op.ensures) c.loop-seq.invariant
