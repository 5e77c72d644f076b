use Rattle.std.proofs.Common.{◌∙◌}
use Rattle.std.proofs.lemmas.Result.{IfOk-weaker}
use Rattle.ccr_answers.specs.Joined.{found}
use Rattle.ccr_answers.proofs.Wholes.{text_said}
use Rattle.ccr_answers.proofs.joining.shown_text.Goals as goal

pub returns : goal.returns
returns c =
    IfOk-weaker c.text.result _ _
    (λ bytes is. is ∙ text_said c.in_ok-answer.answer (found c.args.sort.now c.args.from c.args.size c.args.told.items) c.in_ok-answer.ensures.said c.in_ok-answer.ensures.checkpoints)
    c.text.ensures
