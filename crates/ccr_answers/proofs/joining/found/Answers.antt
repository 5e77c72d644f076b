use Rattle.std.proofs.Common.{◌∙◌}
use Rattle.std.proofs.lemmas.Result.{IfOk-weaker}
use Rattle.ccr_search.specs.Joined.{said_by}
use Rattle.ccr_answers.proofs.Wholes.{found_checkpoints, found_said, ordered_parts}
use Rattle.ccr_answers.proofs.joining.found.Goals as goal

pub returns-clause-said : goal.returns-clause-said
returns-clause-said c =
    let same = c.as_slice-answers.ensures.value ∙ c.in_ok-parts.ensures in
    IfOk-weaker c.join_answers.result _ _
    (λ a is. found_said c.args.sort.now c.args.from c.args.size c.args.told.items c.as_slice-answers.result.now (said_by a) same c.requires is)
    (c.join_answers.ensures.answer (ordered_parts c.args.sort.now c.args.told.items c.as_slice-answers.result.now same c.requires))

pub returns-clause-checkpoints : goal.returns-clause-checkpoints
returns-clause-checkpoints c =
    let same = c.as_slice-answers.ensures.value ∙ c.in_ok-parts.ensures in
    IfOk-weaker c.join_answers.result _ _
    (λ a is. found_checkpoints c.args.sort.now c.args.from c.args.size c.args.told.items c.as_slice-answers.result.now a.checkpoints.items same is)
    c.join_answers.ensures.checkpoints
