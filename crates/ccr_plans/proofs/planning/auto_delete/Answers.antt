use Rattle.std.proofs.Common.{◌≡◌, ◌∙◌, [], List, rules}
use Rattle.std.proofs.lemmas.Result.{IfOk-weaker}
use Rattle.ccr_journal.specs.declared.replies.Reply.{Reply}
use Rattle.ccr_answers.specs.declared.forms.Answer.TheVariants as answer
use Rattle.ccr_plans.specs.Forms.{does as does_of}
use Rattle.ccr_plans.specs.NamesAfter.{with_deleted}
use Rattle.ccr_plans.specs.Refused.{IsRefusedSo}
use Rattle.ccr_plans.proofs.Faults.{delete-done, delete-refused}
use Rattle.ccr_plans.proofs.planning.auto_delete.Goals as goal

pub returns-in-Ok-clause-plan : goal.returns-in-Ok-clause-plan
returns-in-Ok-clause-plan c =
    let done : c.does.result ≡ does_of [] answer.Done = search rules in
    done ∙ (delete-done c.args.meta.now c.args.cluster.now c.args.name.now tt c.in-Ok.ensures.answer).0

pub returns-in-Ok-clause-names : goal.returns-in-Ok-clause-names
returns-in-Ok-clause-names c = λ told. c.in-Ok.ensures.ok ∙ (delete-done c.args.meta.now c.args.cluster.now c.args.name.now tt c.in-Ok.ensures.answer).1

pub returns-in-Err-clause-plan : goal.returns-in-Err-clause-plan
returns-in-Err-clause-plan c =
    IfOk-weaker c.pattern_refused.result (IsRefusedSo c.in-Err.why) _ (λ plan h. (delete-refused c.args.meta.now c.args.cluster.now c.args.name.now c.in-Err.why plan c.in-Err.ensures.answer h).0)
    c.pattern_refused.ensures

pub returns-in-Err-clause-names : goal.returns-in-Err-clause-names
returns-in-Err-clause-names c =
    IfOk-weaker c.pattern_refused.result (IsRefusedSo c.in-Err.why) (λ _. (told : List Reply) → c.auto_delete.new.self ≡ with_deleted c.args.meta.now c.args.cluster.now c.args.name.now)
    (λ plan h told. c.in-Err.ensures.err ∙ (delete-refused c.args.meta.now c.args.cluster.now c.args.name.now c.in-Err.why plan c.in-Err.ensures.answer h).1)
    c.pattern_refused.ensures
