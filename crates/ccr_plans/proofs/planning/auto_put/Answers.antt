use Rattle.std.proofs.Common.{◌≡◌, ◌∙◌, [], List, rules}
use Rattle.std.proofs.lemmas.Result.{IfOk-weaker}
use Rattle.ccr_journal.specs.declared.replies.Reply.{Reply}
use Rattle.ccr_auto.specs.Follow.{FollowPattern}
use Rattle.ccr_answers.specs.declared.forms.Answer.TheVariants as answer
use Rattle.ccr_plans.specs.Forms.{does as does_of}
use Rattle.ccr_plans.specs.NamesAfter.{with_put}
use Rattle.ccr_plans.specs.Refused.{IsRefusedSo}
use Rattle.ccr_plans.proofs.Faults.{put-done, put-refused}
use Rattle.ccr_plans.proofs.planning.auto_put.Goals as goal

pub returns-in-Ok-clause-plan : goal.returns-in-Ok-clause-plan
returns-in-Ok-clause-plan c =
    let p : FollowPattern = record { name = c.args.name; remote = c.args.remote; patterns = c.args.patterns.items; exclude = c.args.exclude.items; follow = c.args.follow } in
    let done : c.does.result ≡ does_of [] answer.Done = search rules in
    done ∙ (put-done c.args.meta.now c.args.cluster.now p tt c.in-Ok.ensures.answer).0

pub returns-in-Ok-clause-names : goal.returns-in-Ok-clause-names
returns-in-Ok-clause-names c =
    let p : FollowPattern = record { name = c.args.name; remote = c.args.remote; patterns = c.args.patterns.items; exclude = c.args.exclude.items; follow = c.args.follow } in
    λ told. c.in-Ok.ensures.ok ∙ (put-done c.args.meta.now c.args.cluster.now p tt c.in-Ok.ensures.answer).1

pub returns-in-Err-clause-plan : goal.returns-in-Err-clause-plan
returns-in-Err-clause-plan c =
    let p : FollowPattern = record { name = c.args.name; remote = c.args.remote; patterns = c.args.patterns.items; exclude = c.args.exclude.items; follow = c.args.follow } in
    IfOk-weaker c.pattern_refused.result (IsRefusedSo c.in-Err.why) _ (λ plan h. (put-refused c.args.meta.now c.args.cluster.now p c.in-Err.why plan c.in-Err.ensures.answer h).0)
    c.pattern_refused.ensures

pub returns-in-Err-clause-names : goal.returns-in-Err-clause-names
returns-in-Err-clause-names c =
    let p : FollowPattern = record { name = c.args.name; remote = c.args.remote; patterns = c.args.patterns.items; exclude = c.args.exclude.items; follow = c.args.follow } in
    IfOk-weaker c.pattern_refused.result (IsRefusedSo c.in-Err.why) (λ _. (told : List Reply) → c.auto_put.new.self ≡ with_put c.args.meta.now c.args.cluster.now p)
    (λ plan h told. c.in-Err.ensures.err ∙ (put-refused c.args.meta.now c.args.cluster.now p c.in-Err.why plan c.in-Err.ensures.answer h).1)
    c.pattern_refused.ensures
