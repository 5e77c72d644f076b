use Rattle.std.proofs.Common.{◌≡◌, ◌==◌, ◌&&◌, Option, Some, None, List, [], ◌∷◌, sym, ◌∙◌, ap}
use Rattle.std.specs.Prelude.{find}
use Rattle.ccr_wire.specs.Message.{Frame}
use Rattle.ccr_journal.specs.declared.replies.Heard.TheVariants.{Done, Ignored}
use Rattle.ccr_model.specs.Requests.{is_sent}
use Rattle.ccr_model.specs.Restores.{ChunkAsked, ask_sent}
use Rattle.ccr_restore.specs.Hearing.{Answer}
use Rattle.ccr_restore.specs.Stages.{restore_of, fetch_at, fetch_of}
use Rattle.ccr_restore.proofs.Hearings.{hear-asked, hear-chunk, hear-gone}
use Rattle.ccr_restore.proofs.stage.hear_fetching.Goals as goal

pub returns-in_default-ask_sent-clause-heard : goal.returns-in_default-ask_sent-clause-heard
returns-in_default-ask_sent-clause-heard c =
    let f = c.in-Fetching.fetch in
    let found : c.ask_sent.result ≡ ask_sent (fetch_of f) c.args.request =
    c.ask_sent.ensures ∙ ap (find (λ (a : ChunkAsked). (a.request == c.args.request) && is_sent a.progress)) c.as_slice.ensures.value in
    let heard = hear-asked c.args.plan.now c.args.counters.now c.args.stage.now f c.args.request c.args.content None c.in-Fetching.is (sym c.in_default-ask_sent.is ∙ found) in
    let more : List Frame → Answer = λ xs. record { heard = Ignored; next = fetch_at c.args.plan.now c.args.counters.now f; sent = xs } in
    heard ∙ ap more (sym c.new-in_default-ask_sent.ensures.items)

pub returns-in-ChunkReply-clause-heard : goal.returns-in-ChunkReply-clause-heard
returns-in-ChunkReply-clause-heard c =
    let f = c.in-Fetching.fetch in
    let found : c.ask_sent.result ≡ ask_sent (fetch_of f) c.args.request =
    c.ask_sent.ensures ∙ ap (find (λ (a : ChunkAsked). (a.request == c.args.request) && is_sent a.progress)) c.as_slice.ensures.value in
    let heard = hear-asked c.args.plan.now c.args.counters.now c.args.stage.now f c.args.request c.args.content (Some c.in-Some.asked) c.in-Fetching.is (sym c.in-Some.is ∙ found) in
    heard ∙ hear-chunk (fetch_at c.args.plan.now c.args.counters.now f) f c.in-Some.asked c.args.content c.in-ChunkReply.session c.in-ChunkReply.file c.in-ChunkReply.offset c.in-ChunkReply.bytes _
    c.in-ChunkReply.is c.in_ok-sent-in-ChunkReply.ensures.taken

pub returns-in-SessionGone-clause-heard : goal.returns-in-SessionGone-clause-heard
returns-in-SessionGone-clause-heard c =
    let f = c.in-Fetching.fetch in
    let found : c.ask_sent.result ≡ ask_sent (fetch_of f) c.args.request =
    c.ask_sent.ensures ∙ ap (find (λ (a : ChunkAsked). (a.request == c.args.request) && is_sent a.progress)) c.as_slice.ensures.value in
    let heard = hear-asked c.args.plan.now c.args.counters.now c.args.stage.now f c.args.request c.args.content (Some c.in-Some.asked) c.in-Fetching.is (sym c.in-Some.is ∙ found) in
    let more : List Frame → Answer = λ xs. record { heard = Done; next = restore_of c.args.plan.now c.ask_session.new.counters c.ask_session.new.stage; sent = xs } in
    heard ∙ (hear-gone (fetch_at c.args.plan.now c.args.counters.now f) f c.in-Some.asked c.args.content c.in-SessionGone.session _ c.in-SessionGone.is c.in_ok-message-in-SessionGone.ensures.asked
    ∙ ap more (sym c.in_ok-sent-in-SessionGone.ensures.items))
