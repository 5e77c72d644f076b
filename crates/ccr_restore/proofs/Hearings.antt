-- What an answer to the request for a part of a file comes to.
use Rattle.std.proofs.Common.{◌≡◌, ℕ, Option, Some, None, List, sym, ◌∙◌, ap}
use Rattle.ccr_wire.specs.declared.content.Content.{Content}
use Rattle.ccr_wire.specs.declared.content.Content.TheVariants.{ChunkReply, SessionGone}
use Rattle.ccr_journal.specs.declared.replies.Heard.TheVariants.{Done, Ignored}
use Rattle.ccr_model.specs.Requests.{Sending, quiet}
use Rattle.ccr_model.specs.Restores.{Restore, ChunkAsked, ask_sent, asks_session, chunk_came, hear_asked, hear_fetching}
use Rattle.ccr_restore.specs.declared.plan.Plan.{Plan}
use Rattle.ccr_restore.specs.declared.plan.Counters.{Counters}
use Rattle.ccr_restore.specs.declared.fetch.Fetch.{Fetch}
use Rattle.ccr_restore.specs.declared.stage.Stage.{Stage}
use Rattle.ccr_restore.specs.declared.stage.Stage.TheVariants.{Fetching}
use Rattle.ccr_restore.specs.Hearing.{answer, taken, fetching_hears}
use Rattle.ccr_restore.specs.Stages.{restore_of, fetch_at, fetch_of}

pub hear-asked : (plan : Plan) (counters : Counters) (stage : Stage) (f : Fetch) (request : ℕ) (content : Content) (asked : Option ChunkAsked) → stage ≡ Fetching f → asked ≡ ask_sent (fetch_of f) request
    → fetching_hears (restore_of plan counters stage) request content ≡ taken (fetch_at plan counters f) (hear_asked (fetch_at plan counters f) (fetch_of f) content asked)
hear-asked plan counters stage f request content asked is found =
    ap (λ (st : Stage). fetching_hears (restore_of plan counters st) request content) is
    ∙ ap (λ (o : Option ChunkAsked). taken (fetch_at plan counters f) (hear_asked (fetch_at plan counters f) (fetch_of f) content o)) (sym found)

pub hear-chunk : (s : Restore) (f : Fetch) (a : ChunkAsked) (content : Content) (session file offset : ℕ) (bytes : List ℕ) (done : Sending Restore) → content ≡ ChunkReply session file offset bytes
    → chunk_came s (fetch_of f) a bytes ≡ done → taken s (hear_asked s (fetch_of f) content (Some a)) ≡ answer Done done
hear-chunk s f a content session file offset bytes done is came =
    ap (λ (c : Content). taken s (hear_asked s (fetch_of f) c (Some a))) is ∙ ap (answer Done) came

pub hear-gone : (s : Restore) (f : Fetch) (a : ChunkAsked) (content : Content) (session : ℕ) (done : Sending Restore) → content ≡ SessionGone session
    → asks_session (record s { retry = 0 }) ≡ done → taken s (hear_asked s (fetch_of f) content (Some a)) ≡ answer Done done
hear-gone s f a content session done is asked =
    ap (λ (c : Content). taken s (hear_asked s (fetch_of f) c (Some a))) is ∙ ap (answer Done) asked
