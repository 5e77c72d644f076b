-- A follower sends no reply to a read.
use Rattle.std.specs.Prelude.{◌==◌, nat_lt, not, ◌&&◌, slice_get}
use Rattle.std.specs.List.{AllByRecursion, filter, list_any}
use Rattle.std.proofs.Common.{ℕ, ◌+◌, ◌-◌, min, zero, suc, if◌then◌else◌, List, [], ◌∷◌, ◌++◌, length, take, drop, Option, Some, None}
use Rattle.ccr_op.specs.Operation.{Operation}
use Rattle.ccr_wire.specs.Message.{Frame}
use Rattle.ccr_wire.specs.declared.kind.LeaseResult.TheVariants as results
use Rattle.ccr_wire.specs.declared.content.Content.{Content}
use Rattle.ccr_wire.specs.declared.content.Content.TheVariants as contents
use Rattle.ccr_journal.specs.declared.params.ParamValues.{ParamValues}
use Rattle.ccr_journal.specs.declared.sides.Phase.TheVariants as phases
use Rattle.ccr_journal.specs.declared.replies.Reply.TheVariants as replies
use Rattle.ccr_journal.specs.declared.replies.Heard.TheVariants as heard
use Rattle.ccr_journal.specs.declared.replies.Refusal.TheVariants.{NotActive, NotPaused, OldEpoch, NoBatch, Bootstrapping}
use Rattle.ccr_model.specs.Outcomes.{Outcome, answered, within}
use Rattle.ccr_model.specs.Operations.{is_empty}
use Rattle.ccr_model.specs.Requests.{Sending, quiet, followed_by, is_due}
use Rattle.ccr_model.specs.CopyRows.{add_copy_row}
use Rattle.ccr_model.specs.Tasks.{Task, Read, is_active, may_read, has_budget, is_held, sent_again, all_sent_again, fill_writes, fill_held, with_read, next_read, with_reads, fill_reads, fill_peek, fill, filled_if_active, started, in_order_of_request, due_reads_sent, due_writes_sent, ticked, after_reply, read_sent, sent_reads, without_write}
use Rattle.ccr_model.specs.Restores.{Restore, Stage, Fetch, ChunkAsked, leasing, opening, fetching, is_complete, places_of, most_asks, asks_lease, asks_session, asks_chunk, asks_chunks, asks_more, chunk_again, chunks_again, restore_ticked, answers, ask_sent, without_ask, hear_leasing, hear_opening, hear_fetching, hear_asked, ends_restore, restore_hears, sent_requests}
use Rattle.ccr_model.specs.Followers.{Follower, Work, restoring, replicating, bootstrapped}
use Rattle.ccr_model.specs.FollowerRows.{Sent, does, with_task, with_copies, restore_done, restore_heard, restore_ended, hear_read, task_heard, work_hears, follower_receive_row, task_lost, bootstrap_lost, lose_row, tick_row, follower_clock_row, lose_write_row, take_row, new_in, applied, is_other, apply_row, lacks, write_done, written_row, lease_request, needed_from, renew_row, pause_row, is_paused, task_anew, resume_row, restart_row, unfollow_row, is_bootstrapping, follower_add_copy_row, follower_status_row}
use Rattle.ccr_law_base.proofs.Cases.{on_if, on_guards}
use Rattle.ccr_law_base.proofs.Lists.{All-append, All-weaker}
use Rattle.ccr_law_tasks.proofs.Sending.{IsPlain, ArePlain, add_copy-sends}

-- no reply to a read is among these
abbrev pub IsNoReply : Content → Type 0
IsNoReply (contents.ReadReply from global ops) = ⊥
IsNoReply _ = Unit {0}

abbrev pub BringNoReply : List Frame → Type 0
BringNoReply sent = AllByRecursion (λ (m : Frame). IsNoReply m.content) sent

plain-reply : (content : Content) → IsPlain content → IsNoReply content
plain-reply (contents.ReadReply from global ops) plain = absurd plain
plain-reply (contents.ReadRequest history from max_ops max_bytes timeout) plain = absurd plain
plain-reply _ plain = tt

pub plain-replies : (sent : List Frame) → ArePlain sent → BringNoReply sent
plain-replies sent plain = All-weaker (λ (m : Frame). IsPlain m.content) (λ (m : Frame). IsNoReply m.content) (λ m is. plain-reply m.content is) sent plain

abbrev Quietly : {S : Type 0} → Sending S → Type 0
Quietly done = BringNoReply done.sent

pub joined : (xs ys : List Frame) → BringNoReply xs → BringNoReply ys → BringNoReply (xs ++ ys)
joined xs ys a b = All-append (λ (m : Frame). IsNoReply m.content) xs ys a b

-- ---- the task

again-sends : (rs : List Read) (t : Task) → Quietly (all_sent_again rs t)
again-sends [] t = tt
again-sends (r ∷ rs) t = (tt, again-sends rs (sent_again t r).next)

held-sends : (t : Task) → Quietly (fill_held t)
held-sends t = on_if (λ (done : Sending Task). Quietly done) (may_read t) (all_sent_again (filter is_held t.reads) t) (quiet t) (λ is. again-sends (filter is_held t.reads) t) (λ isnt. tt)

reads-sends : (n : ℕ) (t : Task) → Quietly (with_reads n t)
reads-sends zero t = tt
reads-sends (suc n) t =
    on_if (λ (done : Sending Task). Quietly done) (has_budget t && nat_lt t.next t.known) (followed_by (next_read t) (with_reads n)) (quiet t)
    (λ is. (tt, reads-sends n (next_read t).next)) (λ isnt. tt)

peek-sends : (t : Task) → Quietly (fill_peek t)
peek-sends t =
    on_if (λ (done : Sending Task). Quietly done) (is_empty t.reads && has_budget t) (with_read t t.next t.next t.params.max_read_request_operation_count) (quiet t)
    (λ is. (tt, tt)) (λ isnt. tt)

fill-sends : (t : Task) → Quietly (fill t)
fill-sends t =
    let a : Task = fill_writes t in
    let b : Task = (fill_held a).next in
    let c : Task = (fill_reads b).next in
    joined ((fill_held a).sent ++ (fill_reads b).sent) (fill_peek c).sent
    (joined (fill_held a).sent (fill_reads b).sent (held-sends a) (reads-sends (min (b.params.max_outstanding_read_requests - length b.reads) (b.known - b.next)) b)) (peek-sends c)

filled-sends : (t : Task) → Quietly (filled_if_active t)
filled-sends t = on_if (λ (done : Sending Task). Quietly done) (is_active t.phase) (fill t) (quiet t) (λ is. fill-sends t) (λ isnt. tt)

started-sends : (params : ParamValues) (count epoch : ℕ) (history follower : List ℕ) (request : ℕ) → Quietly (started params count epoch history follower request)
started-sends params count epoch history follower request = fill-sends record {
  params = params;
  history = history;
  follower = follower;
  phase = phases.Active;
  epoch = epoch;
  next_request = request;
  retry = 0;
  next = count;
  known = count;
  reads = [];
  buffer = [];
  next_write = 0;
  writes = [];
}

due-sends : (now : ℕ) (t : Task) → Quietly (due_reads_sent now t)
due-sends now t =
    on_if (λ (done : Sending Task). Quietly done) (may_read t) (all_sent_again (in_order_of_request (filter (λ r. is_due now r.progress) t.reads)) t) (quiet t)
    (λ is. again-sends (in_order_of_request (filter (λ r. is_due now r.progress) t.reads)) t) (λ isnt. tt)

ticked-sends : (now : ℕ) (t : Task) → Quietly (ticked now t)
ticked-sends now t =
    let after : Task = (due_reads_sent now t).next in
    joined (due_reads_sent now t).sent (filled_if_active (due_writes_sent now after)).sent (due-sends now t) (filled-sends (due_writes_sent now after))

-- ---- the bootstrap, which sends no request for operations either

abbrev pub Plainly : Sending Restore → Type 0
Plainly done = ArePlain done.sent

chunks-sends : (places : List (ℕ × ℕ)) (s : Restore) → Plainly (asks_chunks places s)
chunks-sends [] s = tt
chunks-sends (place ∷ places) s =
    elim s.stage as (λ (stage : Stage). Plainly (elim stage as (λ _. Sending Restore) [
      | leasing a ↦ quiet s
      | opening a ↦ quiet s
      | fetching f ↦ followed_by (asks_chunk s f place) (asks_chunks places)
    ])) [
      | leasing a ↦ tt
      | opening a ↦ tt
      | fetching f ↦ (tt, chunks-sends places (asks_chunk s f place).next)
    ]

more-sends : (s : Restore) (f : Fetch) → Plainly (asks_more s f)
more-sends s f = chunks-sends (take (most_asks - length f.asks) (drop f.asked (places_of s.chunk_size f.sizes))) (record s { stage = fetching f })

chunks_again-sends : (asks : List ChunkAsked) (s : Restore) → Plainly (chunks_again asks s)
chunks_again-sends [] s = tt
chunks_again-sends (a ∷ asks) s =
    elim s.stage as (λ (stage : Stage). Plainly (elim stage as (λ _. Sending Restore) [
      | leasing own ↦ quiet s
      | opening own ↦ quiet s
      | fetching f ↦ followed_by (chunk_again s f a) (chunks_again asks)
    ])) [
      | leasing own ↦ tt
      | opening own ↦ tt
      | fetching f ↦ (tt, chunks_again-sends asks (chunk_again s f a).next)
    ]

pub restore_ticked-sends : (now : ℕ) (s : Restore) → Plainly (restore_ticked now s)
restore_ticked-sends now s =
    elim s.stage as (λ (stage : Stage). Plainly (elim stage as (λ _. Sending Restore) [
      | leasing a ↦ if is_due now a.progress then asks_lease s else quiet s
      | opening a ↦ if is_due now a.progress then asks_session s else quiet s
      | fetching f ↦ chunks_again (filter (λ a. is_due now a.progress) f.asks) s
    ])) [
      | leasing a ↦ on_if (λ (done : Sending Restore). Plainly done) (is_due now a.progress) (asks_lease s) (quiet s) (λ is. (tt, tt)) (λ isnt. tt)
      | opening a ↦ on_if (λ (done : Sending Restore). Plainly done) (is_due now a.progress) (asks_session s) (quiet s) (λ is. (tt, tt)) (λ isnt. tt)
      | fetching f ↦ chunks_again-sends (filter (λ a. is_due now a.progress) f.asks) s
    ]

-- what the bootstrap sends, where it takes the message
abbrev pub HeardPlainly : Option (Sending Restore) → Type 0
HeardPlainly None = Unit {0}
HeardPlainly (Some done) = Plainly done

leasing-sends : (s : Restore) (now request : ℕ) (content : Content) → HeardPlainly (hear_leasing s now request content)
leasing-sends s now request (contents.LeaseAdded number) = (tt, tt)
leasing-sends s now request (contents.LeaseAnswer results.Exists number) = (tt, tt)
leasing-sends s now request (contents.NotReady copy) = tt
leasing-sends s now request _ = tt

opening-sends : (s : Restore) (now request : ℕ) (content : Content) → HeardPlainly (hear_opening s now request content)
opening-sends s now request (contents.SessionOpened session history count sizes) =
    more-sends (record s { retry = 0 }) (record { session = session; history = history; count = count; sizes = sizes; asked = 0; asks = []; chunks = [] })
opening-sends s now request (contents.NotReady copy) = tt
opening-sends s now request _ = tt

fetching-sends : (s : Restore) (f : Fetch) (a : ChunkAsked) (content : Content) → HeardPlainly (hear_fetching s f a content)
fetching-sends s f a (contents.ChunkReply session file offset bytes) = more-sends (record s { retry = 0 }) (record f {
  asks = without_ask a.request f.asks;
  chunks = f.chunks ++ record { file = a.file; offset = a.offset; bytes = bytes } ∷ [];
})
fetching-sends s f a (contents.SessionGone session) = (tt, tt)
fetching-sends s f a _ = tt

asked-sends : (s : Restore) (f : Fetch) (content : Content) (found : Option ChunkAsked) → HeardPlainly (hear_asked s f content found)
asked-sends s f content None = tt
asked-sends s f content (Some a) = fetching-sends s f a content

pub hears-sends : (s : Restore) (now : ℕ) (m : Frame) → HeardPlainly (restore_hears s now m)
hears-sends s now m =
    elim s.stage as (λ (stage : Stage). HeardPlainly (elim stage as (λ _. Option (Sending Restore)) [
      | leasing a ↦ if answers m a then hear_leasing s now m.request m.content else None
      | opening a ↦ if answers m a then hear_opening s now m.request m.content else None
      | fetching f ↦ hear_asked s f m.content (ask_sent f m.request)
    ])) [
      | leasing a ↦ on_if HeardPlainly (answers m a) (hear_leasing s now m.request m.content) None (λ is. leasing-sends s now m.request m.content) (λ isnt. tt)
      | opening a ↦ on_if HeardPlainly (answers m a) (hear_opening s now m.request m.content) None (λ is. opening-sends s now m.request m.content) (λ isnt. tt)
      | fetching f ↦ asked-sends s f m.content (ask_sent f m.request)
    ]

-- ---- the rows

abbrev pub SendsNone : {S : Type 0} → Outcome S → Type 0
SendsNone o = BringNoReply o.sent

restore_done-sends : (s : Follower) (done : Sending Restore) → Plainly done → SendsNone (restore_done s done)
restore_done-sends s done plainly =
    elim done.next.stage as (λ (stage : Stage). SendsNone (elim stage as (λ _. Outcome Follower) [
      | leasing a ↦ does (replies.Heard heard.Done) (λ r. record s { work = restoring r }) done
      | opening a ↦ does (replies.Heard heard.Done) (λ r. record s { work = restoring r }) done
      | fetching f ↦
          if is_complete done.next.chunk_size f
          then does (replies.Heard heard.Done) (λ next. next) (bootstrapped s done.next f)
          else does (replies.Heard heard.Done) (λ r. record s { work = restoring r }) done
    ])) [
      | leasing a ↦ plain-replies done.sent plainly
      | opening a ↦ plain-replies done.sent plainly
      | fetching f ↦ on_if (λ (o : Outcome Follower). SendsNone o) (is_complete done.next.chunk_size f)
          (does (replies.Heard heard.Done) (λ next. next) (bootstrapped s done.next f)) (does (replies.Heard heard.Done) (λ r. record s { work = restoring r }) done)
          (λ ends. started-sends s.params f.count 1 f.history done.next.follower done.next.next_request) (λ endsnt. plain-replies done.sent plainly)
    ]

restore_heard-sends : (s : Follower) (found : Option (Sending Restore)) → HeardPlainly found → SendsNone (restore_heard s found)
restore_heard-sends s None quietly = tt
restore_heard-sends s (Some done) quietly = restore_done-sends s done quietly

hear_read-sends : (s : Follower) (t : Task) (r : Read) (content : Content) → SendsNone (hear_read s t r content)
hear_read-sends s t r (contents.ReadReply from global ops) = filled-sends (after_reply t r global ops)
hear_read-sends s t r (contents.ReadMissing from floor) = tt
hear_read-sends s t r (contents.ReadHistory history) = tt
hear_read-sends s t r _ = tt

task_heard-sends : (s : Follower) (t : Task) (content : Content) (found : Option Read) → SendsNone (task_heard s t content found)
task_heard-sends s t content None = tt
task_heard-sends s t content (Some r) = hear_read-sends s t r content

pub receive-sends : (s : Follower) (m : Frame) → SendsNone (follower_receive_row s m)
unfolding follower_receive_row
receive-sends s m =
    on_if (λ (o : Outcome Follower). SendsNone o) (list_any (λ n. n == m.request) s.lease_requests)
    (answered (replies.Heard heard.Done) (record s { lease_requests = filter (λ n. not (n == m.request)) s.lease_requests })) (work_hears s m)
    (λ is. tt)
    (λ isnt. elim s.work as (λ (w : Work). SendsNone (elim w as (λ _. Outcome Follower) [
      | restoring r ↦ if ends_restore r m then restore_ended s r else restore_heard s (restore_hears r s.now m)
      | replicating t ↦ task_heard s t m.content (read_sent t m.request)
    ])) [
      | restoring r ↦ on_if (λ (o : Outcome Follower). SendsNone o) (ends_restore r m) (restore_ended s r) (restore_heard s (restore_hears r s.now m))
          (λ ends. tt) (λ goes_on. restore_heard-sends s (restore_hears r s.now m) (hears-sends r s.now m))
      | replicating t ↦ task_heard-sends s t m.content (read_sent t m.request)
    ])

task_lost-sends : (s : Follower) (t : Task) (at : ℕ) (found : Option Read) → SendsNone (task_lost s t at found)
task_lost-sends s t at None = tt
task_lost-sends s t at (Some r) = tt

bootstrap_lost-sends : (s : Follower) (r : Restore) (at : ℕ) (found : Option ℕ) → SendsNone (bootstrap_lost s r at found)
bootstrap_lost-sends s r at None = tt
bootstrap_lost-sends s r at (Some request) = tt

pub lose-sends : (s : Follower) (at : ℕ) → SendsNone (lose_row s at)
unfolding lose_row
lose-sends s at =
    elim s.work as (λ (w : Work). SendsNone (elim w as (λ _. Outcome Follower) [
      | restoring r ↦ bootstrap_lost s r at (slice_get (sent_requests r.stage) at)
      | replicating t ↦ task_lost s t at (slice_get (sent_reads t) at)
    ])) [
      | restoring r ↦ bootstrap_lost-sends s r at (slice_get (sent_requests r.stage) at)
      | replicating t ↦ task_lost-sends s t at (slice_get (sent_reads t) at)
    ]

pub tick-sends : (s : Follower) → SendsNone (tick_row s)
unfolding tick_row
tick-sends s =
    elim s.work as (λ (w : Work). SendsNone (elim w as (λ _. Outcome Follower) [
      | restoring r ↦ does replies.Done (λ next. record s { work = restoring next }) (restore_ticked s.now r)
      | replicating t ↦ does replies.Done (with_task s) (ticked s.now t)
    ])) [
      | restoring r ↦ plain-replies (restore_ticked s.now r).sent (restore_ticked-sends s.now r)
      | replicating t ↦ ticked-sends s.now t
    ]

pub follower_clock-sends : (s : Follower) (now : ℕ) → SendsNone (follower_clock_row s now)
unfolding follower_clock_row
follower_clock-sends s now = tt

pub lose_write-sends : (s : Follower) (number : ℕ) (found : Option Sent) → SendsNone (lose_write_row s number found)
unfolding lose_write_row
lose_write-sends s number None = tt
lose_write-sends s number (Some w) = tt

pub take-sends : (s : Follower) (number : ℕ) (found : Option Sent) → SendsNone (take_row s number found)
unfolding take_row
take-sends s number None = tt
take-sends s number (Some w) = tt

pub apply-sends : (s : Follower) (epoch number : ℕ) (batch : List Operation) (found : Option Sent) → SendsNone (apply_row s epoch number batch found)
unfolding apply_row
apply-sends s epoch number batch found =
    on_guards (λ (o : Outcome Follower). SendsNone o) s ((nat_lt epoch s.epoch, OldEpoch s.epoch) ∷ (is_other batch found, NoBatch number) ∷ [])
    (answered (replies.Applied (new_in s.copies.primary.seen batch)) (with_copies s (applied batch s.copies))) (λ why. tt) (λ none. tt)

write_done-sends : (s : Follower) (w : Sent) (lacking : Option ℕ) → SendsNone (write_done s w lacking)
write_done-sends s w (Some copy) = tt
write_done-sends s w None = filled-sends (record w.task { retry = 0; writes = without_write w.write.number w.task.writes })

pub written-sends : (s : Follower) (number : ℕ) (found : Option Sent) → SendsNone (written_row s number found)
unfolding written_row
written-sends s number None = tt
written-sends s number (Some w) = write_done-sends s w (lacks w.write.batch s.copies)

pub renew-sends : (s : Follower) (found : Option Task) → SendsNone (renew_row s found)
unfolding renew_row
renew-sends s None = tt
renew-sends s (Some t) =
    on_guards (λ (o : Outcome Follower). SendsNone o) s ((not (is_active t.phase), NotActive) ∷ []) (lease_request s t (contents.LeaseRenew s.lease (needed_from s t))) (λ why. tt) (λ none. (tt, tt))

pub pause-sends : (s : Follower) (found : Option Task) → SendsNone (pause_row s found)
unfolding pause_row
pause-sends s None = tt
pause-sends s (Some t) = tt

anew-sends : (s : Follower) (t : Task) → SendsNone (task_anew s t)
anew-sends s t = started-sends s.params s.copies.primary.global (s.epoch + 1) t.history t.follower t.next_request

pub resume-sends : (s : Follower) (found : Option Task) → SendsNone (resume_row s found)
unfolding resume_row
resume-sends s None = tt
resume-sends s (Some t) =
    on_guards (λ (o : Outcome Follower). SendsNone o) s ((not (is_paused t.phase), NotPaused) ∷ []) (task_anew s t) (λ why. tt) (λ none. anew-sends s t)

pub restart-sends : (s : Follower) (found : Option Task) → SendsNone (restart_row s found)
unfolding restart_row
restart-sends s None = tt
restart-sends s (Some t) =
    on_guards (λ (o : Outcome Follower). SendsNone o) s ((not (is_active t.phase), NotActive) ∷ []) (task_anew s t) (λ why. tt) (λ none. anew-sends s t)

pub unfollow-sends : (s : Follower) (found : Option Task) → SendsNone (unfollow_row s found)
unfolding unfollow_row
unfollow-sends s None = tt
unfollow-sends s (Some t) =
    on_guards (λ (o : Outcome Follower). SendsNone o) s ((is_active t.phase, NotPaused) ∷ []) (lease_request s (record t { phase = phases.Unfollowed }) (contents.LeaseRemove s.lease))
    (λ why. tt) (λ none. (tt, tt))

pub follower_add_copy-sends : (s : Follower) → SendsNone (follower_add_copy_row s)
unfolding follower_add_copy_row
follower_add_copy-sends s =
    on_guards (λ (o : Outcome Follower). SendsNone o) s ((is_bootstrapping s.work, Bootstrapping) ∷ []) (within (with_copies s) (add_copy_row s.copies)) (λ why. tt) (λ none. plain-replies _ (add_copy-sends s.copies))

pub follower_status-sends : (s : Follower) → SendsNone (follower_status_row s)
unfolding follower_status_row
follower_status-sends s = tt
