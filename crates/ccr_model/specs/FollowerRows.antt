-- What the events of a follower's side come to.
use Rattle.std.specs.Prelude.{ℕ, ◌+◌, Bool, true, false, not, ◌==◌, nat_lt, min, if◌then◌else◌, List, [], ◌∷◌, ◌++◌, length, filter, slice_get, Option, Some, None}
use Rattle.std.specs.Option.{option_map, option_map_or}
use Rattle.std.specs.List.{list_any, list_all, fold}
use Rattle.ccr_op.specs.Operation.{Operation}
use Rattle.ccr_tracker.specs.Numbers.{Numbers, has, marked}
use Rattle.ccr_wire.specs.Message.{Frame}
use Rattle.ccr_wire.specs.declared.content.Content.{Content}
use Rattle.ccr_wire.specs.declared.content.Content.TheVariants as contents
use Rattle.ccr_op.specs.Sameness.{same_operations}
use Rattle.ccr_journal.specs.declared.sides.Phase.{Phase}
use Rattle.ccr_journal.specs.declared.sides.Phase.TheVariants as phases
use Rattle.ccr_journal.specs.declared.statuses.FollowerStatus.{FollowerStatus}
use Rattle.ccr_journal.specs.declared.replies.Reply.{Reply}
use Rattle.ccr_journal.specs.declared.replies.Reply.TheVariants as replies
use Rattle.ccr_journal.specs.declared.replies.Heard.TheVariants as heard
use Rattle.ccr_journal.specs.declared.replies.Refusal.TheVariants.{NoRequest, NoBatch, OldEpoch, NotWritten, NotActive, Bootstrapping, NotPaused}
use Rattle.ccr_model.specs.Outcomes.{Outcome, refused, answered, guarded, within}
use Rattle.ccr_model.specs.Copies.{Copy, Copies, replica_of, copy_of, counted, taking, all_copies, statuses_of}
use Rattle.ccr_model.specs.CopyRows.{replicate_row, ack_row, sync_row, fail_copy_row, add_copy_row, flush_row, merge_row, follower_promote_row}
use Rattle.ccr_model.specs.Requests.{Sending}
use Rattle.ccr_model.specs.Tasks.{Task, Read, Write, is_active, started, never_started, stopped, filled_if_active, read_sent, after_reply, sent_reads, read_lost, write_sent, write_lost, write_ended, ticked, least_from}
use Rattle.ccr_model.specs.Restores.{Restore, leasing, opening, fetching, is_complete, ends_restore, restore_hears, restore_lost, restore_ticked, sent_requests}
use Rattle.ccr_model.specs.Followers.{Follower, Work, restoring, replicating, phase_of_work, bootstrapped}

abbrev pub with_copies : Follower → Copies → Follower
with_copies s copies = record s { copies = copies }

abbrev pub with_task : Follower → Task → Follower
with_task s t = record s { work = replicating t }

-- a part did this, and its messages go out
abbrev pub does : {S : Type 0} → Reply → (S → Follower) → Sending S → Outcome Follower
does reply put done = record { reply = reply; next = put done.next; sent = done.sent }

-- the task, where the bootstrap is over
abbrev pub task_of : Work → Option Task
task_of (restoring r) = None
task_of (replicating t) = Some t

abbrev pub is_bootstrapping : Work → Bool
is_bootstrapping (restoring r) = true
is_bootstrapping (replicating t) = false

-- ---- messages

-- the bootstrap after a message: where all parts of the files are there, it is over
abbrev pub restore_done : Follower → Sending Restore → Outcome Follower
restore_done s done = elim done.next.stage as (λ _. Outcome Follower) [
  | leasing a ↦ does (replies.Heard heard.Done) (λ r. record s { work = restoring r }) done
  | opening a ↦ does (replies.Heard heard.Done) (λ r. record s { work = restoring r }) done
  | fetching f ↦
      if is_complete done.next.chunk_size f
      then does (replies.Heard heard.Done) (λ next. next) (bootstrapped s done.next f)
      else does (replies.Heard heard.Done) (λ r. record s { work = restoring r }) done
]

abbrev pub ignored : Follower → Outcome Follower
ignored s = answered (replies.Heard heard.Ignored) s

abbrev pub restore_heard : Follower → Option (Sending Restore) → Outcome Follower
restore_heard s None = ignored s
restore_heard s (Some done) = restore_done s done

-- an answer to a read that was sent
abbrev pub hear_read : Follower → Task → Read → Content → Outcome Follower
hear_read s t r (contents.ReadReply from global ops) =
    does (replies.Heard heard.Done) (with_task s) (filled_if_active (after_reply t r global ops))
hear_read s t r (contents.ReadMissing from floor) =
    answered (replies.Heard heard.StoppedMissing) (with_task s (stopped phases.Missing (record t { retry = 0 })))
hear_read s t r (contents.ReadHistory history) =
    answered (replies.Heard heard.StoppedHistory) (with_task s (stopped phases.History (record t { retry = 0 })))
hear_read s t r _ = ignored s

abbrev pub task_heard : Follower → Task → Content → Option Read → Outcome Follower
task_heard s t content None = ignored s
task_heard s t content (Some r) = hear_read s t r content

-- the leader has another history than the one that the bootstrap began with: the follower stops before its task ever started
abbrev pub restore_ended : Follower → Restore → Outcome Follower
restore_ended s r =
    answered (replies.Heard heard.StoppedHistory) (record s { work = replicating (never_started s.params r.history r.follower r.next_request phases.History) })

abbrev pub work_hears : Follower → Frame → Outcome Follower
work_hears s m = elim s.work as (λ _. Outcome Follower) [
  | restoring r ↦ if ends_restore r m then restore_ended s r else restore_heard s (restore_hears r s.now m)
  | replicating t ↦ task_heard s t m.content (read_sent t m.request)
]

-- a message comes: it answers a renewal or a removal, which ends so, or else what the work asked for
unfoldable pub follower_receive_row : Follower → Frame → Outcome Follower
follower_receive_row s m =
    if list_any (λ n. n == m.request) s.lease_requests
    then answered (replies.Heard heard.Done) (record s { lease_requests = filter (λ n. not (n == m.request)) s.lease_requests })
    else work_hears s m

-- ---- losses and retries

abbrev pub task_lost : Follower → Task → ℕ → Option Read → Outcome Follower
task_lost s t at None = refused s (NoRequest at)
task_lost s t at (Some r) = answered replies.Done (with_task s (read_lost t s.now r))

abbrev pub bootstrap_lost : Follower → Restore → ℕ → Option ℕ → Outcome Follower
bootstrap_lost s r at None = refused s (NoRequest at)
bootstrap_lost s r at (Some request) = answered replies.Done (record s { work = restoring (restore_lost r s.now request) })

-- the request at this place among the sent ones waits for a retry
unfoldable pub lose_row : Follower → ℕ → Outcome Follower
lose_row s at = elim s.work as (λ _. Outcome Follower) [
  | restoring r ↦ bootstrap_lost s r at (slice_get (sent_requests r.stage) at)
  | replicating t ↦ task_lost s t at (slice_get (sent_reads t) at)
]

-- what is due is sent again, and an active task is filled
unfoldable pub tick_row : Follower → Outcome Follower
tick_row s = elim s.work as (λ _. Outcome Follower) [
  | restoring r ↦ does replies.Done (λ next. record s { work = restoring next }) (restore_ticked s.now r)
  | replicating t ↦ does replies.Done (with_task s) (ticked s.now t)
]

unfoldable pub follower_clock_row : Follower → ℕ → Outcome Follower
follower_clock_row s now = answered replies.Done (record s { now = now })

-- ---- writes

-- the write of a number in the sent state, with the task that has it
pub record Sent : Type 0 where
  pub task : Task
  pub write : Write

abbrev pub sent_write : Work → ℕ → Option Sent
sent_write (restoring r) number = None
sent_write (replicating t) number = option_map {T = Write} {U = Sent} (λ w. record { task = t; write = w }) (write_sent t number)

unfoldable pub lose_write_row : Follower → ℕ → Option Sent → Outcome Follower
lose_write_row s number None = refused s (NoBatch number)
lose_write_row s number (Some w) = answered replies.Done (with_task s (write_lost w.task s.now w.write))

unfoldable pub take_row : Follower → ℕ → Option Sent → Outcome Follower
take_row s number None = refused s (NoBatch number)
take_row s number (Some w) = answered (replies.Took w.write.batch) s

-- how many of the operations have a number that isn't processed
abbrev pub new_in : Numbers → List Operation → ℕ
new_in seen [] = 0
new_in seen (op ∷ batch) = if has seen op.seq then new_in seen batch else 1 + new_in (marked seen op.seq) batch

-- the primary takes each operation whose number it has not processed
abbrev pub applied : List Operation → Copies → Copies
applied batch s = counted record s { primary = fold {A = Operation} {B = Copy} (λ c op. taking c op.seq (Some op)) s.primary batch }

-- the write has other operations
abbrev pub is_other : List Operation → Option Sent → Bool
is_other batch None = true
is_other batch (Some w) = not (same_operations w.write.batch batch)

unfoldable pub apply_row : Follower → ℕ → ℕ → List Operation → Option Sent → Outcome Follower
apply_row s epoch number batch found =
    guarded s ((nat_lt epoch s.epoch, OldEpoch s.epoch) ∷ (is_other batch found, NoBatch number) ∷ [])
    (answered (replies.Applied (new_in s.copies.primary.seen batch)) (with_copies s (applied batch s.copies)))

-- the copy has processed each of the operations
abbrev pub has_all : List Operation → Copy → Bool
has_all batch c = list_all (λ op. has c.seen op.seq) batch

-- the least of these numbers
abbrev pub least_number : List Copy → Option ℕ
least_number [] = None
least_number (c ∷ copies) = Some (option_map_or (λ n. min c.number n) (least_number copies) c.number)

-- the least copy that has not processed one of the operations
abbrev pub lacks : List Operation → Copies → Option ℕ
lacks batch s = least_number (filter (λ c. not (has_all batch c)) (all_copies s))

abbrev pub write_done : Follower → Sent → Option ℕ → Outcome Follower
write_done s w (Some copy) = refused s (NotWritten copy)
write_done s w None = does replies.Done (with_task s) (write_ended w.task w.write)

-- the write ends once each copy has processed its operations
unfoldable pub written_row : Follower → ℕ → Option Sent → Outcome Follower
written_row s number None = refused s (NoBatch number)
written_row s number (Some w) = write_done s w (lacks w.write.batch s.copies)

-- ---- lease requests, pauses and restarts

-- a message of the follower under the next request number, for which the request stands
abbrev pub lease_request : Follower → Task → Content → Outcome Follower
lease_request s t content = record {
  reply = replies.Done;
  next = record s {
    work = replicating (record t { next_request = t.next_request + 1 });
    lease_requests = s.lease_requests ++ t.next_request ∷ [];
  };
  sent = record { follower = t.follower; request = t.next_request; content = content } ∷ [];
}

-- what the lease still has to retain: all that the primary doesn't know to be on each copy, and all that is read or will be
abbrev pub needed_from : Follower → Task → ℕ
needed_from s t = min s.copies.primary.global (least_from t.next t.reads)

unfoldable pub renew_row : Follower → Option Task → Outcome Follower
renew_row s None = refused s NotActive
renew_row s (Some t) =
    guarded s ((not (is_active t.phase), NotActive) ∷ [])
    (lease_request s t (contents.LeaseRenew s.lease (needed_from s t)))

-- an active task is paused; another is left as it is
unfoldable pub pause_row : Follower → Option Task → Outcome Follower
pause_row s None = refused s Bootstrapping
pause_row s (Some t) = answered replies.Done (if is_active t.phase then with_task s (stopped phases.Paused t) else s)

abbrev pub is_paused : Phase → Bool
is_paused phases.Paused = true
is_paused _ = false

-- the task starts anew in the next epoch, at what the primary knows to be on each copy
abbrev pub task_anew : Follower → Task → Outcome Follower
task_anew s t =
    does replies.Done (λ next. record s { work = replicating next; epoch = s.epoch + 1 })
    (started s.params s.copies.primary.global (s.epoch + 1) t.history t.follower t.next_request)

unfoldable pub resume_row : Follower → Option Task → Outcome Follower
resume_row s None = refused s NotPaused
resume_row s (Some t) = guarded s ((not (is_paused t.phase), NotPaused) ∷ []) (task_anew s t)

unfoldable pub restart_row : Follower → Option Task → Outcome Follower
restart_row s None = refused s NotActive
restart_row s (Some t) = guarded s ((not (is_active t.phase), NotActive) ∷ []) (task_anew s t)

-- a follower that isn't active follows no more, and its lease is removed
unfoldable pub unfollow_row : Follower → Option Task → Outcome Follower
unfollow_row s None = refused s NotPaused
unfollow_row s (Some t) =
    guarded s ((is_active t.phase, NotPaused) ∷ [])
    (lease_request s (record t { phase = phases.Unfollowed }) (contents.LeaseRemove s.lease))

-- ---- copies

unfoldable pub follower_add_copy_row : Follower → Outcome Follower
follower_add_copy_row s = guarded s ((is_bootstrapping s.work, Bootstrapping) ∷ []) (within (with_copies s) (add_copy_row s.copies))

abbrev pub follower_replicate : Follower → ℕ → ℕ → Outcome Follower
follower_replicate s copy seq = within (with_copies s) (replicate_row s.copies copy seq (replica_of s.copies copy))

abbrev pub follower_ack : Follower → ℕ → Outcome Follower
follower_ack s copy = within (with_copies s) (ack_row s.copies copy (replica_of s.copies copy))

abbrev pub follower_sync : Follower → ℕ → Outcome Follower
follower_sync s copy = within (with_copies s) (sync_row s.copies copy (replica_of s.copies copy))

abbrev pub follower_promote : Follower → ℕ → Outcome Follower
follower_promote s copy = within (with_copies s) (follower_promote_row s.copies copy (replica_of s.copies copy))

abbrev pub follower_fail_copy : Follower → ℕ → Outcome Follower
follower_fail_copy s copy = within (with_copies s) (fail_copy_row s.copies copy (replica_of s.copies copy))

abbrev pub follower_flush : Follower → ℕ → Outcome Follower
follower_flush s copy = within (with_copies s) (flush_row s.copies copy (copy_of s.copies copy))

abbrev pub follower_merge : Follower → ℕ → List ℕ → Outcome Follower
follower_merge s copy picks = within (with_copies s) (merge_row s.copies s.retention copy picks (copy_of s.copies copy))

-- ---- status

abbrev pub loads : Work → ℕ × ℕ × ℕ
loads (restoring r) = (0, 0, 0)
loads (replicating t) = (length t.reads, length t.buffer, length t.writes)

abbrev pub status_of_follower : Follower → FollowerStatus
status_of_follower s = record {
  phase = phase_of_work s.work;
  epoch = s.epoch;
  term = s.copies.term;
  copies = statuses_of s.copies;
  reads = (loads s.work).0;
  buffer = (loads s.work).1;
  writes = (loads s.work).2;
}

unfoldable pub follower_status_row : Follower → Outcome Follower
follower_status_row s = answered (replies.FollowerStatus (status_of_follower s)) s
