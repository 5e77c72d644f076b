-- Each row of a follower keeps what holds of its work.
use Rattle.std.specs.List.{filter, list_any}
use Rattle.std.specs.Prelude.{IfSome, slice_get}
use Rattle.std.specs.Option.{option_map}
use Rattle.std.proofs.Common.{◌≡◌, ℕ, ◌+◌, ◌==◌, not, nat_lt, Option, Some, None, List, [], ◌∷◌, refl}
use Rattle.ccr_op.specs.Operation.{Operation}
use Rattle.ccr_wire.specs.Message.{Frame}
use Rattle.ccr_wire.specs.declared.content.Content.{Content}
use Rattle.ccr_wire.specs.declared.content.Content.TheVariants as contents
use Rattle.ccr_journal.specs.declared.sides.Phase.TheVariants as phases
use Rattle.ccr_journal.specs.declared.replies.Reply.TheVariants as replies
use Rattle.ccr_journal.specs.declared.replies.Heard.TheVariants as heard
use Rattle.ccr_journal.specs.declared.replies.Refusal.TheVariants.{NotActive, NotPaused, OldEpoch, NoBatch, Bootstrapping}
use Rattle.ccr_model.specs.Outcomes.{Outcome, answered, within}
use Rattle.ccr_model.specs.CopyRows.{add_copy_row}
use Rattle.ccr_model.specs.Requests.{Sending}
use Rattle.ccr_model.specs.Tasks.{Task, Read, Write, is_active, stopped, read_sent, sent_reads, write_sent}
use Rattle.ccr_model.specs.Restores.{Restore, Stage, leasing, opening, fetching, is_complete, ends_restore, restore_hears, sent_requests}
use Rattle.ccr_model.specs.Followers.{Follower, Work, restoring, replicating, bootstrapped}
use Rattle.ccr_model.specs.FollowerRows.{Sent, does, with_task, with_copies, task_of, is_bootstrapping, restore_done, restore_heard, restore_ended, hear_read, task_heard, work_hears, follower_receive_row, task_lost, bootstrap_lost, lose_row, tick_row, follower_clock_row, sent_write, lose_write_row, take_row, new_in, applied, is_other, apply_row, lacks, write_done, written_row, lease_request, needed_from, renew_row, pause_row, is_paused, task_anew, resume_row, restart_row, unfollow_row, follower_add_copy_row, follower_status_row}
use Rattle.ccr_law_base.proofs.Cases.{on_if, on_guards}
use Rattle.ccr_law_settling_grounds.specs.Pending.{IsStagePending, IsTaskPending, IsWorkPending}
use Rattle.ccr_law_settling_grounds.proofs.Work.Bootstraps as bootstraps
use Rattle.ccr_law_settling_grounds.proofs.Work.Tasks as tasks

abbrev pub IsPendingAfter : Outcome Follower → Type 0
IsPendingAfter o = IsWorkPending o.next.work

abbrev working : Follower → Work → Follower
working s w = record s { work = w }

-- ---- messages

done_pending : (s : Follower) (r : Restore) (sent : List Frame) (stage : Stage) → bootstraps.IsStageOpen r.chunk_size stage
    → IsPendingAfter (restore_done s (record { next = record r { stage = stage }; sent = sent }))
done_pending s r sent (leasing a) holds = holds
done_pending s r sent (opening a) holds = holds
done_pending s r sent (fetching f) holds =
    let next : Restore = record r { stage = fetching f } in
    let done : Sending Restore = record { next = next; sent = sent } in
    on_if IsPendingAfter (is_complete r.chunk_size f) (does (replies.Heard heard.Done) (λ next. next) (bootstrapped s next f)) (does (replies.Heard heard.Done) (λ r. record s { work = restoring r }) done)
    (λ ends. tasks.started_pending s.params f.count 1 f.history r.follower r.next_request) (λ goes_on. bootstraps.incomplete_pending r.chunk_size f holds goes_on)

heard_pending : (s : Follower) (found : Option (Sending Restore)) → IsWorkPending s.work → bootstraps.AreHeardOpen found → IsPendingAfter (restore_heard s found)
heard_pending s None holds opened = holds
heard_pending s (Some done) holds opened = done_pending s done.next done.sent done.next.stage opened

read_pending : (s : Follower) (t : Task) (request : ℕ) (r : Read) (content : Content) → IsWorkPending s.work → IsTaskPending t → read_sent t request ≡ Some r
    → IsPendingAfter (hear_read s t r content)
read_pending s t request r (contents.ReadReply from global ops) here holds found = tasks.reply_pending t request r global ops holds found
read_pending s t request r (contents.ReadMissing from floor) here holds found = tasks.stopped_pending phases.Missing (record t { retry = 0 }) (tasks.calm_pending t 0 t.next_request holds)
read_pending s t request r (contents.ReadHistory history) here holds found = tasks.stopped_pending phases.History (record t { retry = 0 }) (tasks.calm_pending t 0 t.next_request holds)
read_pending s t request r _ here holds found = here

task_pending : (s : Follower) (t : Task) (request : ℕ) (content : Content) (found : Option Read) → read_sent t request ≡ found → IsWorkPending s.work → IsTaskPending t
    → IsPendingAfter (task_heard s t content found)
task_pending s t request content None is here holds = here
task_pending s t request content (Some r) is here holds = read_pending s t request r content here holds is

hears_pending : (s : Follower) (m : Frame) (w : Work) → IsWorkPending w → IsPendingAfter (work_hears (working s w) m)
hears_pending s m (restoring r) holds =
    on_if IsPendingAfter (ends_restore r m) (restore_ended (working s (restoring r)) r) (restore_heard (working s (restoring r)) (restore_hears r s.now m))
    (λ ends. record { writes = tt; reads = λ stopped. refl; buffer = λ stopped. refl })
    (λ goes_on. heard_pending (working s (restoring r)) (restore_hears r s.now m) holds (bootstraps.heard_open r s.now m r.stage holds))
hears_pending s m (replicating t) holds = task_pending (working s (replicating t)) t m.request m.content (read_sent t m.request) refl holds holds

pub receive_pending : (s : Follower) (m : Frame) → IsWorkPending s.work → IsPendingAfter (follower_receive_row s m)
unfolding follower_receive_row
receive_pending s m holds =
    on_if IsPendingAfter (list_any (λ n. n == m.request) s.lease_requests)
    (answered (replies.Heard heard.Done) (record s { lease_requests = filter (λ n. not (n == m.request)) s.lease_requests })) (work_hears s m)
    (λ is. holds) (λ isnt. hears_pending s m s.work holds)

-- ---- losses and retries

lost_read_pending : (s : Follower) (t : Task) (at : ℕ) (found : Option Read) → IsWorkPending s.work → IsTaskPending t → IsPendingAfter (task_lost s t at found)
lost_read_pending s t at None here holds = here
lost_read_pending s t at (Some r) here holds = tasks.read_lost_pending t s.now r holds

lost_request_pending : (s : Follower) (r : Restore) (at : ℕ) (found : Option ℕ) → IsWorkPending s.work → IsStagePending r.chunk_size r.stage → IsPendingAfter (bootstrap_lost s r at found)
lost_request_pending s r at None here holds = here
lost_request_pending s r at (Some request) here holds = bootstraps.lost_pending r s.now request r.stage holds

lost_work_pending : (s : Follower) (at : ℕ) (w : Work) → IsWorkPending w → IsPendingAfter (lose_row (working s w) at)
unfolding lose_row
lost_work_pending s at (restoring r) holds = lost_request_pending (working s (restoring r)) r at (slice_get (sent_requests r.stage) at) holds holds
lost_work_pending s at (replicating t) holds = lost_read_pending (working s (replicating t)) t at (slice_get (sent_reads t) at) holds holds

pub lose_pending : (s : Follower) (at : ℕ) → IsWorkPending s.work → IsPendingAfter (lose_row s at)
lose_pending s at holds = lost_work_pending s at s.work holds

ticked_work_pending : (s : Follower) (w : Work) → IsWorkPending w → IsPendingAfter (tick_row (working s w))
unfolding tick_row
ticked_work_pending s (restoring r) holds = bootstraps.ticked_pending s.now r r.stage holds
ticked_work_pending s (replicating t) holds = tasks.ticked_pending s.now t holds

pub tick_pending : (s : Follower) → IsWorkPending s.work → IsPendingAfter (tick_row s)
tick_pending s holds = ticked_work_pending s s.work holds

pub clock_pending : (s : Follower) (now : ℕ) → IsWorkPending s.work → IsPendingAfter (follower_clock_row s now)
unfolding follower_clock_row
clock_pending s now holds = holds

-- ---- writes

-- what holds of the task that has a write, where one is found
abbrev pub IsSentPending : Option Sent → Type 0
IsSentPending found = IfSome found (λ (w : Sent). IsTaskPending w.task)

task_with : (t : Task) (found : Option Write) → IsTaskPending t → IsSentPending (option_map {T = Write} {U = Sent} (λ w. record { task = t; write = w }) found)
task_with t None holds = tt
task_with t (Some w) holds = holds

pub sent_pending : (w : Work) (number : ℕ) → IsWorkPending w → IsSentPending (sent_write w number)
sent_pending (restoring r) number holds = tt
sent_pending (replicating t) number holds = task_with t (write_sent t number) holds

pub lose_write_pending : (s : Follower) (number : ℕ) (found : Option Sent) → IsWorkPending s.work → IsSentPending found → IsPendingAfter (lose_write_row s number found)
unfolding lose_write_row
lose_write_pending s number None here holds = here
lose_write_pending s number (Some w) here holds = tasks.write_lost_pending w.task s.now w.write holds

pub take_pending : (s : Follower) (number : ℕ) (found : Option Sent) → IsWorkPending s.work → IsPendingAfter (take_row s number found)
unfolding take_row
take_pending s number None here = here
take_pending s number (Some w) here = here

pub apply_pending : (s : Follower) (epoch number : ℕ) (batch : List Operation) (found : Option Sent) → IsWorkPending s.work → IsPendingAfter (apply_row s epoch number batch found)
unfolding apply_row
apply_pending s epoch number batch found here =
    on_guards IsPendingAfter s ((nat_lt epoch s.epoch, OldEpoch s.epoch) ∷ (is_other batch found, NoBatch number) ∷ [])
    (answered (replies.Applied (new_in s.copies.primary.seen batch)) (with_copies s (applied batch s.copies))) (λ why. here) (λ none. here)

ended_pending : (s : Follower) (w : Sent) (lacking : Option ℕ) → IsWorkPending s.work → IsTaskPending w.task → IsPendingAfter (write_done s w lacking)
ended_pending s w (Some copy) here holds = here
ended_pending s w None here holds = tasks.write_ended_pending w.task w.write holds

pub written_pending : (s : Follower) (number : ℕ) (found : Option Sent) → IsWorkPending s.work → IsSentPending found → IsPendingAfter (written_row s number found)
unfolding written_row
written_pending s number None here holds = here
written_pending s number (Some w) here holds = ended_pending s w (lacks w.write.batch s.copies) here holds

-- ---- lease requests, pauses and restarts

abbrev pub IsFoundPending : Option Task → Type 0
IsFoundPending found = IfSome found IsTaskPending

pub found_pending : (w : Work) → IsWorkPending w → IsFoundPending (task_of w)
found_pending (restoring r) holds = tt
found_pending (replicating t) holds = holds

pub renew_pending : (s : Follower) (found : Option Task) → IsWorkPending s.work → IsFoundPending found → IsPendingAfter (renew_row s found)
unfolding renew_row
renew_pending s None here holds = here
renew_pending s (Some t) here holds =
    on_guards IsPendingAfter s ((not (is_active t.phase), NotActive) ∷ []) (lease_request s t (contents.LeaseRenew s.lease (needed_from s t)))
    (λ why. here) (λ none. tasks.calm_pending t t.retry (t.next_request + 1) holds)

pub pause_pending : (s : Follower) (found : Option Task) → IsWorkPending s.work → IsFoundPending found → IsPendingAfter (pause_row s found)
unfolding pause_row
pause_pending s None here holds = here
pause_pending s (Some t) here holds =
    on_if (λ (next : Follower). IsWorkPending next.work) (is_active t.phase) (with_task s (stopped phases.Paused t)) s (λ active. tasks.stopped_pending phases.Paused t holds) (λ isnt. here)

anew_pending : (s : Follower) (t : Task) → IsPendingAfter (task_anew s t)
anew_pending s t = tasks.started_pending s.params s.copies.primary.global (s.epoch + 1) t.history t.follower t.next_request

pub resume_pending : (s : Follower) (found : Option Task) → IsWorkPending s.work → IsPendingAfter (resume_row s found)
unfolding resume_row
resume_pending s None here = here
resume_pending s (Some t) here = on_guards IsPendingAfter s ((not (is_paused t.phase), NotPaused) ∷ []) (task_anew s t) (λ why. here) (λ none. anew_pending s t)

pub restart_pending : (s : Follower) (found : Option Task) → IsWorkPending s.work → IsPendingAfter (restart_row s found)
unfolding restart_row
restart_pending s None here = here
restart_pending s (Some t) here = on_guards IsPendingAfter s ((not (is_active t.phase), NotActive) ∷ []) (task_anew s t) (λ why. here) (λ none. anew_pending s t)

pub unfollow_pending : (s : Follower) (found : Option Task) → IsWorkPending s.work → IsFoundPending found → IsPendingAfter (unfollow_row s found)
unfolding unfollow_row
unfollow_pending s None here holds = here
unfollow_pending s (Some t) here holds =
    on_guards IsPendingAfter s ((is_active t.phase, NotPaused) ∷ []) (lease_request s (record t { phase = phases.Unfollowed }) (contents.LeaseRemove s.lease))
    (λ why. here) (λ isnt. record { writes = holds.writes; reads = λ _. holds.reads isnt.0; buffer = λ _. holds.buffer isnt.0 })

-- ---- copies

pub add_copy_pending : (s : Follower) → IsWorkPending s.work → IsPendingAfter (follower_add_copy_row s)
unfolding follower_add_copy_row
add_copy_pending s here = on_guards IsPendingAfter s ((is_bootstrapping s.work, Bootstrapping) ∷ []) (within (with_copies s) (add_copy_row s.copies)) (λ why. here) (λ none. here)

pub status_pending : (s : Follower) → IsWorkPending s.work → IsPendingAfter (follower_status_row s)
unfolding follower_status_row
status_pending s here = here
