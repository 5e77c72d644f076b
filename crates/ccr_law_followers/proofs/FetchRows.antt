-- What each event of a follower makes of the claims on its bootstrap.
use Rattle.std.specs.List.{list_any}
use Rattle.std.specs.Prelude.{slice_get}
use Rattle.std.proofs.Common.{◌≡◌, ℕ, ◌==◌, if◌then◌else◌, Option, Some, None, List, refl, subst}
use Rattle.ccr_op.specs.Operation.{Operation}
use Rattle.ccr_wire.specs.Message.{Frame}
use Rattle.ccr_wire.specs.declared.content.Content.{Content}
use Rattle.ccr_wire.specs.declared.content.Content.TheVariants as contents
use Rattle.ccr_journal.specs.declared.sides.Phase.TheVariants as phases
use Rattle.ccr_journal.specs.declared.replies.Reply.TheVariants as replies
use Rattle.ccr_journal.specs.declared.replies.Heard.TheVariants as heard
use Rattle.ccr_model.specs.Outcomes.{Outcome}
use Rattle.ccr_model.specs.Requests.{Sending}
use Rattle.ccr_model.specs.Leaders.{Session}
use Rattle.ccr_model.specs.Tasks.{Task, Read, is_active, stopped, ticked, sent_reads, read_sent}
use Rattle.ccr_model.specs.Restores.{Restore, Stage, leasing, opening, fetching, is_complete, ends_restore, restore_hears, restore_ticked, sent_requests}
use Rattle.ccr_model.specs.Followers.{Follower, Work, restoring, replicating, bootstrapped}
use Rattle.ccr_model.specs.FollowerRows.{with_task, does, restore_done, restore_heard, restore_ended, hear_read, task_heard, follower_receive_row, task_lost, bootstrap_lost, lose_row, tick_row, follower_clock_row, Sent, lose_write_row, take_row, apply_row, lacks, write_done, written_row, renew_row, pause_row, resume_row, restart_row, unfollow_row, follower_add_copy_row, follower_status_row}
use Rattle.ccr_law_base.proofs.Cases.{on_if, on_guards}
use Rattle.ccr_law_followers.specs.Fetches.{RestoreOk, WorkOk}
use Rattle.ccr_law_followers.proofs.Restoring.{SaysTruly, IsOkIf, restore-lost, restore-ticked, restore-hears}

abbrev pub WorkAfter : List Session → Outcome Follower → Type 0
WorkAfter sessions o = WorkOk sessions o.next.work

pub lose_work : (sessions : List Session) (s : Follower) (at : ℕ) → WorkOk sessions s.work → WorkAfter sessions (lose_row s at)
unfolding lose_row
lose_work sessions s at ok = by_work s.work refl
  where
    restore_lost_at : (r : Restore) (found : Option ℕ) → s.work ≡ restoring r → WorkAfter sessions (bootstrap_lost s r at found)
    restore_lost_at r None is = ok
    restore_lost_at r (Some request) is = restore-lost sessions r s.now request (subst (WorkOk sessions) is ok)

    task_lost_at : (t : Task) (found : Option Read) → WorkAfter sessions (task_lost s t at found)
    task_lost_at t None = ok
    task_lost_at t (Some r) = tt

    by_work : (work : Work) → s.work ≡ work → WorkAfter sessions (elim work as (λ _. Outcome Follower) [
      | restoring r ↦ bootstrap_lost s r at (slice_get (sent_requests r.stage) at)
      | replicating t ↦ task_lost s t at (slice_get (sent_reads t) at)
    ])
    by_work (restoring r) is = restore_lost_at r (slice_get (sent_requests r.stage) at) is
    by_work (replicating t) is = task_lost_at t (slice_get (sent_reads t) at)

pub tick_work : (sessions : List Session) (s : Follower) → WorkOk sessions s.work → WorkAfter sessions (tick_row s)
unfolding tick_row
tick_work sessions s ok = by_work s.work refl
  where
    by_work : (work : Work) → s.work ≡ work → WorkAfter sessions (elim work as (λ _. Outcome Follower) [
      | restoring r ↦ does replies.Done (λ next. record s { work = restoring next }) (restore_ticked s.now r)
      | replicating t ↦ does replies.Done (with_task s) (ticked s.now t)
    ])
    by_work (restoring r) is = restore-ticked sessions r s.now (subst (WorkOk sessions) is ok)
    by_work (replicating t) is = tt

pub clock_work : (sessions : List Session) (s : Follower) (now : ℕ) → WorkOk sessions s.work → WorkAfter sessions (follower_clock_row s now)
unfolding follower_clock_row
clock_work sessions s now ok = ok

pub lose_write_work : (sessions : List Session) (s : Follower) (number : ℕ) (found : Option Sent) → WorkOk sessions s.work → WorkAfter sessions (lose_write_row s number found)
unfolding lose_write_row
lose_write_work sessions s number None ok = ok
lose_write_work sessions s number (Some w) ok = tt

pub take_work : (sessions : List Session) (s : Follower) (number : ℕ) (found : Option Sent) → WorkOk sessions s.work → WorkAfter sessions (take_row s number found)
unfolding take_row
take_work sessions s number None ok = ok
take_work sessions s number (Some w) ok = ok

pub apply_work : (sessions : List Session) (s : Follower) (epoch number : ℕ) (batch : List Operation) (found : Option Sent) → WorkOk sessions s.work
    → WorkAfter sessions (apply_row s epoch number batch found)
unfolding apply_row
apply_work sessions s epoch number batch found ok = on_guards (WorkAfter sessions) s _ _ (λ why. ok) (λ tests. ok)

pub written_work : (sessions : List Session) (s : Follower) (number : ℕ) (found : Option Sent) → WorkOk sessions s.work → WorkAfter sessions (written_row s number found)
unfolding written_row
written_work sessions s number None ok = ok
written_work sessions s number (Some w) ok = by_lacking (lacks w.write.batch s.copies)
  where
    by_lacking : (o : Option ℕ) → WorkAfter sessions (write_done s w o)
    by_lacking (Some copy) = ok
    by_lacking None = tt

pub add_copy_work : (sessions : List Session) (s : Follower) → WorkOk sessions s.work → WorkAfter sessions (follower_add_copy_row s)
unfolding follower_add_copy_row
add_copy_work sessions s ok = on_guards (WorkAfter sessions) s _ _ (λ why. ok) (λ tests. ok)

pub renew_work : (sessions : List Session) (s : Follower) (found : Option Task) → WorkOk sessions s.work → WorkAfter sessions (renew_row s found)
unfolding renew_row
renew_work sessions s None ok = ok
renew_work sessions s (Some t) ok = on_guards (WorkAfter sessions) s _ _ (λ why. ok) (λ tests. tt)

pub pause_work : (sessions : List Session) (s : Follower) (found : Option Task) → WorkOk sessions s.work → WorkAfter sessions (pause_row s found)
unfolding pause_row
pause_work sessions s None ok = ok
pause_work sessions s (Some t) ok = on_if (λ (x : Follower). WorkOk sessions x.work) (is_active t.phase) (with_task s (stopped phases.Paused t)) s (λ active. tt) (λ isnt. ok)

pub resume_work : (sessions : List Session) (s : Follower) (found : Option Task) → WorkOk sessions s.work → WorkAfter sessions (resume_row s found)
unfolding resume_row
resume_work sessions s None ok = ok
resume_work sessions s (Some t) ok = on_guards (WorkAfter sessions) s _ _ (λ why. ok) (λ tests. tt)

pub restart_work : (sessions : List Session) (s : Follower) (found : Option Task) → WorkOk sessions s.work → WorkAfter sessions (restart_row s found)
unfolding restart_row
restart_work sessions s None ok = ok
restart_work sessions s (Some t) ok = on_guards (WorkAfter sessions) s _ _ (λ why. ok) (λ tests. tt)

pub unfollow_work : (sessions : List Session) (s : Follower) (found : Option Task) → WorkOk sessions s.work → WorkAfter sessions (unfollow_row s found)
unfolding unfollow_row
unfollow_work sessions s None ok = ok
unfollow_work sessions s (Some t) ok = on_guards (WorkAfter sessions) s _ _ (λ why. ok) (λ tests. tt)

pub status_work : (sessions : List Session) (s : Follower) → WorkOk sessions s.work → WorkAfter sessions (follower_status_row s)
unfolding follower_status_row
status_work sessions s ok = ok

-- ---- messages

pub restore_done_work : (sessions : List Session) (s : Follower) (done : Sending Restore) → RestoreOk sessions done.next → WorkAfter sessions (restore_done s done)
restore_done_work sessions s done ok = by_stage done.next.stage
  where
    by_stage : (stage : Stage) → WorkAfter sessions (elim stage as (λ _. Outcome Follower) [
      | leasing a ↦ does (replies.Heard heard.Done) (λ x. record s { work = restoring x }) done
      | opening a ↦ does (replies.Heard heard.Done) (λ x. record s { work = restoring x }) done
      | fetching f ↦
          if is_complete done.next.chunk_size f
          then does (replies.Heard heard.Done) (λ next. next) (bootstrapped s done.next f)
          else does (replies.Heard heard.Done) (λ x. record s { work = restoring x }) done
    ])
    by_stage (leasing a) = ok
    by_stage (opening a) = ok
    by_stage (fetching f) =
        on_if (WorkAfter sessions) (is_complete done.next.chunk_size f) (does (replies.Heard heard.Done) (λ next. next) (bootstrapped s done.next f))
        (does (replies.Heard heard.Done) (λ x. record s { work = restoring x }) done) (λ whole. tt) (λ isnt. ok)

pub restore_heard_work : (sessions : List Session) (s : Follower) (found : Option (Sending Restore)) → WorkOk sessions s.work → IsOkIf sessions found → WorkAfter sessions (restore_heard s found)
restore_heard_work sessions s None ok made = ok
restore_heard_work sessions s (Some done) ok made = restore_done_work sessions s done (made done refl)

pub read_work : (sessions : List Session) (s : Follower) (t : Task) (r : Read) (content : Content) → WorkOk sessions s.work → WorkAfter sessions (hear_read s t r content)
read_work sessions s t r (contents.ReadReply from global ops) ok = tt
read_work sessions s t r (contents.ReadMissing from floor) ok = tt
read_work sessions s t r (contents.ReadHistory history) ok = tt
read_work sessions s t r _ ok = ok

pub task_work : (sessions : List Session) (s : Follower) (t : Task) (content : Content) (found : Option Read) → WorkOk sessions s.work → WorkAfter sessions (task_heard s t content found)
task_work sessions s t content None ok = ok
task_work sessions s t content (Some r) ok = read_work sessions s t r content ok

pub receive_work : (sessions : List Session) (s : Follower) (m : Frame) → ((r : Restore) → s.work ≡ restoring r → SaysTruly sessions r m) → WorkOk sessions s.work
    → WorkAfter sessions (follower_receive_row s m)
unfolding follower_receive_row
receive_work sessions s m says ok =
    on_if (WorkAfter sessions) (list_any (λ n. n == m.request) s.lease_requests) _ _ (λ is. ok) (λ isnt. by_work s.work refl)
  where
    by_work : (work : Work) → s.work ≡ work → WorkAfter sessions (elim work as (λ _. Outcome Follower) [
      | restoring r ↦ if ends_restore r m then restore_ended s r else restore_heard s (restore_hears r s.now m)
      | replicating t ↦ task_heard s t m.content (read_sent t m.request)
    ])
    by_work (restoring r) is =
        on_if (WorkAfter sessions) (ends_restore r m) (restore_ended s r) (restore_heard s (restore_hears r s.now m)) (λ ends. tt)
        (λ goes_on. restore_heard_work sessions s (restore_hears r s.now m) ok (restore-hears sessions r s.now m (subst (WorkOk sessions) is ok) (says r is)))
    by_work (replicating t) is = task_work sessions s t m.content (read_sent t m.request) ok
