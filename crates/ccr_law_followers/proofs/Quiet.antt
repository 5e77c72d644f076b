-- The events of a follower that leave its copies as they are, and what a message makes of a follower.
use Rattle.std.specs.List.{list_any}
use Rattle.std.specs.Prelude.{slice_get}
use Rattle.std.proofs.Common.{◌≡◌, ℕ, ◌==◌, ◌⊎◌, inl, inr, true, false, if◌then◌else◌, Option, Some, None, refl, sym, ap}
use Rattle.ccr_wire.specs.Message.{Frame}
use Rattle.ccr_wire.specs.declared.content.Content.{Content}
use Rattle.ccr_wire.specs.declared.content.Content.TheVariants as contents
use Rattle.ccr_journal.specs.declared.sides.Phase.TheVariants as phases
use Rattle.ccr_journal.specs.declared.replies.Reply.TheVariants as replies
use Rattle.ccr_journal.specs.declared.replies.Heard.TheVariants as heard
use Rattle.ccr_model.specs.Outcomes.{Outcome}
use Rattle.ccr_model.specs.Requests.{Sending}
use Rattle.ccr_model.specs.Tasks.{Task, Read, is_active, stopped, ticked, sent_reads, read_sent}
use Rattle.ccr_model.specs.Restores.{Restore, Stage, leasing, opening, fetching, Fetch, is_complete, ends_restore, restore_hears, restore_ticked, sent_requests}
use Rattle.ccr_model.specs.Followers.{Follower, Work, restoring, replicating, bootstrapped}
use Rattle.ccr_model.specs.FollowerRows.{with_task, does, is_bootstrapping, task_of, restore_done, restore_heard, restore_ended, hear_read, task_heard, follower_receive_row, task_lost, bootstrap_lost, lose_row, tick_row, follower_clock_row, Sent, sent_write, lose_write_row, take_row, renew_row, pause_row, resume_row, restart_row, unfollow_row, follower_status_row}
use Rattle.ccr_law_base.proofs.Cases.{on_if, on_guards}
use Rattle.ccr_law_followers.proofs.After.{Keeps}
use Rattle.ccr_law_followers.proofs.Writes.{replicating_if_sent}

abbrev pub KeepsAll : Follower → Outcome Follower → Type 0
KeepsAll s o = Keeps s o.next

pub same : (s : Follower) → Keeps s s
same s = record { copies = refl; work = refl; history = refl }

-- the task goes on
pub task_goes_on : (s : Follower) (t : Task) → is_bootstrapping s.work ≡ false → Keeps s (with_task s t)
task_goes_on s t over = record { copies = refl; work = sym over; history = refl }

-- the bootstrap goes on
pub restore_goes_on : (s : Follower) (r next : Restore) → s.work ≡ restoring r → Keeps s (record s { work = restoring next })
restore_goes_on s r next is = record { copies = refl; work = ap is_bootstrapping (sym is); history = refl }

pub replicating_if_task : (work : Work) (t : Task) → task_of work ≡ Some t → is_bootstrapping work ≡ false
replicating_if_task (restoring r) t is = cc
replicating_if_task (replicating own) t is = refl

-- ---- losses and retries

pub task_lost_keeps : (s : Follower) (t : Task) (at : ℕ) (found : Option Read) → s.work ≡ replicating t → KeepsAll s (task_lost s t at found)
task_lost_keeps s t at None is = same s
task_lost_keeps s t at (Some r) is = task_goes_on s _ (ap is_bootstrapping is)

pub bootstrap_lost_keeps : (s : Follower) (r : Restore) (at : ℕ) (found : Option ℕ) → s.work ≡ restoring r → KeepsAll s (bootstrap_lost s r at found)
bootstrap_lost_keeps s r at None is = same s
bootstrap_lost_keeps s r at (Some request) is = restore_goes_on s r _ is

pub lose_keeps : (s : Follower) (at : ℕ) → KeepsAll s (lose_row s at)
unfolding lose_row
lose_keeps s at = by_work s.work refl
  where
    by_work : (work : Work) → s.work ≡ work → KeepsAll s (elim work as (λ _. Outcome Follower) [
      | restoring r ↦ bootstrap_lost s r at (slice_get (sent_requests r.stage) at)
      | replicating t ↦ task_lost s t at (slice_get (sent_reads t) at)
    ])
    by_work (restoring r) is = bootstrap_lost_keeps s r at (slice_get (sent_requests r.stage) at) is
    by_work (replicating t) is = task_lost_keeps s t at (slice_get (sent_reads t) at) is

pub tick_keeps : (s : Follower) → KeepsAll s (tick_row s)
unfolding tick_row
tick_keeps s = by_work s.work refl
  where
    by_work : (work : Work) → s.work ≡ work → KeepsAll s (elim work as (λ _. Outcome Follower) [
      | restoring r ↦ does replies.Done (λ next. record s { work = restoring next }) (restore_ticked s.now r)
      | replicating t ↦ does replies.Done (with_task s) (ticked s.now t)
    ])
    by_work (restoring r) is = restore_goes_on s r _ is
    by_work (replicating t) is = task_goes_on s _ (ap is_bootstrapping is)

pub clock_keeps : (s : Follower) (now : ℕ) → KeepsAll s (follower_clock_row s now)
unfolding follower_clock_row
clock_keeps s now = record { copies = refl; work = refl; history = refl }

pub lose_write_keeps : (s : Follower) (number : ℕ) (found : Option Sent) → sent_write s.work number ≡ found → KeepsAll s (lose_write_row s number found)
unfolding lose_write_row
lose_write_keeps s number None is = same s
lose_write_keeps s number (Some w) is = task_goes_on s _ (replicating_if_sent s.work number w is)

pub take_keeps : (s : Follower) (number : ℕ) (found : Option Sent) → KeepsAll s (take_row s number found)
unfolding take_row
take_keeps s number None = same s
take_keeps s number (Some w) = same s

-- ---- lease requests, pauses and restarts

pub renew_keeps : (s : Follower) (found : Option Task) → task_of s.work ≡ found → KeepsAll s (renew_row s found)
unfolding renew_row
renew_keeps s None is = same s
renew_keeps s (Some t) is =
    on_guards (KeepsAll s) s _ _ (λ why. same s) (λ tests. record { copies = refl; work = sym (replicating_if_task s.work t is); history = refl })

pub pause_keeps : (s : Follower) (found : Option Task) → task_of s.work ≡ found → KeepsAll s (pause_row s found)
unfolding pause_row
pause_keeps s None is = same s
pause_keeps s (Some t) is =
    on_if (Keeps s) (is_active t.phase) (with_task s (stopped phases.Paused t)) s (λ active. task_goes_on s _ (replicating_if_task s.work t is)) (λ isnt. same s)

pub resume_keeps : (s : Follower) (found : Option Task) → task_of s.work ≡ found → KeepsAll s (resume_row s found)
unfolding resume_row
resume_keeps s None is = same s
resume_keeps s (Some t) is =
    on_guards (KeepsAll s) s _ _ (λ why. same s) (λ tests. record { copies = refl; work = sym (replicating_if_task s.work t is); history = refl })

pub restart_keeps : (s : Follower) (found : Option Task) → task_of s.work ≡ found → KeepsAll s (restart_row s found)
unfolding restart_row
restart_keeps s None is = same s
restart_keeps s (Some t) is =
    on_guards (KeepsAll s) s _ _ (λ why. same s) (λ tests. record { copies = refl; work = sym (replicating_if_task s.work t is); history = refl })

pub unfollow_keeps : (s : Follower) (found : Option Task) → task_of s.work ≡ found → KeepsAll s (unfollow_row s found)
unfolding unfollow_row
unfollow_keeps s None is = same s
unfollow_keeps s (Some t) is =
    on_guards (KeepsAll s) s _ _ (λ why. same s) (λ tests. record { copies = refl; work = sym (replicating_if_task s.work t is); history = refl })

pub status_keeps : (s : Follower) → KeepsAll s (follower_status_row s)
unfolding follower_status_row
status_keeps s = same s

-- ---- messages

-- the message brought the last part of the files
pub record Ends (s : Follower) (m : Frame) (new : Follower) : Type 0 where
  pub restore : Restore
  pub done : Sending Restore
  pub fetch : Fetch
  pub work : s.work ≡ restoring restore
  pub hears : restore_hears restore s.now m ≡ Some done
  pub stage : done.next.stage ≡ fetching fetch
  pub other : ends_restore restore m ≡ false
  pub whole : is_complete done.next.chunk_size fetch ≡ true
  pub is : new ≡ (bootstrapped s done.next fetch).next

-- the bootstrap ended without a task that ever began
pub record Stops (s new : Follower) : Type 0 where
  pub was : is_bootstrapping s.work ≡ true
  pub is : is_bootstrapping new.work ≡ false
  pub copies : new.copies ≡ s.copies
  pub history : new.history ≡ s.history

abbrev pub Hears : Follower → Frame → Follower → Type 0
Hears s m new = Keeps s new ⊎ (Stops s new ⊎ Ends s m new)

pub restore_done_hears : (s : Follower) (m : Frame) (r : Restore) (done : Sending Restore) → s.work ≡ restoring r → ends_restore r m ≡ false → restore_hears r s.now m ≡ Some done
    → Hears s m (restore_done s done).next
restore_done_hears s m r done is other came = by_stage done.next.stage refl
  where
    by_stage : (stage : Stage) → done.next.stage ≡ stage → Hears s m (elim stage as (λ _. Outcome Follower) [
      | leasing a ↦ does (replies.Heard heard.Done) (λ x. record s { work = restoring x }) done
      | opening a ↦ does (replies.Heard heard.Done) (λ x. record s { work = restoring x }) done
      | fetching f ↦
          if is_complete done.next.chunk_size f
          then does (replies.Heard heard.Done) (λ next. next) (bootstrapped s done.next f)
          else does (replies.Heard heard.Done) (λ x. record s { work = restoring x }) done
    ]).next
    by_stage (leasing a) at = inl (restore_goes_on s r done.next is)
    by_stage (opening a) at = inl (restore_goes_on s r done.next is)
    by_stage (fetching f) at =
        on_if (λ (o : Outcome Follower). Hears s m o.next) (is_complete done.next.chunk_size f)
        (does (replies.Heard heard.Done) (λ next. next) (bootstrapped s done.next f))
        (does (replies.Heard heard.Done) (λ x. record s { work = restoring x }) done)
        (λ whole. inr (inr record { restore = r; done = done; fetch = f; work = is; hears = came; stage = at; other = other; whole = whole; is = refl }))
        (λ isnt. inl (restore_goes_on s r done.next is))

pub restore_hears_it : (s : Follower) (m : Frame) (r : Restore) (done : Option (Sending Restore)) → s.work ≡ restoring r → ends_restore r m ≡ false → restore_hears r s.now m ≡ done
    → Hears s m (restore_heard s done).next
restore_hears_it s m r None is other came = inl (same s)
restore_hears_it s m r (Some done) is other came = restore_done_hears s m r done is other came

pub read_keeps : (s : Follower) (t : Task) (r : Read) (content : Content) → is_bootstrapping s.work ≡ false → KeepsAll s (hear_read s t r content)
read_keeps s t r (contents.ReadReply from global ops) over = task_goes_on s _ over
read_keeps s t r (contents.ReadMissing from floor) over = task_goes_on s _ over
read_keeps s t r (contents.ReadHistory history) over = task_goes_on s _ over
read_keeps s t r _ over = same s

pub task_keeps : (s : Follower) (t : Task) (content : Content) (found : Option Read) → is_bootstrapping s.work ≡ false → KeepsAll s (task_heard s t content found)
task_keeps s t content None over = same s
task_keeps s t content (Some r) over = read_keeps s t r content over

pub receive_hears : (s : Follower) (m : Frame) → Hears s m (follower_receive_row s m).next
unfolding follower_receive_row
receive_hears s m =
    on_if (λ (o : Outcome Follower). Hears s m o.next) (list_any (λ n. n == m.request) s.lease_requests) _ _
    (λ is. inl record { copies = refl; work = refl; history = refl }) (λ isnt. by_work s.work refl)
  where
    by_work : (work : Work) → s.work ≡ work → Hears s m (elim work as (λ _. Outcome Follower) [
      | restoring r ↦ if ends_restore r m then restore_ended s r else restore_heard s (restore_hears r s.now m)
      | replicating t ↦ task_heard s t m.content (read_sent t m.request)
    ]).next
    by_work (restoring r) is =
        on_if (λ (o : Outcome Follower). Hears s m o.next) (ends_restore r m) (restore_ended s r) (restore_heard s (restore_hears r s.now m))
        (λ ends. inr (inl (record { was = ap is_bootstrapping is; is = refl; copies = refl; history = refl })))
        (λ other. restore_hears_it s m r (restore_hears r s.now m) is other refl)
    by_work (replicating t) is = inl (task_keeps s t m.content (read_sent t m.request) (ap is_bootstrapping is))
