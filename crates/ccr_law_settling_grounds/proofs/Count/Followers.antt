-- Each event of a follower leaves its task within what is committed, and sends no reply to a read.
use Rattle.std.specs.Prelude.{◌==◌, slice_get}
use Rattle.std.specs.List.{AllByRecursion, list_any}
use Rattle.std.specs.Option.{option_map}
use Rattle.std.proofs.Common.{◌≡◌, ℕ, ◌+◌, ◌≤◌, ◌<◌, if◌then◌else◌, false, List, Option, Some, None, refl, subst, arith}
use Rattle.ccr_op.specs.Operation.{Operation}
use Rattle.ccr_wire.specs.Message.{Frame}
use Rattle.ccr_wire.specs.declared.content.Content.{Content}
use Rattle.ccr_wire.specs.declared.content.Content.TheVariants as contents
use Rattle.ccr_journal.specs.declared.sides.Phase.TheVariants as phases
use Rattle.ccr_journal.specs.declared.replies.Reply.TheVariants as replies
use Rattle.ccr_journal.specs.declared.replies.Heard.TheVariants as heard
use Rattle.ccr_model.specs.Outcomes.{Outcome}
use Rattle.ccr_model.specs.Requests.{Sending}
use Rattle.ccr_model.specs.Tasks.{Task, Read, Write, is_active, stopped, ticked, read_sent, sent_reads, write_sent}
use Rattle.ccr_model.specs.Restores.{Restore, Stage, Fetch, leasing, opening, fetching, is_complete, ends_restore, restore_hears, restore_ticked, sent_requests}
use Rattle.ccr_model.specs.Followers.{Follower, Work, restoring, replicating, bootstrapped}
use Rattle.ccr_model.specs.FollowerRows.{Sent, with_task, does, restore_done, restore_heard, restore_ended, hear_read, task_heard, follower_receive_row, task_lost, bootstrap_lost, lose_row, tick_row, follower_clock_row, sent_write, lose_write_row, take_row, apply_row, lacks, write_done, written_row, task_of, renew_row, pause_row, task_anew, resume_row, restart_row, unfollow_row, follower_add_copy_row, follower_status_row}
use Rattle.ccr_law_base.proofs.Cases.{on_if, on_guards}
use Rattle.ccr_law_base.proofs.Lists.{some_equal}
use Rattle.ccr_law_settling_grounds.specs.KnownCounts.{IsTaskWithin, IsWorkWithin}
use Rattle.ccr_law_settling_grounds.proofs.Count.Within.{IsSilent, AreSilent}
use Rattle.ccr_law_settling_grounds.proofs.Count.Answering.{add_copy_sends}
use Rattle.ccr_law_settling_grounds.proofs.Count.Tasks.{GoesWithin, started_within, stopped_within, reply_within, read_lost_within, write_lost_within, write_ended_within, ticked_within}
use Rattle.ccr_law_settling_grounds.proofs.Count.Bootstraps.{AsksSilently, HearsSilently, restore_ticked_silent, restore_hears_silent}

-- the work stays within the count, and no reply to a read is sent
pub record RowWithin (cut : ℕ) (o : Outcome Follower) : Type 0 where
  pub work : IsWorkWithin cut o.next.work
  pub sends : AreSilent o.sent

task_in : (cut : ℕ) (work : Work) (t : Task) → task_of work ≡ Some t → IsWorkWithin cut work → IsTaskWithin cut t
task_in cut (restoring r) t at is = cc
task_in cut (replicating own) t at is = subst (IsTaskWithin cut) (some_equal own t at) is

-- the task that has a write
writing_in : (cut : ℕ) (work : Work) (number : ℕ) (w : Sent) → sent_write work number ≡ Some w → IsWorkWithin cut work → IsTaskWithin cut w.task
writing_in cut (restoring r) number w at is = cc
writing_in cut (replicating t) number w at is = found (write_sent t number) at
  where
    found : (o : Option Write) → option_map {T = Write} {U = Sent} (λ x. record { task = t; write = x }) o ≡ Some w → IsTaskWithin cut w.task
    found None none = cc
    found (Some x) some = subst (λ (s : Sent). IsTaskWithin cut s.task) (some_equal (record { task = t; write = x }) w some) is

-- ---- losses and retries

pub lose_within : (cut : ℕ) (s : Follower) (at : ℕ) → IsWorkWithin cut s.work → RowWithin cut (lose_row s at)
unfolding lose_row
lose_within cut s at is = by_work s.work refl
  where
    request_lost : (r : Restore) (found : Option ℕ) → RowWithin cut (bootstrap_lost s r at found)
    request_lost r None = record { work = is; sends = tt }
    request_lost r (Some request) = record { work = tt; sends = tt }

    read_lost_at : (t : Task) (found : Option Read) → IsTaskWithin cut t → RowWithin cut (task_lost s t at found)
    read_lost_at t None own = record { work = is; sends = tt }
    read_lost_at t (Some r) own = record { work = read_lost_within cut t s.now r own; sends = tt }

    by_work : (work : Work) → s.work ≡ work → RowWithin cut (elim work as (λ _. Outcome Follower) [
      | restoring r ↦ bootstrap_lost s r at (slice_get (sent_requests r.stage) at)
      | replicating t ↦ task_lost s t at (slice_get (sent_reads t) at)
    ])
    by_work (restoring r) at_work = request_lost r (slice_get (sent_requests r.stage) at)
    by_work (replicating t) at_work = read_lost_at t (slice_get (sent_reads t) at) (subst (IsWorkWithin cut) at_work is)

pub tick_within : (cut : ℕ) (s : Follower) → IsWorkWithin cut s.work → RowWithin cut (tick_row s)
unfolding tick_row
tick_within cut s is = by_work s.work refl
  where
    by_work : (work : Work) → s.work ≡ work → RowWithin cut (elim work as (λ _. Outcome Follower) [
      | restoring r ↦ does replies.Done (λ next. record s { work = restoring next }) (restore_ticked s.now r)
      | replicating t ↦ does replies.Done (with_task s) (ticked s.now t)
    ])
    by_work (restoring r) at_work = record { work = tt; sends = restore_ticked_silent s.now r }
    by_work (replicating t) at_work =
        let goes : GoesWithin cut (ticked s.now t) = ticked_within cut s.now t (subst (IsWorkWithin cut) at_work is) in
        record { work = goes.task; sends = goes.sends }

pub clock_within : (cut : ℕ) (s : Follower) (now : ℕ) → IsWorkWithin cut s.work → RowWithin cut (follower_clock_row s now)
unfolding follower_clock_row
clock_within cut s now is = record { work = is; sends = tt }

-- ---- writes

pub lose_write_within : (cut : ℕ) (s : Follower) (number : ℕ) (found : Option Sent) → sent_write s.work number ≡ found → IsWorkWithin cut s.work
    → RowWithin cut (lose_write_row s number found)
unfolding lose_write_row
lose_write_within cut s number None at is = record { work = is; sends = tt }
lose_write_within cut s number (Some w) at is = record { work = write_lost_within cut w.task s.now w.write (writing_in cut s.work number w at is); sends = tt }

pub take_within : (cut : ℕ) (s : Follower) (number : ℕ) (found : Option Sent) → IsWorkWithin cut s.work → RowWithin cut (take_row s number found)
unfolding take_row
take_within cut s number None is = record { work = is; sends = tt }
take_within cut s number (Some w) is = record { work = is; sends = tt }

pub apply_within : (cut : ℕ) (s : Follower) (epoch number : ℕ) (batch : List Operation) (found : Option Sent) → IsWorkWithin cut s.work
    → RowWithin cut (apply_row s epoch number batch found)
unfolding apply_row
apply_within cut s epoch number batch found is = on_guards (RowWithin cut) s _ _ (λ why. record { work = is; sends = tt }) (λ tests. record { work = is; sends = tt })

pub written_within : (cut : ℕ) (s : Follower) (number : ℕ) (found : Option Sent) → sent_write s.work number ≡ found → IsWorkWithin cut s.work
    → RowWithin cut (written_row s number found)
unfolding written_row
written_within cut s number None at is = record { work = is; sends = tt }
written_within cut s number (Some w) at is = by_lacking (lacks w.write.batch s.copies)
  where
    by_lacking : (o : Option ℕ) → RowWithin cut (write_done s w o)
    by_lacking (Some copy) = record { work = is; sends = tt }
    by_lacking None =
        let goes = write_ended_within cut w.task w.write (writing_in cut s.work number w at is) in
        record { work = goes.task; sends = goes.sends }

-- ---- lease requests, pauses and restarts

pub renew_within : (cut : ℕ) (s : Follower) (found : Option Task) → task_of s.work ≡ found → IsWorkWithin cut s.work → RowWithin cut (renew_row s found)
unfolding renew_row
renew_within cut s None at is = record { work = is; sends = tt }
renew_within cut s (Some t) at is =
    let own : IsTaskWithin cut t = task_in cut s.work t at is in
    on_guards (RowWithin cut) s _ _ (λ why. record { work = is; sends = tt }) (λ tests. record { work = record { known = own.known; next = own.next }; sends = (tt, tt) })

pub pause_within : (cut : ℕ) (s : Follower) (found : Option Task) → task_of s.work ≡ found → IsWorkWithin cut s.work → RowWithin cut (pause_row s found)
unfolding pause_row
pause_within cut s None at is = record { work = is; sends = tt }
pause_within cut s (Some t) at is = record {
  work = on_if (λ (x : Follower). IsWorkWithin cut x.work) (is_active t.phase) (with_task s (stopped phases.Paused t)) s
      (λ active. stopped_within cut phases.Paused t (task_in cut s.work t at is)) (λ not_active. is);
  sends = tt;
}

anew_within : (cut : ℕ) (s : Follower) (t : Task) → s.copies.primary.global ≤ cut → RowWithin cut (task_anew s t)
anew_within cut s t low =
    let goes = started_within cut s.params s.copies.primary.global (s.epoch + 1) t.history t.follower t.next_request low in
    record { work = goes.task; sends = goes.sends }

pub resume_within : (cut : ℕ) (s : Follower) (found : Option Task) → s.copies.primary.global ≤ cut → IsWorkWithin cut s.work → RowWithin cut (resume_row s found)
unfolding resume_row
resume_within cut s None low is = record { work = is; sends = tt }
resume_within cut s (Some t) low is = on_guards (RowWithin cut) s _ _ (λ why. record { work = is; sends = tt }) (λ tests. anew_within cut s t low)

pub restart_within : (cut : ℕ) (s : Follower) (found : Option Task) → s.copies.primary.global ≤ cut → IsWorkWithin cut s.work → RowWithin cut (restart_row s found)
unfolding restart_row
restart_within cut s None low is = record { work = is; sends = tt }
restart_within cut s (Some t) low is = on_guards (RowWithin cut) s _ _ (λ why. record { work = is; sends = tt }) (λ tests. anew_within cut s t low)

pub unfollow_within : (cut : ℕ) (s : Follower) (found : Option Task) → task_of s.work ≡ found → IsWorkWithin cut s.work → RowWithin cut (unfollow_row s found)
unfolding unfollow_row
unfollow_within cut s None at is = record { work = is; sends = tt }
unfollow_within cut s (Some t) at is =
    let own : IsTaskWithin cut t = task_in cut s.work t at is in
    on_guards (RowWithin cut) s _ _ (λ why. record { work = is; sends = tt }) (λ tests. record { work = record { known = own.known; next = own.next }; sends = (tt, tt) })

pub follower_add_copy_within : (cut : ℕ) (s : Follower) → IsWorkWithin cut s.work → RowWithin cut (follower_add_copy_row s)
unfolding follower_add_copy_row
follower_add_copy_within cut s is = on_guards (RowWithin cut) s _ _ (λ why. record { work = is; sends = tt }) (λ tests. record { work = is; sends = add_copy_sends IsSilent s.copies })

pub status_within : (cut : ℕ) (s : Follower) → IsWorkWithin cut s.work → RowWithin cut (follower_status_row s)
unfolding follower_status_row
status_within cut s is = record { work = is; sends = tt }

-- ---- messages

-- a reply tells of no more than the count, and brings operations below it
pub record TellsWithin (cut global : ℕ) (ops : List Operation) : Type 0 where
  pub known : global ≤ cut
  pub below : AllByRecursion (λ (op : Operation). op.seq < cut) ops

abbrev pub ContentWithin : ℕ → Content → Type 0
ContentWithin cut (contents.ReadReply from global ops) = TellsWithin cut global ops
ContentWithin cut _ = Unit {0}

-- where the message brings the last part of the files, the session's count is no more
abbrev pub EndsWithin : ℕ → Follower → Frame → Type 0
EndsWithin cut s m =
    (r : Restore) (done : Sending Restore) (f : Fetch) → s.work ≡ restoring r → restore_hears r s.now m ≡ Some done → done.next.stage ≡ fetching f → ends_restore r m ≡ false
    → f.count ≤ cut

-- what a message says to a follower is within the count
pub record SaysWithin (cut : ℕ) (s : Follower) (m : Frame) : Type 0 where
  pub content : ContentWithin cut m.content
  pub ends : EndsWithin cut s m

restore_done_within : (cut : ℕ) (s : Follower) (done : Sending Restore) → ((f : Fetch) → done.next.stage ≡ fetching f → f.count ≤ cut) → AsksSilently done
    → RowWithin cut (restore_done s done)
restore_done_within cut s done ends sends = by_stage done.next.stage refl
  where
    by_stage : (stage : Stage) → done.next.stage ≡ stage → RowWithin cut (elim stage as (λ _. Outcome Follower) [
      | leasing a ↦ does (replies.Heard heard.Done) (λ x. record s { work = restoring x }) done
      | opening a ↦ does (replies.Heard heard.Done) (λ x. record s { work = restoring x }) done
      | fetching f ↦
          if is_complete done.next.chunk_size f
          then does (replies.Heard heard.Done) (λ next. next) (bootstrapped s done.next f)
          else does (replies.Heard heard.Done) (λ x. record s { work = restoring x }) done
    ])
    by_stage (leasing a) at = record { work = tt; sends = sends }
    by_stage (opening a) at = record { work = tt; sends = sends }
    by_stage (fetching f) at =
        let goes = started_within cut s.params f.count 1 f.history done.next.follower done.next.next_request (ends f at) in
        on_if (RowWithin cut) (is_complete done.next.chunk_size f) (does (replies.Heard heard.Done) (λ next. next) (bootstrapped s done.next f))
        (does (replies.Heard heard.Done) (λ x. record s { work = restoring x }) done)
        (λ whole. record { work = goes.task; sends = goes.sends }) (λ not_whole. record { work = tt; sends = sends })

restore_heard_within : (cut : ℕ) (s : Follower) (found : Option (Sending Restore)) → IsWorkWithin cut s.work
    → ((done : Sending Restore) (f : Fetch) → found ≡ Some done → done.next.stage ≡ fetching f → f.count ≤ cut) → HearsSilently found → RowWithin cut (restore_heard s found)
restore_heard_within cut s None is ends sends = record { work = is; sends = tt }
restore_heard_within cut s (Some done) is ends sends = restore_done_within cut s done (λ f at. ends done f refl at) sends

read_heard_within : (cut : ℕ) (s : Follower) (t : Task) (r : Read) (content : Content) → IsWorkWithin cut s.work → IsTaskWithin cut t → ContentWithin cut content
    → RowWithin cut (hear_read s t r content)
read_heard_within cut s t r (contents.ReadReply from global ops) is own says =
    let goes = reply_within cut t r global ops says.known says.below own in
    record { work = goes.task; sends = goes.sends }
read_heard_within cut s t r (contents.ReadMissing from floor) is own says = record { work = record { known = own.known; next = own.next }; sends = tt }
read_heard_within cut s t r (contents.ReadHistory history) is own says = record { work = record { known = own.known; next = own.next }; sends = tt }
read_heard_within cut s t r _ is own says = record { work = is; sends = tt }

task_heard_within : (cut : ℕ) (s : Follower) (t : Task) (content : Content) (found : Option Read) → IsWorkWithin cut s.work → IsTaskWithin cut t → ContentWithin cut content
    → RowWithin cut (task_heard s t content found)
task_heard_within cut s t content None is own says = record { work = is; sends = tt }
task_heard_within cut s t content (Some r) is own says = read_heard_within cut s t r content is own says

pub receive_within : (cut : ℕ) (s : Follower) (m : Frame) → SaysWithin cut s m → IsWorkWithin cut s.work → RowWithin cut (follower_receive_row s m)
unfolding follower_receive_row
receive_within cut s m says is =
    on_if (RowWithin cut) (list_any (λ n. n == m.request) s.lease_requests) _ _ (λ own. record { work = is; sends = tt }) (λ other. by_work s.work refl)
  where
    by_work : (work : Work) → s.work ≡ work → RowWithin cut (elim work as (λ _. Outcome Follower) [
      | restoring r ↦ if ends_restore r m then restore_ended s r else restore_heard s (restore_hears r s.now m)
      | replicating t ↦ task_heard s t m.content (read_sent t m.request)
    ])
    by_work (restoring r) at =
        on_if (RowWithin cut) (ends_restore r m) (restore_ended s r) (restore_heard s (restore_hears r s.now m))
        (λ ends. record { work = record { known = omega arith; next = omega arith }; sends = tt })
        (λ goes. restore_heard_within cut s (restore_hears r s.now m) is (λ done f hears stage. says.ends r done f at hears stage goes) (restore_hears_silent r s.now m))
    by_work (replicating t) at = task_heard_within cut s t m.content (read_sent t m.request) is (subst (IsWorkWithin cut) at is) says.content
