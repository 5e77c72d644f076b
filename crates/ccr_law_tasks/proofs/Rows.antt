-- Each row of a follower keeps what holds of its task.
use Rattle.std.specs.Prelude.{nat_lt, ◌==◌, not, slice_get}
use Rattle.std.specs.Option.{option_map, option_map_or}
use Rattle.std.specs.List.{AllByRecursion, filter, list_any}
use Rattle.std.proofs.Common.{◌≡◌, ◌∙◌, ℕ, ◌+◌, ◌≤◌, ◌<◌, Bool, true, false, if◌then◌else◌, List, [], ◌∷◌, ◌++◌, Option, Some, None, refl, sym, ap, subst, arith}
use Rattle.std.proofs.lemmas.Bool.Decides.{nat_tests}
use Rattle.ccr_op.specs.Operation.{Operation}
use Rattle.ccr_wire.specs.Message.{Frame}
use Rattle.ccr_wire.specs.declared.content.Content.{Content}
use Rattle.ccr_wire.specs.declared.content.Content.TheVariants as contents
use Rattle.ccr_journal.specs.declared.sides.Phase.TheVariants as phases
use Rattle.ccr_journal.specs.declared.replies.Reply.{Reply}
use Rattle.ccr_journal.specs.declared.replies.Reply.TheVariants as replies
use Rattle.ccr_journal.specs.declared.replies.Heard.TheVariants as heard
use Rattle.ccr_journal.specs.declared.replies.Refusal.TheVariants.{NotActive, NotPaused, OldEpoch, NoBatch}
use Rattle.ccr_model.specs.Outcomes.{Outcome, answered, within}
use Rattle.ccr_model.specs.Copies.{Copies}
use Rattle.ccr_model.specs.CopyRows.{add_copy_row}
use Rattle.ccr_model.specs.Requests.{Sending}
use Rattle.ccr_model.specs.Tasks.{Task, Read, Write, is_active, started, stopped, filled_if_active, read_sent, after_reply, sent_reads, read_lost, write_sent, write_lost, write_ended, without_write, ticked}
use Rattle.ccr_model.specs.Restores.{Restore, Stage, Fetch, leasing, opening, fetching, is_complete, files_of, ends_restore, restore_hears, restore_lost, restore_ticked, sent_requests}
use Rattle.ccr_model.specs.Followers.{Follower, Work, restoring, replicating, bootstrapped, restored}
use Rattle.ccr_model.specs.FollowerRows.{Sent, does, with_task, with_copies, task_of, restore_done, restore_heard, restore_ended, hear_read, task_heard, work_hears, follower_receive_row, task_lost, bootstrap_lost, lose_row, tick_row, follower_clock_row, sent_write, lose_write_row, take_row, new_in, applied, is_other, apply_row, lacks, write_done, written_row, lease_request, needed_from, renew_row, pause_row, is_paused, task_anew, resume_row, restart_row, unfollow_row, follower_add_copy_row, follower_status_row}
use Rattle.ccr_model.specs.Past.{Line, WrittenBatch}
use Rattle.ccr_law_base.proofs.Cases.{on_if, on_guards, task_is}
use Rattle.ccr_law_base.proofs.Lists.{All-append, All-weaker}
use Rattle.ccr_law_tasks.specs.GoodTask.{IsGoodTask, IsTrueReply}
use Rattle.ccr_law_tasks.specs.GoodFollowers.{IsGoodWork, IsGoodFollower}
use Rattle.ccr_law_tasks.proofs.WriteLists.{written-none}
use Rattle.ccr_law_tasks.proofs.Calls.{started-good, started-epoch, reply-good, read_lost-good, write_lost-good, ticked-good, write_ended-good, stopped-good, never-good, rested-good, calm-good, drawn-good}
use Rattle.ccr_law_tasks.proofs.SameEpoch.{filled-epoch, ticked-epoch}
use Rattle.ccr_law_base.proofs.Tests.{itself}

-- where its task began its epoch, after an event: a new epoch begins at what the primary then knows
abbrev pub begun_after : ℕ → Follower → Follower → ℕ
begun_after begun_at old new = if new.epoch == old.epoch then begun_at else new.copies.primary.global

-- a row keeps what holds, where no write ends
abbrev pub RowKeeps : (List ℕ → Line) → ℕ → List WrittenBatch → Follower → Outcome Follower → Type 0
RowKeeps lines begun_at written s o = IsGoodFollower lines (begun_after begun_at s o.next) written o.next

-- in the same epoch it began where it did
pub same-begun : (begun_at : ℕ) (old new : Follower) → new.epoch ≡ old.epoch → begun_after begun_at old new ≡ begun_at
same-begun begun_at old new same =
    let is : (new.epoch == old.epoch) ≡ true = subst (λ (n : ℕ). (n == old.epoch) ≡ true) (sym same) (itself old.epoch) in
    ap (λ (b : Bool). if b then begun_at else new.copies.primary.global) is

pub same-epoch : (lines : List ℕ → Line) (begun_at : ℕ) (written : List WrittenBatch) (old new : Follower) → new.epoch ≡ old.epoch
    → IsGoodFollower lines begun_at written new → IsGoodFollower lines (begun_after begun_at old new) written new
same-epoch lines begun_at written old new same good = subst (λ (n : ℕ). IsGoodFollower lines n written new) (sym (same-begun begun_at old new same)) good

-- clock, lease requests and copies don't matter
beside : (lines : List ℕ → Line) (begun_at : ℕ) (written : List WrittenBatch) (s : Follower) (now : ℕ) (requests : List ℕ) (copies : Copies)
    → IsGoodFollower lines begun_at written s → IsGoodFollower lines begun_at written (record s { now = now; lease_requests = requests; copies = copies })
beside lines begun_at written s now requests copies good = record { params = good.params; ended = good.ended; work = good.work }

pub quiet-row : (lines : List ℕ → Line) (begun_at : ℕ) (written : List WrittenBatch) (s : Follower) (now : ℕ) (requests : List ℕ) (copies : Copies)
    → IsGoodFollower lines begun_at written s
    → IsGoodFollower lines (begun_after begun_at s (record s { now = now; lease_requests = requests; copies = copies })) written (record s { now = now; lease_requests = requests; copies = copies })
quiet-row lines begun_at written s now requests copies good =
    same-epoch lines begun_at written s (record s { now = now; lease_requests = requests; copies = copies }) refl (beside lines begun_at written s now requests copies good)

-- a follower that stays as it is
pub still : (lines : List ℕ → Line) (begun_at : ℕ) (written : List WrittenBatch) (s : Follower) → IsGoodFollower lines begun_at written s → IsGoodFollower lines (begun_after begun_at s s) written s
still lines begun_at written s good = same-epoch lines begun_at written s s refl good

pub copies-row : (lines : List ℕ → Line) (begun_at : ℕ) (written : List WrittenBatch) (s : Follower) (o : Outcome Copies)
    → IsGoodFollower lines begun_at written s → RowKeeps lines begun_at written s (within (with_copies s) o)
copies-row lines begun_at written s o good = quiet-row lines begun_at written s s.now s.lease_requests o.next good

-- ---- the task

task-is : (lines : List ℕ → Line) (begun_at : ℕ) (written : List WrittenBatch) (s : Follower) (t : Task) → s.work ≡ replicating t
    → IsGoodFollower lines begun_at written s → IsGoodTask (lines s.history) t begun_at written × (t.epoch ≡ s.epoch)
task-is lines begun_at written s t is good = subst (λ (w : Work). IsGoodWork (lines s.history) begun_at written s.epoch w) is good.work

-- a task that is changed in its epoch
changed-task : (lines : List ℕ → Line) (begun_at : ℕ) (written : List WrittenBatch) (s : Follower) (t new : Task) (requests : List ℕ) → s.work ≡ replicating t
    → IsGoodFollower lines begun_at written s → IsGoodTask (lines s.history) new begun_at written → new.epoch ≡ t.epoch
    → IsGoodFollower lines (begun_after begun_at s (record s { work = replicating new; lease_requests = requests })) written (record s { work = replicating new; lease_requests = requests })
changed-task lines begun_at written s t new requests is good good_new same =
    let now = task-is lines begun_at written s t is good in
    same-epoch lines begun_at written s (record s { work = replicating new; lease_requests = requests }) refl
    (record { params = good.params; ended = good.ended; work = (good_new, same ∙ now.1) })

-- a bootstrap that goes on
restoring-row : (lines : List ℕ → Line) (begun_at : ℕ) (written : List WrittenBatch) (s : Follower) (r next : Restore) → s.work ≡ restoring r
    → IsGoodFollower lines begun_at written s → IsGoodFollower lines (begun_after begun_at s (record s { work = restoring next })) written (record s { work = restoring next })
restoring-row lines begun_at written s r next is good =
    let zero_epoch : (s.epoch ≡ 0) × (begun_at ≡ 0) = subst (λ (w : Work). IsGoodWork (lines s.history) begun_at written s.epoch w) is good.work in
    same-epoch lines begun_at written s (record s { work = restoring next }) refl (record { params = good.params; ended = good.ended; work = zero_epoch })

-- ---- a new epoch

-- a task that starts in the next epoch begins at what the primary knows
anew : (lines : List ℕ → Line) (begun_at : ℕ) (written : List WrittenBatch) (s : Follower) (copies : Copies) (count : ℕ) (history follower : List ℕ) (request : ℕ)
    → copies.primary.global ≡ count → IsGoodFollower lines begun_at written s
    → (new : Follower) → new ≡ record s { work = replicating (started s.params count (s.epoch + 1) history follower request).next; epoch = s.epoch + 1; copies = copies }
    → IsGoodFollower lines (begun_after begun_at s new) written new
anew lines begun_at written s copies count history follower request same good new is =
    let next : Follower = record s { work = replicating (started s.params count (s.epoch + 1) history follower request).next; epoch = s.epoch + 1; copies = copies } in
    let later : (s.epoch + 1 == s.epoch) ≡ false = grind (arith, nat_tests) in
    let begins : begun_after begun_at s next ≡ count = ap (λ (b : Bool). if b then begun_at else copies.primary.global) later ∙ same in
    let below : AllByRecursion (λ (w : WrittenBatch). w.epoch < s.epoch + 1) written = All-weaker (λ (w : WrittenBatch). w.epoch ≤ s.epoch) (λ (w : WrittenBatch). w.epoch < s.epoch + 1) (λ w low. omega arith) written good.ended in
    let task : IsGoodTask (lines s.history) (started s.params count (s.epoch + 1) history follower request).next count written =
    started-good (lines s.history) s.params count (s.epoch + 1) history follower request written good.params (written-none (s.epoch + 1) written below) in
    let whole : IsGoodFollower lines count written next = record {
      params = good.params;
      ended = All-weaker (λ (w : WrittenBatch). w.epoch ≤ s.epoch) (λ (w : WrittenBatch). w.epoch ≤ s.epoch + 1) (λ w low. omega arith) written good.ended;
      work = (task, started-epoch s.params count (s.epoch + 1) history follower request);
    } in
    subst (λ (x : Follower). IsGoodFollower lines (begun_after begun_at s x) written x) (sym is)
    (subst (λ (n : ℕ). IsGoodFollower lines n written next) (sym begins) whole)

pub anew-row : (lines : List ℕ → Line) (begun_at : ℕ) (written : List WrittenBatch) (s : Follower) (t : Task) → IsGoodFollower lines begun_at written s → RowKeeps lines begun_at written s (task_anew s t)
anew-row lines begun_at written s t good =
    anew lines begun_at written s s.copies s.copies.primary.global t.history t.follower t.next_request refl good (task_anew s t).next refl

-- ---- messages

bootstrapped-row : (lines : List ℕ → Line) (begun_at : ℕ) (written : List WrittenBatch) (s : Follower) (r done : Restore) (f : Fetch) → s.work ≡ restoring r
    → IsGoodFollower lines begun_at written s → IsGoodFollower lines (begun_after begun_at s (bootstrapped s done f).next) written (bootstrapped s done f).next
bootstrapped-row lines begun_at written s r done f is good =
    let zero_epoch : s.epoch ≡ 0 = (subst (λ (w : Work). IsGoodWork (lines s.history) begun_at written s.epoch w) is good.work).0 in
    let one : s.epoch + 1 ≡ 1 = omega arith in
    anew lines begun_at written s (restored f.count (files_of done.chunk_size f) s.copies) f.count f.history done.follower done.next_request refl good (bootstrapped s done f).next
    (ap (λ (epoch : ℕ). record s { work = replicating (started s.params f.count epoch f.history done.follower done.next_request).next; epoch = epoch; copies = restored f.count (files_of done.chunk_size f) s.copies }) (sym one))

restore_done-row : (lines : List ℕ → Line) (begun_at : ℕ) (written : List WrittenBatch) (s : Follower) (r : Restore) (done : Sending Restore) → s.work ≡ restoring r
    → IsGoodFollower lines begun_at written s → RowKeeps lines begun_at written s (restore_done s done)
restore_done-row lines begun_at written s r done is good =
    let goes_on : RowKeeps lines begun_at written s (does (replies.Heard heard.Done) (λ r. record s { work = restoring r }) done) = restoring-row lines begun_at written s r done.next is good in
    elim done.next.stage as (λ (stage : Stage). RowKeeps lines begun_at written s (elim stage as (λ _. Outcome Follower) [
      | leasing a ↦ does (replies.Heard heard.Done) (λ r. record s { work = restoring r }) done
      | opening a ↦ does (replies.Heard heard.Done) (λ r. record s { work = restoring r }) done
      | fetching f ↦
          if is_complete done.next.chunk_size f
          then does (replies.Heard heard.Done) (λ next. next) (bootstrapped s done.next f)
          else does (replies.Heard heard.Done) (λ r. record s { work = restoring r }) done
    ])) [
      | leasing a ↦ goes_on
      | opening a ↦ goes_on
      | fetching f ↦ on_if (λ (o : Outcome Follower). RowKeeps lines begun_at written s o) (is_complete done.next.chunk_size f)
          (does (replies.Heard heard.Done) (λ next. next) (bootstrapped s done.next f)) (does (replies.Heard heard.Done) (λ r. record s { work = restoring r }) done)
          (λ ends. bootstrapped-row lines begun_at written s r done.next f is good) (λ endsnt. goes_on)
    ]

restore_heard-row : (lines : List ℕ → Line) (begun_at : ℕ) (written : List WrittenBatch) (s : Follower) (r : Restore) (found : Option (Sending Restore)) → s.work ≡ restoring r
    → IsGoodFollower lines begun_at written s → RowKeeps lines begun_at written s (restore_heard s found)
restore_heard-row lines begun_at written s r None is good = still lines begun_at written s good
restore_heard-row lines begun_at written s r (Some done) is good = restore_done-row lines begun_at written s r done is good

-- a bootstrap that ends without a task
ended-row : (lines : List ℕ → Line) (begun_at : ℕ) (written : List WrittenBatch) (s : Follower) (r : Restore) → s.work ≡ restoring r
    → IsGoodFollower lines begun_at written s → RowKeeps lines begun_at written s (restore_ended s r)
ended-row lines begun_at written s r is good =
    let zero_epoch : (s.epoch ≡ 0) × (begun_at ≡ 0) = subst (λ (w : Work). IsGoodWork (lines s.history) begun_at written s.epoch w) is good.work in
    same-epoch lines begun_at written s (restore_ended s r).next refl (record {
      params = good.params;
      ended = good.ended;
      work = (never-good (lines s.history) s.params r.history r.follower r.next_request phases.History begun_at written refl zero_epoch.1 good.params, sym zero_epoch.0);
    })

-- what the message has to say, if it answers a read of the task
abbrev pub IsTrueAnswer : Line → Task → Read → ℕ → Content → Type 0
IsTrueAnswer line t r request (contents.ReadReply from global ops) = IsTrueReply line t r request from ops
IsTrueAnswer line t r request _ = Unit {0}

hear_read-row : (lines : List ℕ → Line) (begun_at : ℕ) (written : List WrittenBatch) (s : Follower) (t : Task) (r : Read) (request : ℕ) (content : Content) → s.work ≡ replicating t
    → IsTrueAnswer (lines s.history) t r request content → IsGoodFollower lines begun_at written s → RowKeeps lines begun_at written s (hear_read s t r content)
hear_read-row lines begun_at written s t r request (contents.ReadReply from global ops) is answers good =
    changed-task lines begun_at written s t (filled_if_active (after_reply t r global ops)).next s.lease_requests is good
    (reply-good (lines s.history) begun_at written t r request from global ops answers (task-is lines begun_at written s t is good).0) (filled-epoch (after_reply t r global ops))
hear_read-row lines begun_at written s t r request (contents.ReadMissing from floor) is answers good =
    changed-task lines begun_at written s t (stopped phases.Missing (record t { retry = 0 })) s.lease_requests is good
    (stopped-good (lines s.history) begun_at written (record t { retry = 0 }) phases.Missing refl (calm-good (lines s.history) begun_at written t 0 (task-is lines begun_at written s t is good).0)) refl
hear_read-row lines begun_at written s t r request (contents.ReadHistory history) is answers good =
    changed-task lines begun_at written s t (stopped phases.History (record t { retry = 0 })) s.lease_requests is good
    (stopped-good (lines s.history) begun_at written (record t { retry = 0 }) phases.History refl (calm-good (lines s.history) begun_at written t 0 (task-is lines begun_at written s t is good).0)) refl
hear_read-row lines begun_at written s t r request _ is answers good = still lines begun_at written s good

task_heard-row : (lines : List ℕ → Line) (begun_at : ℕ) (written : List WrittenBatch) (s : Follower) (t : Task) (request : ℕ) (content : Content) (found : Option Read) → s.work ≡ replicating t
    → ((r : Read) → found ≡ Some r → IsTrueAnswer (lines s.history) t r request content)
    → IsGoodFollower lines begun_at written s → RowKeeps lines begun_at written s (task_heard s t content found)
task_heard-row lines begun_at written s t request content None is answers good = still lines begun_at written s good
task_heard-row lines begun_at written s t request content (Some r) is answers good = hear_read-row lines begun_at written s t r request content is (answers r refl) good

pub receive-row : (lines : List ℕ → Line) (begun_at : ℕ) (written : List WrittenBatch) (s : Follower) (m : Frame)
    → ((t : Task) (r : Read) → s.work ≡ replicating t → read_sent t m.request ≡ Some r → IsTrueAnswer (lines s.history) t r m.request m.content)
    → IsGoodFollower lines begun_at written s → RowKeeps lines begun_at written s (follower_receive_row s m)
unfolding follower_receive_row
receive-row lines begun_at written s m answers good =
    on_if (λ (o : Outcome Follower). RowKeeps lines begun_at written s o) (list_any (λ n. n == m.request) s.lease_requests)
    (answered (replies.Heard heard.Done) (record s { lease_requests = filter (λ n. not (n == m.request)) s.lease_requests })) (work_hears s m)
    (λ is. quiet-row lines begun_at written s s.now (filter (λ n. not (n == m.request)) s.lease_requests) s.copies good)
    (λ isnt. (elim s.work as (λ (w : Work). s.work ≡ w → RowKeeps lines begun_at written s (elim w as (λ _. Outcome Follower) [
      | restoring r ↦ if ends_restore r m then restore_ended s r else restore_heard s (restore_hears r s.now m)
      | replicating t ↦ task_heard s t m.content (read_sent t m.request)
    ])) [
      | restoring r ↦ λ is. on_if (λ (o : Outcome Follower). RowKeeps lines begun_at written s o) (ends_restore r m) (restore_ended s r) (restore_heard s (restore_hears r s.now m))
          (λ ends. ended-row lines begun_at written s r is good) (λ goes_on. restore_heard-row lines begun_at written s r (restore_hears r s.now m) is good)
      | replicating t ↦ λ is. task_heard-row lines begun_at written s t m.request m.content (read_sent t m.request) is (λ r found. answers t r is found) good
    ]) refl)

-- ---- losses and retries

task_lost-row : (lines : List ℕ → Line) (begun_at : ℕ) (written : List WrittenBatch) (s : Follower) (t : Task) (at : ℕ) (found : Option Read) → s.work ≡ replicating t
    → IsGoodFollower lines begun_at written s → RowKeeps lines begun_at written s (task_lost s t at found)
task_lost-row lines begun_at written s t at None is good = still lines begun_at written s good
task_lost-row lines begun_at written s t at (Some r) is good =
    changed-task lines begun_at written s t (read_lost t s.now r) s.lease_requests is good (read_lost-good (lines s.history) begun_at written t s.now r (task-is lines begun_at written s t is good).0) refl

bootstrap_lost-row : (lines : List ℕ → Line) (begun_at : ℕ) (written : List WrittenBatch) (s : Follower) (r : Restore) (at : ℕ) (found : Option ℕ) → s.work ≡ restoring r
    → IsGoodFollower lines begun_at written s → RowKeeps lines begun_at written s (bootstrap_lost s r at found)
bootstrap_lost-row lines begun_at written s r at None is good = still lines begun_at written s good
bootstrap_lost-row lines begun_at written s r at (Some request) is good = restoring-row lines begun_at written s r (restore_lost r s.now request) is good

pub lose-row : (lines : List ℕ → Line) (begun_at : ℕ) (written : List WrittenBatch) (s : Follower) (at : ℕ) → IsGoodFollower lines begun_at written s → RowKeeps lines begun_at written s (lose_row s at)
unfolding lose_row
lose-row lines begun_at written s at good =
    (elim s.work as (λ (w : Work). s.work ≡ w → RowKeeps lines begun_at written s (elim w as (λ _. Outcome Follower) [
      | restoring r ↦ bootstrap_lost s r at (slice_get (sent_requests r.stage) at)
      | replicating t ↦ task_lost s t at (slice_get (sent_reads t) at)
    ])) [
      | restoring r ↦ λ is. bootstrap_lost-row lines begun_at written s r at (slice_get (sent_requests r.stage) at) is good
      | replicating t ↦ λ is. task_lost-row lines begun_at written s t at (slice_get (sent_reads t) at) is good
    ]) refl

pub tick-row : (lines : List ℕ → Line) (begun_at : ℕ) (written : List WrittenBatch) (s : Follower) → IsGoodFollower lines begun_at written s → RowKeeps lines begun_at written s (tick_row s)
unfolding tick_row
tick-row lines begun_at written s good =
    (elim s.work as (λ (w : Work). s.work ≡ w → RowKeeps lines begun_at written s (elim w as (λ _. Outcome Follower) [
      | restoring r ↦ does replies.Done (λ next. record s { work = restoring next }) (restore_ticked s.now r)
      | replicating t ↦ does replies.Done (with_task s) (ticked s.now t)
    ])) [
      | restoring r ↦ λ is. restoring-row lines begun_at written s r (restore_ticked s.now r).next is good
      | replicating t ↦ λ is. changed-task lines begun_at written s t (ticked s.now t).next s.lease_requests is good
          (ticked-good (lines s.history) begun_at written t s.now (task-is lines begun_at written s t is good).0) (ticked-epoch s.now t)
    ]) refl

pub clock-row : (lines : List ℕ → Line) (begun_at : ℕ) (written : List WrittenBatch) (s : Follower) (now : ℕ) → IsGoodFollower lines begun_at written s → RowKeeps lines begun_at written s (follower_clock_row s now)
unfolding follower_clock_row
clock-row lines begun_at written s now good = quiet-row lines begun_at written s now s.lease_requests s.copies good

-- ---- writes

-- the write is one of the task's, and was sent
record IsSentOf (s : Follower) (number : ℕ) (w : Sent) : Type 0 where
  task : s.work ≡ replicating w.task
  sent : write_sent w.task number ≡ Some w.write

sent-of-task : (t : Task) (number : ℕ) (w : Sent) (found : Option Write) → write_sent t number ≡ found
    → option_map {T = Write} {U = Sent} (λ w. record { task = t; write = w }) found ≡ Some w → (t ≡ w.task) × (write_sent t number ≡ Some w.write)
sent-of-task t number w None is there = absurd (cc)
sent-of-task t number w (Some x) is there =
    let whole : Sent = record { task = t; write = x } in
    let same : whole ≡ w = cc in
    let same_write : x ≡ w.write = ap (λ (own : Sent). own.write) same in
    (ap (λ (own : Sent). own.task) same, subst (λ (y : Write). write_sent t number ≡ Some y) same_write is)

sent-of : (s : Follower) (number : ℕ) (w : Sent) → sent_write s.work number ≡ Some w → IsSentOf s number w
sent-of s number w =
    (elim s.work as (λ (work : Work). s.work ≡ work → sent_write work number ≡ Some w → IsSentOf s number w) [
      | restoring r ↦ λ is there. absurd (cc)
      | replicating t ↦ λ is there.
          let parts = sent-of-task t number w (write_sent t number) refl there in
          let same : t ≡ w.task = parts.0 in
          record { task = is ∙ ap replicating same; sent = subst (λ (u : Task). write_sent u number ≡ Some w.write) same parts.1 }
    ]) refl

pub lose_write-row : (lines : List ℕ → Line) (begun_at : ℕ) (written : List WrittenBatch) (s : Follower) (number : ℕ) (found : Option Sent) → sent_write s.work number ≡ found
    → IsGoodFollower lines begun_at written s → RowKeeps lines begun_at written s (lose_write_row s number found)
unfolding lose_write_row
lose_write-row lines begun_at written s number None is good = still lines begun_at written s good
lose_write-row lines begun_at written s number (Some w) is good =
    let of = sent-of s number w is in
    changed-task lines begun_at written s w.task (write_lost w.task s.now w.write) s.lease_requests of.task good
    (write_lost-good (lines s.history) begun_at written w.task s.now w.write (task-is lines begun_at written s w.task of.task good).0) refl

pub take-row : (lines : List ℕ → Line) (begun_at : ℕ) (written : List WrittenBatch) (s : Follower) (number : ℕ) (found : Option Sent)
    → IsGoodFollower lines begun_at written s → RowKeeps lines begun_at written s (take_row s number found)
unfolding take_row
take-row lines begun_at written s number None good = still lines begun_at written s good
take-row lines begun_at written s number (Some w) good = still lines begun_at written s good

pub apply-row : (lines : List ℕ → Line) (begun_at : ℕ) (written : List WrittenBatch) (s : Follower) (epoch number : ℕ) (batch : List Operation) (found : Option Sent)
    → IsGoodFollower lines begun_at written s → RowKeeps lines begun_at written s (apply_row s epoch number batch found)
unfolding apply_row
apply-row lines begun_at written s epoch number batch found good =
    on_guards (λ (o : Outcome Follower). RowKeeps lines begun_at written s o) s ((nat_lt epoch s.epoch, OldEpoch s.epoch) ∷ (is_other batch found, NoBatch number) ∷ [])
    (answered (replies.Applied (new_in s.copies.primary.seen batch)) (with_copies s (applied batch s.copies)))
    (λ why. still lines begun_at written s good) (λ none. quiet-row lines begun_at written s s.now s.lease_requests (applied batch s.copies) good)

-- the batches of the ended writes, after a write was answered
abbrev pub ended_with : Follower → List WrittenBatch → Option Sent → Reply → List WrittenBatch
ended_with s written found replies.Done = option_map_or (λ sent. written ++ record { epoch = s.epoch; batch = sent.write.batch } ∷ []) found written
ended_with s written found _ = written

abbrev pub EndKeeps : (List ℕ → Line) → ℕ → List WrittenBatch → Follower → Option Sent → Outcome Follower → Type 0
EndKeeps lines begun_at written s found o = IsGoodFollower lines (begun_after begun_at s o.next) (ended_with s written found o.reply) o.next

write_done-row : (lines : List ℕ → Line) (begun_at : ℕ) (written : List WrittenBatch) (s : Follower) (number : ℕ) (w : Sent) (lacking : Option ℕ) → IsSentOf s number w
    → IsGoodFollower lines begun_at written s → EndKeeps lines begun_at written s (Some w) (write_done s w lacking)
write_done-row lines begun_at written s number w (Some copy) of good = still lines begun_at written s good
write_done-row lines begun_at written s number w None of good =
    let now = task-is lines begun_at written s w.task of.task good in
    let own : List WrittenBatch = written ++ record { epoch = s.epoch; batch = w.write.batch } ∷ [] in
    let next : Follower = record s { work = replicating (write_ended w.task w.write).next } in
    let task : IsGoodTask (lines s.history) (write_ended w.task w.write).next begun_at own =
    subst (λ (epoch : ℕ). IsGoodTask (lines s.history) (write_ended w.task w.write).next begun_at (written ++ record { epoch = epoch; batch = w.write.batch } ∷ [])) now.1
    (write_ended-good (lines s.history) begun_at written w.task number w.write of.sent now.0) in
    let epoch : (write_ended w.task w.write).next.epoch ≡ w.task.epoch = filled-epoch (record w.task { retry = 0; writes = without_write w.write.number w.task.writes }) in
    same-epoch lines begun_at own s next refl (record {
      params = good.params;
      ended = All-append (λ (x : WrittenBatch). x.epoch ≤ s.epoch) written (record { epoch = s.epoch; batch = w.write.batch } ∷ []) good.ended (omega arith, tt);
      work = (task, epoch ∙ now.1);
    })

pub written-row : (lines : List ℕ → Line) (begun_at : ℕ) (written : List WrittenBatch) (s : Follower) (number : ℕ) (found : Option Sent) → sent_write s.work number ≡ found
    → IsGoodFollower lines begun_at written s → EndKeeps lines begun_at written s found (written_row s number found)
unfolding written_row
written-row lines begun_at written s number None is good = still lines begun_at written s good
written-row lines begun_at written s number (Some w) is good = write_done-row lines begun_at written s number w (lacks w.write.batch s.copies) (sent-of s number w is) good

-- ---- lease requests, pauses and restarts

request-row : (lines : List ℕ → Line) (begun_at : ℕ) (written : List WrittenBatch) (s : Follower) (t changed : Task) (content : Content) → s.work ≡ replicating t
    → IsGoodFollower lines begun_at written s → IsGoodTask (lines s.history) changed begun_at written → changed.epoch ≡ t.epoch → RowKeeps lines begun_at written s (lease_request s changed content)
request-row lines begun_at written s t changed content is good good_task same =
    changed-task lines begun_at written s t (record changed { next_request = changed.next_request + 1 }) (s.lease_requests ++ changed.next_request ∷ []) is good
    (drawn-good (lines s.history) begun_at written changed good_task) same

pub renew-row : (lines : List ℕ → Line) (begun_at : ℕ) (written : List WrittenBatch) (s : Follower) (found : Option Task) → task_of s.work ≡ found
    → IsGoodFollower lines begun_at written s → RowKeeps lines begun_at written s (renew_row s found)
unfolding renew_row
renew-row lines begun_at written s None is good = still lines begun_at written s good
renew-row lines begun_at written s (Some t) is good =
    on_guards (λ (o : Outcome Follower). RowKeeps lines begun_at written s o) s ((not (is_active t.phase), NotActive) ∷ []) (lease_request s t (contents.LeaseRenew s.lease (needed_from s t)))
    (λ why. still lines begun_at written s good)
    (λ none. request-row lines begun_at written s t t (contents.LeaseRenew s.lease (needed_from s t)) (task_is s t is) good (task-is lines begun_at written s t (task_is s t is) good).0 refl)

pub pause-row : (lines : List ℕ → Line) (begun_at : ℕ) (written : List WrittenBatch) (s : Follower) (found : Option Task) → task_of s.work ≡ found
    → IsGoodFollower lines begun_at written s → RowKeeps lines begun_at written s (pause_row s found)
unfolding pause_row
pause-row lines begun_at written s None is good = still lines begun_at written s good
pause-row lines begun_at written s (Some t) is good =
    on_if (λ (next : Follower). IsGoodFollower lines (begun_after begun_at s next) written next) (is_active t.phase) (with_task s (stopped phases.Paused t)) s
    (λ active. changed-task lines begun_at written s t (stopped phases.Paused t) s.lease_requests (task_is s t is) good
    (stopped-good (lines s.history) begun_at written t phases.Paused refl (task-is lines begun_at written s t (task_is s t is) good).0) refl)
    (λ isnt. still lines begun_at written s good)

pub resume-row : (lines : List ℕ → Line) (begun_at : ℕ) (written : List WrittenBatch) (s : Follower) (found : Option Task)
    → IsGoodFollower lines begun_at written s → RowKeeps lines begun_at written s (resume_row s found)
unfolding resume_row
resume-row lines begun_at written s None good = still lines begun_at written s good
resume-row lines begun_at written s (Some t) good =
    on_guards (λ (o : Outcome Follower). RowKeeps lines begun_at written s o) s ((not (is_paused t.phase), NotPaused) ∷ []) (task_anew s t)
    (λ why. still lines begun_at written s good) (λ none. anew-row lines begun_at written s t good)

pub restart-row : (lines : List ℕ → Line) (begun_at : ℕ) (written : List WrittenBatch) (s : Follower) (found : Option Task)
    → IsGoodFollower lines begun_at written s → RowKeeps lines begun_at written s (restart_row s found)
unfolding restart_row
restart-row lines begun_at written s None good = still lines begun_at written s good
restart-row lines begun_at written s (Some t) good =
    on_guards (λ (o : Outcome Follower). RowKeeps lines begun_at written s o) s ((not (is_active t.phase), NotActive) ∷ []) (task_anew s t)
    (λ why. still lines begun_at written s good) (λ none. anew-row lines begun_at written s t good)

pub unfollow-row : (lines : List ℕ → Line) (begun_at : ℕ) (written : List WrittenBatch) (s : Follower) (found : Option Task) → task_of s.work ≡ found
    → IsGoodFollower lines begun_at written s → RowKeeps lines begun_at written s (unfollow_row s found)
unfolding unfollow_row
unfollow-row lines begun_at written s None is good = still lines begun_at written s good
unfollow-row lines begun_at written s (Some t) is good =
    on_guards (λ (o : Outcome Follower). RowKeeps lines begun_at written s o) s ((is_active t.phase, NotPaused) ∷ []) (lease_request s (record t { phase = phases.Unfollowed }) (contents.LeaseRemove s.lease))
    (λ why. still lines begun_at written s good)
    (λ none. request-row lines begun_at written s t (record t { phase = phases.Unfollowed }) (contents.LeaseRemove s.lease) (task_is s t is) good
    (rested-good (lines s.history) begun_at written t phases.Unfollowed refl (task-is lines begun_at written s t (task_is s t is) good).0) refl)

-- ---- copies

pub add_copy-row : (lines : List ℕ → Line) (begun_at : ℕ) (written : List WrittenBatch) (s : Follower) → IsGoodFollower lines begun_at written s → RowKeeps lines begun_at written s (follower_add_copy_row s)
unfolding follower_add_copy_row
add_copy-row lines begun_at written s good =
    on_guards (λ (o : Outcome Follower). RowKeeps lines begun_at written s o) s _ (within (with_copies s) (add_copy_row s.copies))
    (λ why. still lines begun_at written s good) (λ none. copies-row lines begun_at written s (add_copy_row s.copies) good)

pub status-row : (lines : List ℕ → Line) (begun_at : ℕ) (written : List WrittenBatch) (s : Follower) → IsGoodFollower lines begun_at written s → RowKeeps lines begun_at written s (follower_status_row s)
unfolding follower_status_row
status-row lines begun_at written s good = still lines begun_at written s good
