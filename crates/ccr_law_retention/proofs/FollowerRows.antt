-- Each event of a follower's side moves it on, and sends requests alone.
use Rattle.std.specs.Prelude.{◌==◌, filter, if◌then◌else◌, slice_get, min, not, nat_lt}
use Rattle.std.specs.Option.{option_map}
use Rattle.std.specs.List.{AllByRecursion, list_any}
use Rattle.std.proofs.Common.{◌≡◌, ◌⊎◌, inl, inr, ℕ, ◌+◌, ◌≤◌, true, false, List, [], ◌∷◌, ◌++◌, Option, Some, None, refl, ap, sym, ◌∙◌, subst, arith}
use Rattle.ccr_op.specs.Operation.{Operation}
use Rattle.ccr_wire.specs.Message.{Frame}
use Rattle.ccr_wire.specs.declared.content.Content.{Content}
use Rattle.ccr_wire.specs.declared.content.Content.TheVariants as contents
use Rattle.ccr_journal.specs.declared.sides.Phase.TheVariants as phases
use Rattle.ccr_journal.specs.declared.replies.Reply.{Reply}
use Rattle.ccr_journal.specs.declared.replies.Reply.TheVariants as replies
use Rattle.ccr_journal.specs.declared.replies.Heard.TheVariants as heard
use Rattle.ccr_journal.specs.declared.replies.Refusal.{Refusal}
use Rattle.ccr_journal.specs.declared.replies.Refusal.TheVariants.{OldEpoch, NoBatch, NotActive, NotPaused}
use Rattle.ccr_model.specs.Outcomes.{Outcome, refused, answered, within}
use Rattle.ccr_model.specs.Requests.{Sending, quiet}
use Rattle.ccr_model.specs.Copies.{Copies}
use Rattle.ccr_model.specs.CopyRows.{add_copy_row}
use Rattle.ccr_model.specs.Tasks.{Task, Read, Write, is_active, started, stopped, never_started, filled_if_active, after_reply, sent_reads, read_sent, read_lost, write_sent, write_lost, write_ended, ticked, least_from}
use Rattle.ccr_model.specs.Restores.{Restore, Stage, leasing, opening, fetching, Fetch, is_complete, ends_restore, restore_hears, restore_lost, restore_ticked, sent_requests}
use Rattle.ccr_model.specs.Followers.{Follower, Work, restoring, replicating, bootstrapped}
use Rattle.ccr_model.specs.FollowerRows.{with_copies, with_task, does, task_of, ignored, restore_heard, restore_ended, hear_read, task_heard, work_hears, follower_receive_row, task_lost, bootstrap_lost, lose_row, tick_row, follower_clock_row, Sent, sent_write, lose_write_row, take_row, new_in, applied, is_other, apply_row, lacks, write_done, written_row, lease_request, needed_from, renew_row, pause_row, is_paused, task_anew, resume_row, restart_row, unfollow_row, follower_add_copy_row, follower_status_row}
use Rattle.ccr_model.specs.FrameFacts.{reading_in, next_request_of, Reading}
use Rattle.ccr_law_base.proofs.Cases.{on_if, on_guards, task_is}
use Rattle.ccr_law_base.proofs.Lists.{All-weaker}
use Rattle.ccr_law_retention.specs.Retaining.{Bound, free, asked, at_most, bound_of, bound_of_stage, low_of}
use Rattle.ccr_law_retention.specs.Moving.{Follows, Answers, is_plain, IsRequest, GoesOn, ends_work, MovesTo, HearsAs}
use Rattle.ccr_law_retention.proofs.Reading.{ArePlain, TaskGoesOn, TaskDoes, Starts, reply-does, ticked-does, ended-does, lost-on, same-on, stopped-on, stopped-anew-on, started-does}
use Rattle.ccr_law_retention.proofs.Fetching.{RestoreGoes, IfHears, ticked-goes, lost-goes, restore-hears}

pub plain-requests : (lease : List ℕ) (bound : Bound) (sent : List Frame) → ArePlain sent → AllByRecursion (IsRequest lease bound) sent
plain-requests lease bound sent plain = All-weaker (λ (m : Frame). is_plain m.content ≡ true) (IsRequest lease bound) (λ m is. inl is) sent plain

-- ---- works

work-same : (w : Work) → GoesOn w w
work-same w = record { drawn = omega arith; replicates = λ is. is; phase = λ is. is; unsent = λ k below none. none }

no-reading : (t : Task) (k : ℕ) → reading_in (replicating t) k ≡ None → read_sent t k ≡ None
no-reading t k =
    elim (read_sent t k) as (λ (o : Option Read). option_map {T = Read} {U = Reading} (λ read. record { task = t; read = read }) o ≡ None → o ≡ None) [
      | None ↦ λ is. refl
      | Some r ↦ λ is. absurd cc
    ]

work-task : (t next : Task) → TaskGoesOn t next → GoesOn (replicating t) (replicating next)
work-task t next on = record {
  drawn = on.drawn;
  replicates = λ is. refl;
  phase = on.phase;
  unsent = λ k below none. ap (λ (o : Option Read). option_map {T = Read} {U = Reading} (λ read. record { task = next; read = read }) o) (on.unsent k below (no-reading t k none));
}

work-anew : (t next : Task) (count : ℕ) (done : Sending Task) → Starts count t.next_request done → GoesOn (replicating t) (replicating done.next)
work-anew t next count done starts = record {
  drawn = starts.drawn;
  replicates = λ is. refl;
  phase = λ is. starts.phase;
  unsent = λ k below none. ap (λ (o : Option Read). option_map {T = Read} {U = Reading} (λ read. record { task = done.next; read = read }) o) (starts.unsent k below);
}

stage-same : (drawn : ℕ) (stage : Stage) → Follows drawn (bound_of_stage stage) (bound_of_stage stage)
stage-same drawn (leasing a) = tt
stage-same drawn (opening a) = inl refl
stage-same drawn (fetching f) = omega arith

bound-same : (drawn g now : ℕ) (w : Work) → g ≤ now → Follows drawn (bound_of g w) (bound_of now w)
bound-same drawn g now (restoring r) up = stage-same drawn r.stage
bound-same drawn g now (replicating t) up = omega arith

-- ---- moves

-- the follower with the same work
pub quiet-moves : (s : Follower) (now : ℕ) (requests : List ℕ) (epoch : ℕ) (copies : Copies) (reply : Reply)
    → MovesTo s (record { reply = reply; next = record s { now = now; lease_requests = requests; epoch = epoch; copies = copies }; sent = [] })
quiet-moves s now requests epoch copies reply = record {
  lease = refl;
  history = refl;
  work = work-same s.work;
  bound = λ up. bound-same (next_request_of s.work) s.copies.primary.global copies.primary.global s.work up;
  sent = tt;
  renews = inl tt;
}

still : (s : Follower) (reply : Reply) → MovesTo s (answered reply s)
still s reply = quiet-moves s s.now s.lease_requests s.epoch s.copies reply

refusing : (s : Follower) (why : Refusal) → MovesTo s (refused s why)
refusing s why = still s (replies.Refused why)

-- another task, after the one that there was
task-moves : (s : Follower) (t next : Task) (requests : List ℕ) (reply : Reply) (sent : List Frame) → s.work ≡ replicating t → TaskGoesOn t next
    → AllByRecursion (IsRequest s.lease (bound_of s.copies.primary.global (replicating next))) sent
    → MovesTo s (record { reply = reply; next = record s { work = replicating next; lease_requests = requests }; sent = sent })
task-moves s t next requests reply sent is on all = record {
  lease = refl;
  history = refl;
  work = subst (λ (w : Work). GoesOn w (replicating next)) (sym is) (work-task t next on);
  bound = λ up. subst (λ (w : Work). Follows (next_request_of w) (bound_of s.copies.primary.global w) (bound_of s.copies.primary.global (replicating next))) (sym is)
      (let low = on.low in omega arith);
  sent = all;
  renews = inr refl;
}

does-moves : (s : Follower) (t : Task) (done : Sending Task) → s.work ≡ replicating t → TaskDoes t done → MovesTo s (does replies.Done (with_task s) done)
does-moves s t done is it =
    task-moves s t done.next s.lease_requests replies.Done done.sent is it.on (plain-requests s.lease (bound_of s.copies.primary.global (replicating done.next)) done.sent it.plain)

pub anew-moves : (s : Follower) (t : Task) → s.work ≡ replicating t → MovesTo s (task_anew s t)
anew-moves s t is =
    let done : Sending Task = started s.params s.copies.primary.global (s.epoch + 1) t.history t.follower t.next_request in
    let starts : Starts s.copies.primary.global t.next_request done = started-does s.params s.copies.primary.global (s.epoch + 1) t.history t.follower t.next_request in
    record {
      lease = refl;
      history = refl;
      work = subst (λ (w : Work). GoesOn w (replicating done.next)) (sym is) (work-anew t done.next s.copies.primary.global done starts);
      bound = λ up. subst (λ (w : Work). Follows (next_request_of w) (bound_of s.copies.primary.global w) (bound_of s.copies.primary.global (replicating done.next))) (sym is)
          (let low = starts.low in omega arith);
      sent = plain-requests s.lease (bound_of s.copies.primary.global (replicating done.next)) done.sent starts.plain;
      renews = inr refl;
    }

restore-moves : (s : Follower) (r : Restore) (reply : Reply) (done : Sending Restore) → s.work ≡ restoring r → RestoreGoes r.next_request r.stage done
    → MovesTo s (record { reply = reply; next = record s { work = restoring done.next }; sent = done.sent })
restore-moves s r reply done is goes = record {
  lease = refl;
  history = refl;
  work = subst (λ (w : Work). GoesOn w (restoring done.next)) (sym is) (record { drawn = goes.number; replicates = λ own. absurd cc; phase = λ own. tt; unsent = λ k below none. refl });
  bound = λ up. subst (λ (w : Work). Follows (next_request_of w) (bound_of s.copies.primary.global w) (bound_of_stage done.next.stage)) (sym is) goes.bound;
  sent = plain-requests s.lease (bound_of_stage done.next.stage) done.sent goes.plain;
  renews = inl goes.plain;
}

-- ---- losses and retries

pub lose-moves : (s : Follower) (at : ℕ) → MovesTo s (lose_row s at)
unfolding lose_row
lose-moves s at =
    (elim s.work as (λ (w : Work). s.work ≡ w → MovesTo s (elim w as (λ _. Outcome Follower) [
      | restoring r ↦ bootstrap_lost s r at (slice_get (sent_requests r.stage) at)
      | replicating t ↦ task_lost s t at (slice_get (sent_reads t) at)
    ])) [
      | restoring r ↦ λ is. in-bootstrap r (slice_get (sent_requests r.stage) at) is
      | replicating t ↦ λ is. in-task t (slice_get (sent_reads t) at) is
    ]) refl
  where
    in-bootstrap : (r : Restore) (found : Option ℕ) → s.work ≡ restoring r → MovesTo s (bootstrap_lost s r at found)
    in-bootstrap r None is = refusing s _
    in-bootstrap r (Some request) is = restore-moves s r replies.Done (quiet (restore_lost r s.now request)) is (lost-goes s.now request r)

    in-task : (t : Task) (found : Option Read) → s.work ≡ replicating t → MovesTo s (task_lost s t at found)
    in-task t None is = refusing s _
    in-task t (Some r) is = task-moves s t (read_lost t s.now r) s.lease_requests replies.Done [] is (lost-on s.now r t) tt

pub tick-moves : (s : Follower) → MovesTo s (tick_row s)
unfolding tick_row
tick-moves s =
    (elim s.work as (λ (w : Work). s.work ≡ w → MovesTo s (elim w as (λ _. Outcome Follower) [
      | restoring r ↦ does replies.Done (λ next. record s { work = restoring next }) (restore_ticked s.now r)
      | replicating t ↦ does replies.Done (with_task s) (ticked s.now t)
    ])) [
      | restoring r ↦ λ is. restore-moves s r replies.Done (restore_ticked s.now r) is (ticked-goes s.now r)
      | replicating t ↦ λ is. does-moves s t (ticked s.now t) is (ticked-does s.now t)
    ]) refl

pub clock-moves : (s : Follower) (now : ℕ) → MovesTo s (follower_clock_row s now)
unfolding follower_clock_row
clock-moves s now = quiet-moves s now s.lease_requests s.epoch s.copies replies.Done

-- ---- writes

sent-of-task : (t : Task) (w : Sent) (found : Option Write) → option_map {T = Write} {U = Sent} (λ w. record { task = t; write = w }) found ≡ Some w → t ≡ w.task
sent-of-task t w None there = absurd (cc)
sent-of-task t w (Some x) there =
    let whole : Sent = record { task = t; write = x } in
    let same : whole ≡ w = cc in
    ap (λ (own : Sent). own.task) same

sent-task : (s : Follower) (number : ℕ) (w : Sent) → sent_write s.work number ≡ Some w → s.work ≡ replicating w.task
sent-task s number w =
    (elim s.work as (λ (work : Work). s.work ≡ work → sent_write work number ≡ Some w → s.work ≡ replicating w.task) [
      | restoring r ↦ λ is there. absurd (cc)
      | replicating t ↦ λ is there. is ∙ ap replicating (sent-of-task t w (write_sent t number) there)
    ]) refl

pub lose-write-moves : (s : Follower) (number : ℕ) (found : Option Sent) → sent_write s.work number ≡ found → MovesTo s (lose_write_row s number found)
unfolding lose_write_row
lose-write-moves s number None is = refusing s _
lose-write-moves s number (Some w) is =
    task-moves s w.task (write_lost w.task s.now w.write) s.lease_requests replies.Done [] (sent-task s number w is) (same-on w.task (write_lost w.task s.now w.write) refl refl (λ own. own) (omega arith)) tt

pub take-moves : (s : Follower) (number : ℕ) (found : Option Sent) → MovesTo s (take_row s number found)
unfolding take_row
take-moves s number None = refusing s _
take-moves s number (Some w) = still s _

pub apply-moves : (s : Follower) (epoch number : ℕ) (batch : List Operation) (found : Option Sent) → MovesTo s (apply_row s epoch number batch found)
unfolding apply_row
apply-moves s epoch number batch found =
    on_guards (MovesTo s) s ((nat_lt epoch s.epoch, OldEpoch s.epoch) ∷ (is_other batch found, NoBatch number) ∷ [])
    (answered (replies.Applied (new_in s.copies.primary.seen batch)) (with_copies s (applied batch s.copies)))
    (λ why. refusing s why) (λ none. quiet-moves s s.now s.lease_requests s.epoch (applied batch s.copies) _)

pub written-moves : (s : Follower) (number : ℕ) (found : Option Sent) → sent_write s.work number ≡ found → MovesTo s (written_row s number found)
unfolding written_row
written-moves s number None is = refusing s _
written-moves s number (Some w) is = by-lacking (lacks w.write.batch s.copies)
  where
    by-lacking : (lacking : Option ℕ) → MovesTo s (write_done s w lacking)
    by-lacking (Some copy) = refusing s _
    by-lacking None = does-moves s w.task (write_ended w.task w.write) (sent-task s number w is) (ended-does w.write w.task)

-- ---- lease requests, pauses and restarts

-- the least number that is asked for
least-low : (next : ℕ) (reads : List Read) → AllByRecursion (λ (r : Read). r.from ≤ next) reads → least_from next reads ≤ low_of next reads
least-low next reads below = least-both next next reads (omega arith) below
  where
    least-both : (first next : ℕ) (reads : List Read) → first ≤ next → AllByRecursion (λ (r : Read). r.from ≤ next) reads → least_from first reads ≤ low_of next reads
    least-both first next [] up below = up
    least-both first next (r ∷ reads) up below =
        let rest : least_from r.from reads ≤ low_of next reads = least-both r.from next reads below.0 below.1 in omega arith

request-moves : (s : Follower) (t changed : Task) (content : Content) → s.work ≡ replicating t → TaskGoesOn t (record changed { next_request = changed.next_request + 1 })
    → IsRequest s.lease (bound_of s.copies.primary.global (replicating (record changed { next_request = changed.next_request + 1 })))
    (record { follower = changed.follower; request = changed.next_request; content = content })
    → MovesTo s (lease_request s changed content)
request-moves s t changed content is on it =
    task-moves s t (record changed { next_request = changed.next_request + 1 }) (s.lease_requests ++ changed.next_request ∷ []) replies.Done _ is on (it, tt)

pub renew-moves : (s : Follower) (found : Option Task) → task_of s.work ≡ found → ((t : Task) → s.work ≡ replicating t → AllByRecursion (λ (r : Read). r.from ≤ t.next) t.reads)
    → MovesTo s (renew_row s found)
unfolding renew_row
renew-moves s None is below = refusing s _
renew-moves s (Some t) is below =
    on_guards (MovesTo s) s ((not (is_active t.phase), NotActive) ∷ []) (lease_request s t (contents.LeaseRenew s.lease (needed_from s t)))
    (λ why. refusing s why)
    (λ none. request-moves s t t (contents.LeaseRenew s.lease (needed_from s t)) (task_is s t is) (same-on t (record t { next_request = t.next_request + 1 }) refl refl (λ own. own) (omega arith))
    (inr (refl, (let low : least_from t.next t.reads ≤ low_of t.next t.reads = least-low t.next t.reads (below t (task_is s t is)) in omega arith))))

pub pause-moves : (s : Follower) (found : Option Task) → task_of s.work ≡ found → MovesTo s (pause_row s found)
unfolding pause_row
pause-moves s None is = refusing s _
pause-moves s (Some t) is =
    on_if (λ (next : Follower). MovesTo s (answered replies.Done next)) (is_active t.phase) (with_task s (stopped phases.Paused t)) s
    (λ active. task-moves s t (stopped phases.Paused t) s.lease_requests replies.Done [] (task_is s t is) (stopped-on phases.Paused t refl) tt)
    (λ isnt. still s replies.Done)

pub resume-moves : (s : Follower) (found : Option Task) → task_of s.work ≡ found → MovesTo s (resume_row s found)
unfolding resume_row
resume-moves s None is = refusing s _
resume-moves s (Some t) is =
    on_guards (MovesTo s) s ((not (is_paused t.phase), NotPaused) ∷ []) (task_anew s t) (λ why. refusing s why) (λ none. anew-moves s t (task_is s t is))

pub restart-moves : (s : Follower) (found : Option Task) → task_of s.work ≡ found → MovesTo s (restart_row s found)
unfolding restart_row
restart-moves s None is = refusing s _
restart-moves s (Some t) is =
    on_guards (MovesTo s) s ((not (is_active t.phase), NotActive) ∷ []) (task_anew s t) (λ why. refusing s why) (λ none. anew-moves s t (task_is s t is))

pub unfollow-moves : (s : Follower) (found : Option Task) → task_of s.work ≡ found → MovesTo s (unfollow_row s found)
unfolding unfollow_row
unfollow-moves s None is = refusing s _
unfollow-moves s (Some t) is =
    on_guards (MovesTo s) s ((is_active t.phase, NotPaused) ∷ []) (lease_request s (record t { phase = phases.Unfollowed }) (contents.LeaseRemove s.lease))
    (λ why. refusing s why)
    (λ none. request-moves s t (record t { phase = phases.Unfollowed }) (contents.LeaseRemove s.lease) (task_is s t is)
    (same-on t (record t { phase = phases.Unfollowed; next_request = t.next_request + 1 }) refl refl (λ own. refl) (omega arith)) (inl refl))

-- ---- copies

pub copies-moves : (s : Follower) (o : Outcome Copies) → o.sent ≡ [] → MovesTo s (within (with_copies s) o)
copies-moves s o none = record {
  lease = refl;
  history = refl;
  work = work-same s.work;
  bound = λ up. bound-same (next_request_of s.work) s.copies.primary.global o.next.primary.global s.work up;
  sent = subst (λ (sent : List Frame). AllByRecursion (IsRequest s.lease (bound_of o.next.primary.global s.work)) sent) (sym none) tt;
  renews = inl (subst (λ (sent : List Frame). ArePlain sent) (sym none) tt);
}

pub add-copy-moves : (s : Follower) → (add_copy_row s.copies).sent ≡ [] → MovesTo s (follower_add_copy_row s)
unfolding follower_add_copy_row
add-copy-moves s none = on_guards (MovesTo s) s _ (within (with_copies s) (add_copy_row s.copies)) (λ why. refusing s why) (λ tests. copies-moves s (add_copy_row s.copies) none)

pub status-moves : (s : Follower) → MovesTo s (follower_status_row s)
unfolding follower_status_row
status-moves s = still s _

-- ---- messages

hears-moving : (s : Follower) (m : Frame) (o : Outcome Follower) → MovesTo s o → HearsAs s m o
hears-moving s m o moves = record { lease = moves.lease; history = moves.history; work = moves.work; bound = λ goes up. inl (moves.bound up); sent = moves.sent; renews = moves.renews }

-- a bound that allows more
follows-more : (drawn count now : ℕ) (old : Bound) → count ≤ now → Follows drawn old (at_most count) → Follows drawn old (at_most now)
follows-more drawn count now free up it = it
follows-more drawn count now (asked a) up it = it
follows-more drawn count now (at_most b) up it = omega arith

answers-more : (drawn : ℕ) (m : Frame) (count now : ℕ) (old : Bound) → count ≤ now → Answers drawn m old (at_most count) → Answers drawn m old (at_most now)
answers-more drawn m count now free up it = it
answers-more drawn m count now (asked a) up it = let least = it.3 in (it.0, it.1, it.2, omega arith)
answers-more drawn m count now (at_most b) up it = it

restore-heard-moves : (s : Follower) (r : Restore) (m : Frame) (found : Option (Sending Restore)) → s.work ≡ restoring r → IfHears r.next_request m r.stage found
    → HearsAs s m (restore_heard s found)
restore-heard-moves s r m None is hears = hears-moving s m (ignored s) (still s _)
restore-heard-moves s r m (Some done) is hears =
    (elim done.next.stage as (λ (stage : Stage). done.next.stage ≡ stage → HearsAs s m (elim stage as (λ _. Outcome Follower) [
      | leasing a ↦ does (replies.Heard heard.Done) (λ r. record s { work = restoring r }) done
      | opening a ↦ does (replies.Heard heard.Done) (λ r. record s { work = restoring r }) done
      | fetching f ↦
          if is_complete done.next.chunk_size f
          then does (replies.Heard heard.Done) (λ next. next) (bootstrapped s done.next f)
          else does (replies.Heard heard.Done) (λ r. record s { work = restoring r }) done
    ])) [
      | leasing a ↦ λ at. going
      | opening a ↦ λ at. going
      | fetching f ↦ λ at. on_if (HearsAs s m) (is_complete done.next.chunk_size f) _ _ (λ complete. over f at) (λ isnt. going)
    ]) refl
  where
    going : HearsAs s m (does (replies.Heard heard.Done) (λ r. record s { work = restoring r }) done)
    going = record {
      lease = refl;
      history = refl;
      work = subst (λ (w : Work). GoesOn w (restoring done.next)) (sym is) (record { drawn = hears.number; replicates = λ own. absurd cc; phase = λ own. tt; unsent = λ k below none. refl });
      bound = λ goes up. subst (λ (w : Work). Follows (next_request_of w) (bound_of s.copies.primary.global w) (bound_of_stage done.next.stage)
          ⊎ Answers (next_request_of w) m (bound_of s.copies.primary.global w) (bound_of_stage done.next.stage)) (sym is) hears.bound;
      sent = plain-requests s.lease (bound_of_stage done.next.stage) done.sent hears.plain;
      renews = inl hears.plain;
    }

    over : (f : Fetch) → done.next.stage ≡ fetching f → HearsAs s m (does (replies.Heard heard.Done) (λ next. next) (bootstrapped s done.next f))
    over f at =
        let begun : Sending Task = started s.params f.count 1 f.history done.next.follower done.next.next_request in
        let starts : Starts f.count done.next.next_request begun = started-does s.params f.count 1 f.history done.next.follower done.next.next_request in
        let now : ℕ = min f.count (low_of begun.next.next begun.next.reads) in
        let up : f.count ≤ now = (let low = starts.low in omega arith) in
        let old : Bound = bound_of_stage r.stage in
        let hears_bound : Follows r.next_request old (at_most f.count) ⊎ Answers r.next_request m old (at_most f.count) =
        subst (λ (stage : Stage). Follows r.next_request old (bound_of_stage stage) ⊎ Answers r.next_request m old (bound_of_stage stage)) at hears.bound in
        record {
          lease = refl;
          history = refl;
          work = subst (λ (w : Work). GoesOn w (replicating begun.next)) (sym is) (record {
            drawn = let one = starts.drawn in let two = hears.number in omega arith;
            replicates = λ own. refl;
            phase = λ own. starts.phase;
            unsent = λ k below none. ap (λ (o : Option Read). option_map {T = Read} {U = Reading} (λ read. record { task = begun.next; read = read }) o)
                (starts.unsent k (let two = hears.number in omega arith));
          });
          bound = λ goes rises. subst (λ (w : Work). Follows (next_request_of w) (bound_of s.copies.primary.global w) (at_most now) ⊎ Answers (next_request_of w) m (bound_of s.copies.primary.global w) (at_most now)) (sym is)
              (elim hears_bound as (λ _. Follows r.next_request old (at_most now) ⊎ Answers r.next_request m old (at_most now)) [
                | inl follows ↦ inl (follows-more r.next_request f.count now old up follows)
                | inr opens ↦ inr (answers-more r.next_request m f.count now old up opens)
              ]);
          sent = plain-requests s.lease (at_most now) begun.sent starts.plain;
          renews = inr refl;
        }

task-heard-moves : (s : Follower) (t : Task) (request : ℕ) (content : Content) (found : Option Read) → s.work ≡ replicating t → read_sent t request ≡ found → MovesTo s (task_heard s t content found)
task-heard-moves s t request content None is sent = still s _
task-heard-moves s t request content (Some r) is sent = by-content content
  where
    by-content : (content : Content) → MovesTo s (hear_read s t r content)
    by-content (contents.ReadReply from global ops) =
        let done : Sending Task = filled_if_active (after_reply t r global ops) in
        let it : TaskDoes t done = reply-does t r request global ops sent in
        task-moves s t done.next s.lease_requests (replies.Heard heard.Done) done.sent is it.on (plain-requests s.lease (bound_of s.copies.primary.global (replicating done.next)) done.sent it.plain)
    by-content (contents.ReadMissing from floor) =
        task-moves s t (stopped phases.Missing (record t { retry = 0 })) s.lease_requests (replies.Heard heard.StoppedMissing) [] is (stopped-anew-on phases.Missing t refl) tt
    by-content (contents.ReadHistory history) =
        task-moves s t (stopped phases.History (record t { retry = 0 })) s.lease_requests (replies.Heard heard.StoppedHistory) [] is (stopped-anew-on phases.History t refl) tt
    by-content _ = still s _

-- the bootstrap ends
ended-moves : (s : Follower) (r : Restore) (m : Frame) → s.work ≡ restoring r → ends_restore r m ≡ true → HearsAs s m (restore_ended s r)
ended-moves s r m is ends = record {
  lease = refl;
  history = refl;
  work = subst (λ (w : Work). GoesOn w (replicating (never_started s.params r.history r.follower r.next_request phases.History))) (sym is)
      (record { drawn = omega arith; replicates = λ own. refl; phase = λ own. refl; unsent = λ k below none. refl });
  bound = λ goes up. absurd (let goes_on : ends_restore r m ≡ false = subst (λ (w : Work). ends_work w m ≡ false) is goes in cc);
  sent = tt;
  renews = inr refl;
}

pub receive-moves : (s : Follower) (m : Frame) → HearsAs s m (follower_receive_row s m)
unfolding follower_receive_row
receive-moves s m =
    on_if (HearsAs s m) (list_any (λ n. n == m.request) s.lease_requests)
    (answered (replies.Heard heard.Done) (record s { lease_requests = filter (λ n. not (n == m.request)) s.lease_requests })) (work_hears s m)
    (λ own. hears-moving s m _ (quiet-moves s s.now (filter (λ n. not (n == m.request)) s.lease_requests) s.epoch s.copies _))
    (λ other. (elim s.work as (λ (w : Work). s.work ≡ w → HearsAs s m (elim w as (λ _. Outcome Follower) [
      | restoring r ↦ if ends_restore r m then restore_ended s r else restore_heard s (restore_hears r s.now m)
      | replicating t ↦ task_heard s t m.content (read_sent t m.request)
    ])) [
      | restoring r ↦ λ is. on_if (HearsAs s m) (ends_restore r m) (restore_ended s r) (restore_heard s (restore_hears r s.now m))
          (λ ends. ended-moves s r m is ends) (λ goes. restore-heard-moves s r m (restore_hears r s.now m) is (restore-hears r s.now m))
      | replicating t ↦ λ is. hears-moving s m _ (task-heard-moves s t m.request m.content (read_sent t m.request) is refl)
    ]) refl)
