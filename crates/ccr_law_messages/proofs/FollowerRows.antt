-- Each event of a follower leaves its work good, and sends true messages alone.
use Rattle.std.specs.Prelude.{filter, ◌==◌, not, slice_get}
use Rattle.std.specs.Option.{option_map}
use Rattle.std.specs.List.{AllByRecursion, list_any}
use Rattle.std.proofs.Common.{◌≡◌, ℕ, ◌+◌, ◌≤◌, nat_lt, Option, Some, None, List, [], ◌∷◌, refl, sym, subst, arith, inr}
use Rattle.ccr_op.specs.Operation.{Operation}
use Rattle.ccr_wire.specs.Message.{Frame}
use Rattle.ccr_wire.specs.declared.content.Content.{Content}
use Rattle.ccr_wire.specs.declared.content.Content.TheVariants as contents
use Rattle.ccr_journal.specs.declared.params.ParamValues.{ParamValues}
use Rattle.ccr_journal.specs.declared.sides.Phase.{Phase}
use Rattle.ccr_journal.specs.declared.sides.Phase.TheVariants as phases
use Rattle.ccr_journal.specs.declared.replies.Reply.TheVariants as replies
use Rattle.ccr_journal.specs.declared.replies.Heard.TheVariants as heard
use Rattle.ccr_journal.specs.declared.replies.Refusal.TheVariants.{OldEpoch, NoBatch, NotActive, NotPaused, Bootstrapping}
use Rattle.ccr_model.specs.Outcomes.{Outcome, answered, within}
use Rattle.ccr_model.specs.Copies.{Copies}
use Rattle.ccr_model.specs.CopyRows.{add_copy_row}
use Rattle.ccr_model.specs.Requests.{Sending}
use Rattle.ccr_model.specs.Tasks.{Task, Read, Write, is_active, stopped, read_sent, sent_reads, write_sent}
use Rattle.ccr_model.specs.Restores.{Restore, Stage, leasing, opening, fetching, is_complete, ends_restore, restore_hears, sent_requests}
use Rattle.ccr_model.specs.Followers.{Follower, Work, restoring, replicating, new_follower, bootstrapped}
use Rattle.ccr_model.specs.FollowerRows.{Sent, sent_write, task_of, does, with_task, with_copies, restore_done, restore_heard, restore_ended, hear_read, task_heard, work_hears, follower_receive_row, task_lost, bootstrap_lost, lose_row, tick_row, follower_clock_row, lose_write_row, take_row, new_in, applied, is_other, apply_row, lacks, write_done, written_row, lease_request, needed_from, renew_row, pause_row, is_paused, task_anew, resume_row, restart_row, unfollow_row, is_bootstrapping, follower_add_copy_row, follower_status_row}
use Rattle.ccr_law_messages.specs.Saying.{IsTrueMessage}
use Rattle.ccr_law_messages.specs.TrueFrames.{Scene, own_of, setting, IsGoodFollower}
use Rattle.ccr_law_messages.proofs.Moving.{Goes, goes-then, goes-still}
use Rattle.ccr_law_messages.proofs.TaskSends.{started-goes, stopped-goes, reply-goes, lost-goes, write_lost-goes, write_ended-goes, ticked-goes, drawn-goes, still-goes}
use Rattle.ccr_law_messages.proofs.RestoreSends.{restore_lost-goes, restore_ticked-goes, GoesHeard, hears-goes}
use Rattle.ccr_law_messages.proofs.Quiet.{IsSilent, add_copy-silent}
use Rattle.ccr_law_base.proofs.Cases.{on_if, on_guards}

-- the follower goes on so, and sends these
pub record GoesOn (scene : Scene) (f : ℕ) (s next : Follower) (sent : List Frame) : Type 0 where
  pub same_lease : own_of next ≡ own_of s
  pub some : 1 ≤ next.params.max_read_request_operation_count
  pub goes : Goes (setting scene f (own_of s)) s.work next.work sent

abbrev pub RowGoes : Scene → ℕ → Follower → Outcome Follower → Type 0
RowGoes scene f s o = GoesOn scene f s o.next o.sent

pub row-still : (scene : Scene) (f : ℕ) (s : Follower) → IsGoodFollower scene f s → GoesOn scene f s s []
row-still scene f s good = record { same_lease = refl; some = good.some; goes = goes-still (setting scene f (own_of s)) s.work good.work }

-- only the copies change
pub copies-go : (scene : Scene) (f : ℕ) (s : Follower) (o : Outcome Copies) → IsSilent o → IsGoodFollower scene f s → RowGoes scene f s (within (with_copies s) o)
copies-go scene f s o silent good = record {
  same_lease = refl;
  some = good.some;
  goes = subst (λ (sent : List Frame). Goes (setting scene f (own_of s)) s.work s.work sent) (sym silent) (goes-still (setting scene f (own_of s)) s.work good.work);
}

abbrev working : Follower → Work → Follower
working s work = record s { work = work }

-- ---- messages

hear_read-goes : (scene : Scene) (f : ℕ) (s : Follower) (t : Task) (r : Read) (content : Content) → IsGoodFollower scene f (working s (replicating t))
    → RowGoes scene f (working s (replicating t)) (hear_read (working s (replicating t)) t r content)
hear_read-goes scene f s t r (contents.ReadReply from global ops) good =
    record { same_lease = refl; some = good.some; goes = reply-goes (setting scene f (own_of s)) t r global ops good.work }
hear_read-goes scene f s t r (contents.ReadMissing from floor) good =
    let one : Goes (setting scene f (own_of s)) (replicating t) (replicating (stopped phases.Missing t)) [] = stopped-goes (setting scene f (own_of s)) phases.Missing t good.work in
    record {
      same_lease = refl;
      some = good.some;
      goes = goes-then (setting scene f (own_of s)) (replicating t) (replicating (stopped phases.Missing t)) (replicating (stopped phases.Missing (record t { retry = 0 }))) [] [] one
          (still-goes (setting scene f (own_of s)) (stopped phases.Missing t) (stopped phases.Missing (record t { retry = 0 })) refl refl refl refl refl one.good);
    }
hear_read-goes scene f s t r (contents.ReadHistory history) good =
    let one : Goes (setting scene f (own_of s)) (replicating t) (replicating (stopped phases.History t)) [] = stopped-goes (setting scene f (own_of s)) phases.History t good.work in
    record {
      same_lease = refl;
      some = good.some;
      goes = goes-then (setting scene f (own_of s)) (replicating t) (replicating (stopped phases.History t)) (replicating (stopped phases.History (record t { retry = 0 }))) [] [] one
          (still-goes (setting scene f (own_of s)) (stopped phases.History t) (stopped phases.History (record t { retry = 0 })) refl refl refl refl refl one.good);
    }
hear_read-goes scene f s t r _ good = row-still scene f (working s (replicating t)) good

task_heard-goes : (scene : Scene) (f : ℕ) (s : Follower) (t : Task) (content : Content) (found : Option Read) → IsGoodFollower scene f (working s (replicating t))
    → RowGoes scene f (working s (replicating t)) (task_heard (working s (replicating t)) t content found)
task_heard-goes scene f s t content None good = row-still scene f (working s (replicating t)) good
task_heard-goes scene f s t content (Some r) good = hear_read-goes scene f s t r content good

-- the bootstrap after a message, by its stage
done-goes : (scene : Scene) (f : ℕ) (s : Follower) (r next : Restore) (stage : Stage) (sent : List Frame) → IsGoodFollower scene f (working s (restoring r))
    → Goes (setting scene f (own_of s)) (restoring r) (restoring (record next { stage = stage })) sent
    → RowGoes scene f (working s (restoring r)) (restore_done (working s (restoring r)) (record { next = record next { stage = stage }; sent = sent }))
done-goes scene f s r next (leasing a) sent good goes = record { same_lease = refl; some = good.some; goes = goes }
done-goes scene f s r next (opening a) sent good goes = record { same_lease = refl; some = good.some; goes = goes }
done-goes scene f s r next (fetching fetch) sent good goes =
    let done : Restore = record next { stage = fetching fetch } in
    on_if (RowGoes scene f (working s (restoring r))) (is_complete done.chunk_size fetch)
    (does (replies.Heard heard.Done) (λ next. next) (bootstrapped (working s (restoring r)) done fetch))
    (does (replies.Heard heard.Done) (λ later. working s (restoring later)) (record { next = done; sent = sent }))
    (λ ends. record {
      same_lease = refl;
      some = good.some;
      goes = started-goes (setting scene f (own_of s)) (restoring r) s.params fetch.count 1 fetch.history done.follower done.next_request
          goes.follows.next good.some goes.good.stage.own goes.good.named;
    })
    (λ endsnt. record { same_lease = refl; some = good.some; goes = goes })

restore_heard-goes : (scene : Scene) (f : ℕ) (s : Follower) (r : Restore) (found : Option (Sending Restore)) → IsGoodFollower scene f (working s (restoring r))
    → GoesHeard (setting scene f (own_of s)) r found → RowGoes scene f (working s (restoring r)) (restore_heard (working s (restoring r)) found)
restore_heard-goes scene f s r None good goes = row-still scene f (working s (restoring r)) good
restore_heard-goes scene f s r (Some done) good goes = done-goes scene f s r done.next done.next.stage done.sent good goes

-- the bootstrap ends without a task
ended-goes : (scene : Scene) (f : ℕ) (s : Follower) (r : Restore) → IsGoodFollower scene f (working s (restoring r)) → RowGoes scene f (working s (restoring r)) (restore_ended (working s (restoring r)) r)
ended-goes scene f s r good = record {
  same_lease = refl;
  some = good.some;
  goes = record {
    follows = record { next = omega arith; asks = λ n low. inr refl; parts = λ n low. inr refl };
    good = record { named = good.work.named; same_history = good.work.same_history; some = good.some; reads = record { drawn = tt; some = tt; apart = tt } };
    messages = tt;
  };
}

hears-at : (scene : Scene) (f : ℕ) (s : Follower) (m : Frame) (work : Work) → IsTrueMessage (setting scene f (own_of s)) work m → IsGoodFollower scene f (working s work)
    → RowGoes scene f (working s work) (work_hears (working s work) m)
hears-at scene f s m (restoring r) truth good =
    on_if (RowGoes scene f (working s (restoring r))) (ends_restore r m) (restore_ended (working s (restoring r)) r) (restore_heard (working s (restoring r)) (restore_hears r s.now m))
    (λ ends. ended-goes scene f s r good)
    (λ goes_on. restore_heard-goes scene f s r (restore_hears r s.now m) good (hears-goes (setting scene f (own_of s)) r s.now m goes_on truth good.work))
hears-at scene f s m (replicating t) truth good = task_heard-goes scene f s t m.content (read_sent t m.request) good

pub receive-goes : (scene : Scene) (f : ℕ) (s : Follower) (m : Frame) → IsTrueMessage (setting scene f (own_of s)) s.work m → IsGoodFollower scene f s → RowGoes scene f s (follower_receive_row s m)
unfolding follower_receive_row
receive-goes scene f s m truth good =
    on_if (RowGoes scene f s) (list_any (λ n. n == m.request) s.lease_requests)
    (answered (replies.Heard heard.Done) (record s { lease_requests = filter (λ n. not (n == m.request)) s.lease_requests })) (work_hears s m)
    (λ is. record { same_lease = refl; some = good.some; goes = goes-still (setting scene f (own_of s)) s.work good.work })
    (λ isnt. hears-at scene f s m s.work truth good)

-- ---- losses and retries

task_lost-goes : (scene : Scene) (f : ℕ) (s : Follower) (t : Task) (at : ℕ) (found : Option Read) → IsGoodFollower scene f (working s (replicating t))
    → RowGoes scene f (working s (replicating t)) (task_lost (working s (replicating t)) t at found)
task_lost-goes scene f s t at None good = row-still scene f (working s (replicating t)) good
task_lost-goes scene f s t at (Some r) good = record { same_lease = refl; some = good.some; goes = lost-goes (setting scene f (own_of s)) t s.now r good.work }

bootstrap_lost-goes : (scene : Scene) (f : ℕ) (s : Follower) (r : Restore) (at : ℕ) (found : Option ℕ) → IsGoodFollower scene f (working s (restoring r))
    → RowGoes scene f (working s (restoring r)) (bootstrap_lost (working s (restoring r)) r at found)
bootstrap_lost-goes scene f s r at None good = row-still scene f (working s (restoring r)) good
bootstrap_lost-goes scene f s r at (Some request) good = record { same_lease = refl; some = good.some; goes = restore_lost-goes (setting scene f (own_of s)) r s.now request good.work }

lose-at : (scene : Scene) (f : ℕ) (s : Follower) (at : ℕ) (work : Work) → IsGoodFollower scene f (working s work) → RowGoes scene f (working s work) (lose_row (working s work) at)
unfolding lose_row
lose-at scene f s at (restoring r) good = bootstrap_lost-goes scene f s r at (slice_get (sent_requests r.stage) at) good
lose-at scene f s at (replicating t) good = task_lost-goes scene f s t at (slice_get (sent_reads t) at) good

pub lose-goes : (scene : Scene) (f : ℕ) (s : Follower) (at : ℕ) → IsGoodFollower scene f s → RowGoes scene f s (lose_row s at)
lose-goes scene f s at good = lose-at scene f s at s.work good

tick-at : (scene : Scene) (f : ℕ) (s : Follower) (work : Work) → IsGoodFollower scene f (working s work) → RowGoes scene f (working s work) (tick_row (working s work))
unfolding tick_row
tick-at scene f s (restoring r) good = record { same_lease = refl; some = good.some; goes = restore_ticked-goes (setting scene f (own_of s)) r s.now good.work }
tick-at scene f s (replicating t) good = record { same_lease = refl; some = good.some; goes = ticked-goes (setting scene f (own_of s)) s.now t good.work }

pub tick-goes : (scene : Scene) (f : ℕ) (s : Follower) → IsGoodFollower scene f s → RowGoes scene f s (tick_row s)
tick-goes scene f s good = tick-at scene f s s.work good

pub clock-goes : (scene : Scene) (f : ℕ) (s : Follower) (now : ℕ) → IsGoodFollower scene f s → RowGoes scene f s (follower_clock_row s now)
unfolding follower_clock_row
clock-goes scene f s now good = record { same_lease = refl; some = good.some; goes = goes-still (setting scene f (own_of s)) s.work good.work }

-- ---- writes

lose_write-at : (scene : Scene) (f : ℕ) (s : Follower) (number : ℕ) (t : Task) (found : Option Write) → IsGoodFollower scene f (working s (replicating t))
    → RowGoes scene f (working s (replicating t)) (lose_write_row (working s (replicating t)) number (option_map {T = Write} {U = Sent} (λ w. record { task = t; write = w }) found))
unfolding lose_write_row
lose_write-at scene f s number t None good = row-still scene f (working s (replicating t)) good
lose_write-at scene f s number t (Some w) good = record { same_lease = refl; some = good.some; goes = write_lost-goes (setting scene f (own_of s)) t s.now w good.work }

lose_write-by : (scene : Scene) (f : ℕ) (s : Follower) (number : ℕ) (work : Work) → IsGoodFollower scene f (working s work) → RowGoes scene f (working s work) (lose_write_row (working s work) number (sent_write work number))
unfolding lose_write_row
lose_write-by scene f s number (restoring r) good = row-still scene f (working s (restoring r)) good
lose_write-by scene f s number (replicating t) good = lose_write-at scene f s number t (write_sent t number) good

pub lose_write-goes : (scene : Scene) (f : ℕ) (s : Follower) (number : ℕ) → IsGoodFollower scene f s → RowGoes scene f s (lose_write_row s number (sent_write s.work number))
lose_write-goes scene f s number good = lose_write-by scene f s number s.work good

pub take-goes : (scene : Scene) (f : ℕ) (s : Follower) (number : ℕ) (found : Option Sent) → IsGoodFollower scene f s → RowGoes scene f s (take_row s number found)
unfolding take_row
take-goes scene f s number None good = row-still scene f s good
take-goes scene f s number (Some w) good = row-still scene f s good

pub apply-goes : (scene : Scene) (f : ℕ) (s : Follower) (epoch number : ℕ) (batch : List Operation) (found : Option Sent) → IsGoodFollower scene f s → RowGoes scene f s (apply_row s epoch number batch found)
unfolding apply_row
apply-goes scene f s epoch number batch found good =
    on_guards (RowGoes scene f s) s ((nat_lt epoch s.epoch, OldEpoch s.epoch) ∷ (is_other batch found, NoBatch number) ∷ [])
    (answered (replies.Applied (new_in s.copies.primary.seen batch)) (with_copies s (applied batch s.copies))) (λ why. row-still scene f s good)
    (λ none. record { same_lease = refl; some = good.some; goes = goes-still (setting scene f (own_of s)) s.work good.work })

write_done-goes : (scene : Scene) (f : ℕ) (s : Follower) (t : Task) (w : Write) (lacking : Option ℕ) → IsGoodFollower scene f (working s (replicating t))
    → RowGoes scene f (working s (replicating t)) (write_done (working s (replicating t)) (record { task = t; write = w }) lacking)
write_done-goes scene f s t w (Some copy) good = row-still scene f (working s (replicating t)) good
write_done-goes scene f s t w None good = record { same_lease = refl; some = good.some; goes = write_ended-goes (setting scene f (own_of s)) t w good.work }

written-at : (scene : Scene) (f : ℕ) (s : Follower) (number : ℕ) (t : Task) (found : Option Write) → IsGoodFollower scene f (working s (replicating t))
    → RowGoes scene f (working s (replicating t)) (written_row (working s (replicating t)) number (option_map {T = Write} {U = Sent} (λ w. record { task = t; write = w }) found))
unfolding written_row
written-at scene f s number t None good = row-still scene f (working s (replicating t)) good
written-at scene f s number t (Some w) good = write_done-goes scene f s t w (lacks w.batch s.copies) good

written-by : (scene : Scene) (f : ℕ) (s : Follower) (number : ℕ) (work : Work) → IsGoodFollower scene f (working s work) → RowGoes scene f (working s work) (written_row (working s work) number (sent_write work number))
unfolding written_row
written-by scene f s number (restoring r) good = row-still scene f (working s (restoring r)) good
written-by scene f s number (replicating t) good = written-at scene f s number t (write_sent t number) good

pub written-goes : (scene : Scene) (f : ℕ) (s : Follower) (number : ℕ) → IsGoodFollower scene f s → RowGoes scene f s (written_row s number (sent_write s.work number))
written-goes scene f s number good = written-by scene f s number s.work good

-- ---- lease requests, pauses and restarts

request-goes : (scene : Scene) (f : ℕ) (s : Follower) (t : Task) (phase : Phase) (content : Content) → IsGoodFollower scene f (working s (replicating t))
    → ((w : Work) → IsTrueMessage (setting scene f (own_of s)) (replicating (record t { phase = phase; next_request = t.next_request + 1 })) (record { follower = t.follower; request = t.next_request; content = content }))
    → RowGoes scene f (working s (replicating t)) (lease_request (working s (replicating t)) (record t { phase = phase }) content)
request-goes scene f s t phase content good truth =
    let drawn : Goes (setting scene f (own_of s)) (replicating t) (replicating (record t { phase = phase; next_request = t.next_request + 1 })) [] = drawn-goes (setting scene f (own_of s)) t phase good.work in
    record { same_lease = refl; some = good.some; goes = record { follows = drawn.follows; good = drawn.good; messages = (truth s.work, tt) } }

renew-at : (scene : Scene) (f : ℕ) (s : Follower) (work : Work) → IsGoodFollower scene f (working s work) → RowGoes scene f (working s work) (renew_row (working s work) (task_of work))
unfolding renew_row
renew-at scene f s (restoring r) good = row-still scene f (working s (restoring r)) good
renew-at scene f s (replicating t) good =
    on_guards (RowGoes scene f (working s (replicating t))) (working s (replicating t)) ((not (is_active t.phase), NotActive) ∷ [])
    (lease_request (working s (replicating t)) t (contents.LeaseRenew s.lease (needed_from s t))) (λ why. row-still scene f (working s (replicating t)) good)
    (λ none. request-goes scene f s t t.phase (contents.LeaseRenew s.lease (needed_from s t)) good (λ w. record { named = good.work.named; drawn = omega arith; said = refl }))

pub renew-goes : (scene : Scene) (f : ℕ) (s : Follower) → IsGoodFollower scene f s → RowGoes scene f s (renew_row s (task_of s.work))
renew-goes scene f s good = renew-at scene f s s.work good

unfollow-at : (scene : Scene) (f : ℕ) (s : Follower) (work : Work) → IsGoodFollower scene f (working s work) → RowGoes scene f (working s work) (unfollow_row (working s work) (task_of work))
unfolding unfollow_row
unfollow-at scene f s (restoring r) good = row-still scene f (working s (restoring r)) good
unfollow-at scene f s (replicating t) good =
    on_guards (RowGoes scene f (working s (replicating t))) (working s (replicating t)) ((is_active t.phase, NotPaused) ∷ [])
    (lease_request (working s (replicating t)) (record t { phase = phases.Unfollowed }) (contents.LeaseRemove s.lease)) (λ why. row-still scene f (working s (replicating t)) good)
    (λ none. request-goes scene f s t phases.Unfollowed (contents.LeaseRemove s.lease) good (λ w. record { named = good.work.named; drawn = omega arith; said = refl }))

pub unfollow-goes : (scene : Scene) (f : ℕ) (s : Follower) → IsGoodFollower scene f s → RowGoes scene f s (unfollow_row s (task_of s.work))
unfollow-goes scene f s good = unfollow-at scene f s s.work good

pause-at : (scene : Scene) (f : ℕ) (s : Follower) (work : Work) → IsGoodFollower scene f (working s work) → RowGoes scene f (working s work) (pause_row (working s work) (task_of work))
unfolding pause_row
pause-at scene f s (restoring r) good = row-still scene f (working s (restoring r)) good
pause-at scene f s (replicating t) good =
    on_if (λ (next : Follower). GoesOn scene f (working s (replicating t)) next []) (is_active t.phase) (with_task (working s (replicating t)) (stopped phases.Paused t)) (working s (replicating t))
    (λ is. record { same_lease = refl; some = good.some; goes = stopped-goes (setting scene f (own_of s)) phases.Paused t good.work })
    (λ isnt. row-still scene f (working s (replicating t)) good)

pub pause-goes : (scene : Scene) (f : ℕ) (s : Follower) → IsGoodFollower scene f s → RowGoes scene f s (pause_row s (task_of s.work))
pause-goes scene f s good = pause-at scene f s s.work good

anew-goes : (scene : Scene) (f : ℕ) (s : Follower) (t : Task) → IsGoodFollower scene f (working s (replicating t)) → RowGoes scene f (working s (replicating t)) (task_anew (working s (replicating t)) t)
anew-goes scene f s t good = record {
  same_lease = refl;
  some = good.some;
  goes = started-goes (setting scene f (own_of s)) (replicating t) s.params s.copies.primary.global (s.epoch + 1) t.history t.follower t.next_request (omega arith) good.some good.work.same_history good.work.named;
}

resume-at : (scene : Scene) (f : ℕ) (s : Follower) (work : Work) → IsGoodFollower scene f (working s work) → RowGoes scene f (working s work) (resume_row (working s work) (task_of work))
unfolding resume_row
resume-at scene f s (restoring r) good = row-still scene f (working s (restoring r)) good
resume-at scene f s (replicating t) good =
    on_guards (RowGoes scene f (working s (replicating t))) (working s (replicating t)) ((not (is_paused t.phase), NotPaused) ∷ []) (task_anew (working s (replicating t)) t)
    (λ why. row-still scene f (working s (replicating t)) good) (λ none. anew-goes scene f s t good)

pub resume-goes : (scene : Scene) (f : ℕ) (s : Follower) → IsGoodFollower scene f s → RowGoes scene f s (resume_row s (task_of s.work))
resume-goes scene f s good = resume-at scene f s s.work good

restart-at : (scene : Scene) (f : ℕ) (s : Follower) (work : Work) → IsGoodFollower scene f (working s work) → RowGoes scene f (working s work) (restart_row (working s work) (task_of work))
unfolding restart_row
restart-at scene f s (restoring r) good = row-still scene f (working s (restoring r)) good
restart-at scene f s (replicating t) good =
    on_guards (RowGoes scene f (working s (replicating t))) (working s (replicating t)) ((not (is_active t.phase), NotActive) ∷ []) (task_anew (working s (replicating t)) t)
    (λ why. row-still scene f (working s (replicating t)) good) (λ none. anew-goes scene f s t good)

pub restart-goes : (scene : Scene) (f : ℕ) (s : Follower) → IsGoodFollower scene f s → RowGoes scene f s (restart_row s (task_of s.work))
restart-goes scene f s good = restart-at scene f s s.work good

-- ---- copies and status

pub add_copy-goes : (scene : Scene) (f : ℕ) (s : Follower) → IsGoodFollower scene f s → RowGoes scene f s (follower_add_copy_row s)
unfolding follower_add_copy_row
add_copy-goes scene f s good =
    on_guards (RowGoes scene f s) s ((is_bootstrapping s.work, Bootstrapping) ∷ []) (within (with_copies s) (add_copy_row s.copies)) (λ why. row-still scene f s good)
    (λ none. copies-go scene f s (add_copy_row s.copies) (add_copy-silent s.copies) good)

pub status-goes : (scene : Scene) (f : ℕ) (s : Follower) → IsGoodFollower scene f s → RowGoes scene f s (follower_status_row s)
unfolding follower_status_row
status-goes scene f s good = row-still scene f s good

-- ---- a new follower

pub record StartsWell (scene : Scene) (f : ℕ) (made : Sending Follower) : Type 0 where
  pub good : IsGoodFollower scene f made.next
  pub messages : AllByRecursion (IsTrueMessage (setting scene f (own_of made.next)) made.next.work) made.sent

pub new-goes : (scene : Scene) (f : ℕ) (params : ParamValues) (copies : ℕ) (lease history : List ℕ) (retention : ℕ) → 1 ≤ params.max_read_request_operation_count
    → StartsWell scene f (new_follower f params copies lease history retention)
new-goes scene f params copies lease history retention some = record {
  good = record { some = some; work = record { named = refl; same_lease = refl; same_history = refl; stage = tt } };
  messages = (record { named = refl; drawn = omega arith; said = refl }, tt);
}
