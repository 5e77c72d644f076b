-- Each event of a follower moves its work on: what is sent fits it, and what was sent fits it still.
use Rattle.std.specs.Prelude.{filter, ◌==◌, not, slice_get}
use Rattle.std.specs.Option.{option_map}
use Rattle.std.specs.List.{AllByRecursion, list_any}
use Rattle.std.proofs.Common.{◌≡◌, ℕ, ◌+◌, nat_lt, Option, Some, None, List, [], ◌∷◌, ◌<◌, inr, refl, sym, subst, arith}
use Rattle.ccr_op.specs.Operation.{Operation}
use Rattle.ccr_wire.specs.Message.{Frame}
use Rattle.ccr_wire.specs.declared.content.Content.{Content}
use Rattle.ccr_wire.specs.declared.content.Content.TheVariants as contents
use Rattle.ccr_journal.specs.declared.sides.Phase.TheVariants as phases
use Rattle.ccr_journal.specs.declared.replies.Reply.TheVariants as replies
use Rattle.ccr_journal.specs.declared.replies.Heard.TheVariants as heard
use Rattle.ccr_journal.specs.declared.replies.Refusal.TheVariants.{OldEpoch, NoBatch, NotActive, NotPaused, Bootstrapping}
use Rattle.ccr_model.specs.Outcomes.{Outcome, answered, within}
use Rattle.ccr_model.specs.Copies.{Copies}
use Rattle.ccr_model.specs.CopyRows.{add_copy_row}
use Rattle.ccr_model.specs.Requests.{Sending}
use Rattle.ccr_model.specs.Tasks.{Task, Read, Write, is_active, stopped, read_sent, sent_reads, write_sent, write_lost}
use Rattle.ccr_model.specs.Restores.{Restore, Stage, leasing, opening, fetching, is_complete, ends_restore, restore_hears, sent_requests}
use Rattle.ccr_model.specs.Followers.{Follower, Work, restoring, replicating, bootstrapped}
use Rattle.ccr_model.specs.FollowerRows.{Sent, sent_write, task_of, does, with_task, with_copies, restore_done, restore_heard, restore_ended, hear_read, task_heard, work_hears, follower_receive_row, task_lost, bootstrap_lost, lose_row, tick_row, follower_clock_row, lose_write_row, take_row, new_in, applied, is_other, apply_row, lacks, write_done, written_row, lease_request, needed_from, renew_row, pause_row, is_paused, task_anew, resume_row, restart_row, unfollow_row, is_bootstrapping, follower_add_copy_row, follower_status_row}
use Rattle.ccr_law_messages.proofs.Quiet.{IsSilent, add_copy-silent}
use Rattle.ccr_law_settling_grounds.proofs.Purpose.Fitting.{Moves, name_in, moves_not}
use Rattle.ccr_law_settling_grounds.proofs.Purpose.Tasks.{silent_moves, started_moves, reply_moves, lost_moves, write_ended_moves, ticked_moves, upkeep_moves}
use Rattle.ccr_law_settling_grounds.proofs.Purpose.Restores.{restore_lost_moves, restore_ticked_moves, MovesHeard, restore_hears_moves}
use Rattle.ccr_law_base.proofs.Cases.{on_if, on_guards}

abbrev pub RowMoves : List ℕ → Follower → Outcome Follower → Type 0
RowMoves uuid s o = Moves uuid s.work o.next.work o.sent

abbrev working : Follower → Work → Follower
working s work = record s { work = work }

-- only the copies change
pub copies_move : (uuid : List ℕ) (s : Follower) (o : Outcome Copies) → IsSilent o → name_in s.work ≡ uuid → RowMoves uuid s (within (with_copies s) o)
copies_move uuid s o silent named = subst (λ (sent : List Frame). Moves uuid s.work s.work sent) (sym silent) (moves_not uuid s.work named)

-- ---- messages

hear_read_moves : (uuid : List ℕ) (s : Follower) (t : Task) (r : Read) (content : Content) → t.follower ≡ uuid → RowMoves uuid (working s (replicating t)) (hear_read (working s (replicating t)) t r content)
hear_read_moves uuid s t r (contents.ReadReply from global ops) named = reply_moves uuid t r global ops named
hear_read_moves uuid s t r (contents.ReadMissing from floor) named = silent_moves uuid t (stopped phases.Missing (record t { retry = 0 })) named refl (λ n none. tt)
hear_read_moves uuid s t r (contents.ReadHistory history) named = silent_moves uuid t (stopped phases.History (record t { retry = 0 })) named refl (λ n none. tt)
hear_read_moves uuid s t r _ named = moves_not uuid (replicating t) named

task_heard_moves : (uuid : List ℕ) (s : Follower) (t : Task) (content : Content) (found : Option Read) → t.follower ≡ uuid
    → RowMoves uuid (working s (replicating t)) (task_heard (working s (replicating t)) t content found)
task_heard_moves uuid s t content None named = moves_not uuid (replicating t) named
task_heard_moves uuid s t content (Some r) named = hear_read_moves uuid s t r content named

-- the bootstrap after a message, by its stage
done_moves : (uuid : List ℕ) (s : Follower) (r next : Restore) (stage : Stage) (sent : List Frame) → Moves uuid (restoring r) (restoring (record next { stage = stage })) sent
    → RowMoves uuid (working s (restoring r)) (restore_done (working s (restoring r)) (record { next = record next { stage = stage }; sent = sent }))
done_moves uuid s r next (leasing a) sent moves = moves
done_moves uuid s r next (opening a) sent moves = moves
done_moves uuid s r next (fetching fetch) sent moves =
    let done : Restore = record next { stage = fetching fetch } in
    on_if (RowMoves uuid (working s (restoring r))) (is_complete done.chunk_size fetch)
    (does (replies.Heard heard.Done) (λ next. next) (bootstrapped (working s (restoring r)) done fetch))
    (does (replies.Heard heard.Done) (λ later. working s (restoring later)) (record { next = done; sent = sent }))
    (λ ends. started_moves uuid (restoring r) s.params fetch.count 1 fetch.history done.follower done.next_request moves.next moves.named)
    (λ endsnt. moves)

restore_heard_moves : (uuid : List ℕ) (s : Follower) (r : Restore) (found : Option (Sending Restore)) → r.follower ≡ uuid → MovesHeard uuid r found
    → RowMoves uuid (working s (restoring r)) (restore_heard (working s (restoring r)) found)
restore_heard_moves uuid s r None named moves = moves_not uuid (restoring r) named
restore_heard_moves uuid s r (Some done) named moves = done_moves uuid s r done.next done.next.stage done.sent moves

-- a bootstrap that ends without a task waits for nothing
ended_moves : (uuid : List ℕ) (s : Follower) (r : Restore) → r.follower ≡ uuid → RowMoves uuid (working s (restoring r)) (restore_ended (working s (restoring r)) r)
ended_moves uuid s r named = record { next = omega arith; waits = λ n low. inr refl; named = named; messages = tt }

hears_at : (uuid : List ℕ) (s : Follower) (m : Frame) (work : Work) → name_in work ≡ uuid → RowMoves uuid (working s work) (work_hears (working s work) m)
hears_at uuid s m (restoring r) named =
    on_if (RowMoves uuid (working s (restoring r))) (ends_restore r m) (restore_ended (working s (restoring r)) r) (restore_heard (working s (restoring r)) (restore_hears r s.now m))
    (λ ends. ended_moves uuid s r named) (λ goes. restore_heard_moves uuid s r (restore_hears r s.now m) named (restore_hears_moves uuid r s.now m named))
hears_at uuid s m (replicating t) named = task_heard_moves uuid s t m.content (read_sent t m.request) named

pub receive_moves : (uuid : List ℕ) (s : Follower) (m : Frame) → name_in s.work ≡ uuid → RowMoves uuid s (follower_receive_row s m)
unfolding follower_receive_row
receive_moves uuid s m named =
    on_if (RowMoves uuid s) (list_any (λ n. n == m.request) s.lease_requests)
    (answered (replies.Heard heard.Done) (record s { lease_requests = filter (λ n. not (n == m.request)) s.lease_requests })) (work_hears s m)
    (λ is. moves_not uuid s.work named) (λ isnt. hears_at uuid s m s.work named)

-- ---- losses and retries

task_lost_moves : (uuid : List ℕ) (s : Follower) (t : Task) (at : ℕ) (found : Option Read) → t.follower ≡ uuid → RowMoves uuid (working s (replicating t)) (task_lost (working s (replicating t)) t at found)
task_lost_moves uuid s t at None named = moves_not uuid (replicating t) named
task_lost_moves uuid s t at (Some r) named = lost_moves uuid t s.now r named

bootstrap_lost_moves : (uuid : List ℕ) (s : Follower) (r : Restore) (at : ℕ) (found : Option ℕ) → r.follower ≡ uuid
    → RowMoves uuid (working s (restoring r)) (bootstrap_lost (working s (restoring r)) r at found)
bootstrap_lost_moves uuid s r at None named = moves_not uuid (restoring r) named
bootstrap_lost_moves uuid s r at (Some request) named = restore_lost_moves uuid r s.now request named

lose_at : (uuid : List ℕ) (s : Follower) (at : ℕ) (work : Work) → name_in work ≡ uuid → RowMoves uuid (working s work) (lose_row (working s work) at)
unfolding lose_row
lose_at uuid s at (restoring r) named = bootstrap_lost_moves uuid s r at (slice_get (sent_requests r.stage) at) named
lose_at uuid s at (replicating t) named = task_lost_moves uuid s t at (slice_get (sent_reads t) at) named

pub lose_moves : (uuid : List ℕ) (s : Follower) (at : ℕ) → name_in s.work ≡ uuid → RowMoves uuid s (lose_row s at)
lose_moves uuid s at named = lose_at uuid s at s.work named

tick_at : (uuid : List ℕ) (s : Follower) (work : Work) → name_in work ≡ uuid → RowMoves uuid (working s work) (tick_row (working s work))
unfolding tick_row
tick_at uuid s (restoring r) named = restore_ticked_moves uuid r s.now named
tick_at uuid s (replicating t) named = ticked_moves uuid s.now t named

pub tick_moves : (uuid : List ℕ) (s : Follower) → name_in s.work ≡ uuid → RowMoves uuid s (tick_row s)
tick_moves uuid s named = tick_at uuid s s.work named

pub clock_moves : (uuid : List ℕ) (s : Follower) (now : ℕ) → name_in s.work ≡ uuid → RowMoves uuid s (follower_clock_row s now)
unfolding follower_clock_row
clock_moves uuid s now named = moves_not uuid s.work named

-- ---- writes

lose_write_at : (uuid : List ℕ) (s : Follower) (number : ℕ) (t : Task) (found : Option Write) → t.follower ≡ uuid
    → RowMoves uuid (working s (replicating t)) (lose_write_row (working s (replicating t)) number (option_map {T = Write} {U = Sent} (λ w. record { task = t; write = w }) found))
unfolding lose_write_row
lose_write_at uuid s number t None named = moves_not uuid (replicating t) named
lose_write_at uuid s number t (Some w) named = silent_moves uuid t (write_lost t s.now w) named refl (λ n none. none)

lose_write_by : (uuid : List ℕ) (s : Follower) (number : ℕ) (work : Work) → name_in work ≡ uuid → RowMoves uuid (working s work) (lose_write_row (working s work) number (sent_write work number))
unfolding lose_write_row
lose_write_by uuid s number (restoring r) named = moves_not uuid (restoring r) named
lose_write_by uuid s number (replicating t) named = lose_write_at uuid s number t (write_sent t number) named

pub lose_write_moves : (uuid : List ℕ) (s : Follower) (number : ℕ) → name_in s.work ≡ uuid → RowMoves uuid s (lose_write_row s number (sent_write s.work number))
lose_write_moves uuid s number named = lose_write_by uuid s number s.work named

pub take_moves : (uuid : List ℕ) (s : Follower) (number : ℕ) (found : Option Sent) → name_in s.work ≡ uuid → RowMoves uuid s (take_row s number found)
unfolding take_row
take_moves uuid s number None named = moves_not uuid s.work named
take_moves uuid s number (Some w) named = moves_not uuid s.work named

pub apply_moves : (uuid : List ℕ) (s : Follower) (epoch number : ℕ) (batch : List Operation) (found : Option Sent) → name_in s.work ≡ uuid → RowMoves uuid s (apply_row s epoch number batch found)
unfolding apply_row
apply_moves uuid s epoch number batch found named =
    on_guards (RowMoves uuid s) s ((nat_lt epoch s.epoch, OldEpoch s.epoch) ∷ (is_other batch found, NoBatch number) ∷ [])
    (answered (replies.Applied (new_in s.copies.primary.seen batch)) (with_copies s (applied batch s.copies)))
    (λ why. moves_not uuid s.work named) (λ none. moves_not uuid s.work named)

write_done_moves : (uuid : List ℕ) (s : Follower) (t : Task) (w : Write) (lacking : Option ℕ) → t.follower ≡ uuid
    → RowMoves uuid (working s (replicating t)) (write_done (working s (replicating t)) (record { task = t; write = w }) lacking)
write_done_moves uuid s t w (Some copy) named = moves_not uuid (replicating t) named
write_done_moves uuid s t w None named = write_ended_moves uuid t w named

written_at : (uuid : List ℕ) (s : Follower) (number : ℕ) (t : Task) (found : Option Write) → t.follower ≡ uuid
    → RowMoves uuid (working s (replicating t)) (written_row (working s (replicating t)) number (option_map {T = Write} {U = Sent} (λ w. record { task = t; write = w }) found))
unfolding written_row
written_at uuid s number t None named = moves_not uuid (replicating t) named
written_at uuid s number t (Some w) named = write_done_moves uuid s t w (lacks w.batch s.copies) named

written_by : (uuid : List ℕ) (s : Follower) (number : ℕ) (work : Work) → name_in work ≡ uuid → RowMoves uuid (working s work) (written_row (working s work) number (sent_write work number))
unfolding written_row
written_by uuid s number (restoring r) named = moves_not uuid (restoring r) named
written_by uuid s number (replicating t) named = written_at uuid s number t (write_sent t number) named

pub written_moves : (uuid : List ℕ) (s : Follower) (number : ℕ) → name_in s.work ≡ uuid → RowMoves uuid s (written_row s number (sent_write s.work number))
written_moves uuid s number named = written_by uuid s number s.work named

-- ---- lease requests, pauses and restarts

-- the numbers of a task's reads were drawn
abbrev pub AreReadsDrawn : Work → Type 0
AreReadsDrawn (restoring r) = Unit {0}
AreReadsDrawn (replicating t) = AllByRecursion (λ (r : Read). r.request < t.next_request) t.reads

renew_at : (uuid : List ℕ) (s : Follower) (work : Work) → AreReadsDrawn work → name_in work ≡ uuid → RowMoves uuid (working s work) (renew_row (working s work) (task_of work))
unfolding renew_row
renew_at uuid s (restoring r) drawn named = moves_not uuid (restoring r) named
renew_at uuid s (replicating t) drawn named =
    on_guards (RowMoves uuid (working s (replicating t))) (working s (replicating t)) ((not (is_active t.phase), NotActive) ∷ [])
    (lease_request (working s (replicating t)) t (contents.LeaseRenew s.lease (needed_from s t))) (λ why. moves_not uuid (replicating t) named)
    (λ none. upkeep_moves uuid t t.phase (contents.LeaseRenew s.lease (needed_from s t)) drawn named)

pub renew_moves : (uuid : List ℕ) (s : Follower) → AreReadsDrawn s.work → name_in s.work ≡ uuid → RowMoves uuid s (renew_row s (task_of s.work))
renew_moves uuid s drawn named = renew_at uuid s s.work drawn named

unfollow_at : (uuid : List ℕ) (s : Follower) (work : Work) → AreReadsDrawn work → name_in work ≡ uuid → RowMoves uuid (working s work) (unfollow_row (working s work) (task_of work))
unfolding unfollow_row
unfollow_at uuid s (restoring r) drawn named = moves_not uuid (restoring r) named
unfollow_at uuid s (replicating t) drawn named =
    on_guards (RowMoves uuid (working s (replicating t))) (working s (replicating t)) ((is_active t.phase, NotPaused) ∷ [])
    (lease_request (working s (replicating t)) (record t { phase = phases.Unfollowed }) (contents.LeaseRemove s.lease)) (λ why. moves_not uuid (replicating t) named)
    (λ none. upkeep_moves uuid t phases.Unfollowed (contents.LeaseRemove s.lease) drawn named)

pub unfollow_moves : (uuid : List ℕ) (s : Follower) → AreReadsDrawn s.work → name_in s.work ≡ uuid → RowMoves uuid s (unfollow_row s (task_of s.work))
unfollow_moves uuid s drawn named = unfollow_at uuid s s.work drawn named

pause_at : (uuid : List ℕ) (s : Follower) (work : Work) → name_in work ≡ uuid → RowMoves uuid (working s work) (pause_row (working s work) (task_of work))
unfolding pause_row
pause_at uuid s (restoring r) named = moves_not uuid (restoring r) named
pause_at uuid s (replicating t) named =
    on_if (λ (next : Follower). Moves uuid (replicating t) next.work []) (is_active t.phase) (with_task (working s (replicating t)) (stopped phases.Paused t)) (working s (replicating t))
    (λ is. silent_moves uuid t (stopped phases.Paused t) named refl (λ n none. tt)) (λ isnt. moves_not uuid (replicating t) named)

pub pause_moves : (uuid : List ℕ) (s : Follower) → name_in s.work ≡ uuid → RowMoves uuid s (pause_row s (task_of s.work))
pause_moves uuid s named = pause_at uuid s s.work named

anew_moves : (uuid : List ℕ) (s : Follower) (t : Task) → t.follower ≡ uuid → RowMoves uuid (working s (replicating t)) (task_anew (working s (replicating t)) t)
anew_moves uuid s t named = started_moves uuid (replicating t) s.params s.copies.primary.global (s.epoch + 1) t.history t.follower t.next_request (omega arith) named

resume_at : (uuid : List ℕ) (s : Follower) (work : Work) → name_in work ≡ uuid → RowMoves uuid (working s work) (resume_row (working s work) (task_of work))
unfolding resume_row
resume_at uuid s (restoring r) named = moves_not uuid (restoring r) named
resume_at uuid s (replicating t) named =
    on_guards (RowMoves uuid (working s (replicating t))) (working s (replicating t)) ((not (is_paused t.phase), NotPaused) ∷ []) (task_anew (working s (replicating t)) t)
    (λ why. moves_not uuid (replicating t) named) (λ none. anew_moves uuid s t named)

pub resume_moves : (uuid : List ℕ) (s : Follower) → name_in s.work ≡ uuid → RowMoves uuid s (resume_row s (task_of s.work))
resume_moves uuid s named = resume_at uuid s s.work named

restart_at : (uuid : List ℕ) (s : Follower) (work : Work) → name_in work ≡ uuid → RowMoves uuid (working s work) (restart_row (working s work) (task_of work))
unfolding restart_row
restart_at uuid s (restoring r) named = moves_not uuid (restoring r) named
restart_at uuid s (replicating t) named =
    on_guards (RowMoves uuid (working s (replicating t))) (working s (replicating t)) ((not (is_active t.phase), NotActive) ∷ []) (task_anew (working s (replicating t)) t)
    (λ why. moves_not uuid (replicating t) named) (λ none. anew_moves uuid s t named)

pub restart_moves : (uuid : List ℕ) (s : Follower) → name_in s.work ≡ uuid → RowMoves uuid s (restart_row s (task_of s.work))
restart_moves uuid s named = restart_at uuid s s.work named

-- ---- copies and status

pub add_copy_moves : (uuid : List ℕ) (s : Follower) → name_in s.work ≡ uuid → RowMoves uuid s (follower_add_copy_row s)
unfolding follower_add_copy_row
add_copy_moves uuid s named =
    on_guards (RowMoves uuid s) s ((is_bootstrapping s.work, Bootstrapping) ∷ []) (within (with_copies s) (add_copy_row s.copies)) (λ why. moves_not uuid s.work named)
    (λ none. copies_move uuid s (add_copy_row s.copies) (add_copy-silent s.copies) named)

pub status_moves : (uuid : List ℕ) (s : Follower) → name_in s.work ≡ uuid → RowMoves uuid s (follower_status_row s)
unfolding follower_status_row
status_moves uuid s named = moves_not uuid s.work named
