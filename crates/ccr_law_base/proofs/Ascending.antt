-- The replicas of the leader, and of each follower, stand in ascending number, at every place.
use Rattle.std.specs.Prelude.{slice_get, remove, find}
use Rattle.std.specs.List.{list_any, range_with_len}
use Rattle.std.proofs.Common.{◌≡◌, ℕ, zero, suc, ◌+◌, ◌-◌, ◌≤◌, ◌==◌, Bool, true, nat_lt, Option, Some, None, List, [], ◌∷◌, ◌++◌, map, refl, sym, ◌∙◌, subst, arith}
use Rattle.std.proofs.lemmas.Bool.{eqb-true}
use Rattle.ccr_op.specs.Operation.{Operation}
use Rattle.ccr_doc.specs.declared.sources.BadSource.{BadSource as SourceFault}
use Rattle.ccr_lease.specs.declared.retention.Lease.{Lease}
use Rattle.ccr_lease.specs.Leases.{supersedes}
use Rattle.ccr_query.specs.Queries.{Tree}
use Rattle.ccr_query.specs.declared.sorting.SortKey.{SortKey}
use Rattle.ccr_wire.specs.Message.{Frame, kind_of_content}
use Rattle.ccr_wire.specs.declared.content.Content.{Content}
use Rattle.ccr_wire.specs.declared.content.Content.TheVariants as contents
use Rattle.ccr_journal.specs.declared.params.ParamValues.{ParamValues}
use Rattle.ccr_journal.specs.declared.requests.WriteRequest.{WriteRequest}
use Rattle.ccr_journal.specs.declared.sides.Side.TheVariants as sides
use Rattle.ccr_journal.specs.declared.events.Event.{Event}
use Rattle.ccr_journal.specs.declared.events.Event.TheVariants as events
use Rattle.ccr_journal.specs.declared.journals.Entry.{Entry}
use Rattle.ccr_journal.specs.declared.replies.Reply.{Reply}
use Rattle.ccr_journal.specs.declared.replies.Reply.TheVariants as replies
use Rattle.ccr_journal.specs.declared.replies.Refusal.TheVariants.{NoFollower}
use Rattle.ccr_model.specs.Stores.{flushed}
use Rattle.ccr_model.specs.Outcomes.{Outcome, refused, within}
use Rattle.ccr_model.specs.Copies.{Copy, Replica, Copies, new_copy, replica_in_step, new_copies, copy_of, replica_of, replaced, without, changed_replica, changed_at, has_lease}
use Rattle.ccr_model.specs.CopyRows.{replicate_row, ack_row, taking_leases, sync_row, fail_copy_row, add_copy_row, flush_row, merge_row, after_merge, with_true_count, follower_promote_row, unknown}
use Rattle.ccr_model.specs.CopyFacts.{AscendBelow, Ascend}
use Rattle.ccr_model.specs.Invariants.{CopiesAscend}
use Rattle.ccr_model.specs.Leaders.{Start, Leader, Session, KeptRequest, Poll, without_poll}
use Rattle.ccr_model.specs.LeaderRows.{with_copies, answering_kept, write_row, leader_promote_row, force_promote_row, resync_row, leader_fail_copy_row, leader_clock_row, expire_row, close_sessions_row, leader_status_row, leader_write, leader_replicate, leader_ack, leader_promote, leader_force_promote, leader_resync, leader_add_copy, leader_flush, leader_merge, leader_clock, leader_expire, leader_close_sessions, leader_status}
use Rattle.ccr_model.specs.LeaderFrames.{answer_read, has_to_wait, read_row, wake_row, with_new_lease, answer_or_keep, lease_add_row, lease_renew_row, lease_remove_row, session_open_row, chunk_row, receive_row, leader_receive, leader_wake}
use Rattle.ccr_model.specs.Requests.{Sending}
use Rattle.ccr_model.specs.Restores.{Restore, Stage, leasing, opening, fetching, is_complete, ends_restore, restore_hears, sent_requests}
use Rattle.ccr_model.specs.Tasks.{Task, Read, is_active, read_sent, sent_reads}
use Rattle.ccr_model.specs.Followers.{Follower, Work, restoring, replicating, uuid_of}
use Rattle.ccr_model.specs.FollowerRows.{Sent, restore_done, restore_heard, hear_read, task_heard, work_hears, follower_receive_row, task_lost, bootstrap_lost, lose_row, tick_row, follower_clock_row, sent_write, lose_write_row, take_row, apply_row, write_done, written_row, task_of, renew_row, pause_row, resume_row, restart_row, unfollow_row, follower_add_copy_row, follower_replicate, follower_ack, follower_sync, follower_promote, follower_fail_copy, follower_flush, follower_merge, follower_status_row}
use Rattle.ccr_model.specs.World.{State, start_state, at_leader, for_follower, goes_to_leader, follower_of, at_named_follower, taken_by_receiver, deliver_row, drop_row, follow_row, search_row, same_name}
use Rattle.ccr_model.specs.Step.{step, woken, IsLegal}
use Rattle.ccr_model.specs.Past.{Past, start_past, past_of}
use Rattle.ccr_law_base.proofs.Cases.{on_if, on_guards, read_answered}
use Rattle.ccr_law_base.proofs.Lists.{All-append, All-at, All-set, some_equal}
use Rattle.ccr_law_base.proofs.Journals.{by_events, by_entries}

-- ---- lists of replicas

ascend-low : (next low less : ℕ) (rs : List Replica) → less ≤ low → AscendBelow next low rs → AscendBelow next less rs
ascend-low next low less [] fewer all = let end : low ≤ next = all in omega arith
ascend-low next low less (r ∷ rs) fewer all = let first : low ≤ r.copy.number = all.0 in (omega arith, all.1)

-- a replica of the same number in the place of another
first-again : (next low : ℕ) (r new : Replica) (rs : List Replica) → new.copy.number ≡ r.copy.number → AscendBelow next low (r ∷ rs) → AscendBelow next low (new ∷ rs)
first-again next low r new rs same all =
    (subst (λ (k : ℕ). low ≤ k) (sym same) all.0, subst (λ (k : ℕ). AscendBelow next (k + 1) rs) (sym same) all.1)

ascend-replaced : (next low copy : ℕ) (new : Replica) (rs : List Replica) → new.copy.number ≡ copy → AscendBelow next low rs → AscendBelow next low (replaced copy new rs)
ascend-replaced next low copy new [] number all = all
ascend-replaced next low copy new (r ∷ rs) number all =
    on_if (AscendBelow next low) (r.copy.number == copy) (new ∷ rs) (r ∷ replaced copy new rs)
    (λ is. first-again next low r new rs (number ∙ sym (eqb-true r.copy.number copy is)) all)
    (λ isnt. (all.0, ascend-replaced next (r.copy.number + 1) copy new rs number all.1))

ascend-without : (next low copy : ℕ) (rs : List Replica) → AscendBelow next low rs → AscendBelow next low (without copy rs)
ascend-without next low copy [] all = all
ascend-without next low copy (r ∷ rs) all =
    let first : low ≤ r.copy.number = all.0 in
    on_if (AscendBelow next low) (r.copy.number == copy) rs (r ∷ without copy rs)
    (λ is. ascend-low next (r.copy.number + 1) low rs (omega arith) all.1)
    (λ isnt. (all.0, ascend-without next (r.copy.number + 1) copy rs all.1))

ascend-map : (next low : ℕ) (f : Replica → Replica) (rs : List Replica) → ((r : Replica) → (f r).copy.number ≡ r.copy.number) → AscendBelow next low rs
    → AscendBelow next low (map {A = Replica} {B = Replica} f rs)
ascend-map next low f [] same all = all
ascend-map next low f (r ∷ rs) same all = first-again next low r (f r) (map {A = Replica} {B = Replica} f rs) (same r) (all.0, ascend-map next (r.copy.number + 1) f rs same all.1)

ascend-changed : (next low copy : ℕ) (change : Copy → Copy) (rs : List Replica) → ((c : Copy) → (change c).number ≡ c.number) → AscendBelow next low rs
    → AscendBelow next low (changed_replica copy change rs)
ascend-changed next low copy change [] same all = all
ascend-changed next low copy change (r ∷ rs) same all =
    on_if (AscendBelow next low) (r.copy.number == copy) (record r { copy = change r.copy } ∷ rs) (r ∷ changed_replica copy change rs)
    (λ is. first-again next low r (record r { copy = change r.copy }) rs (same r.copy) all)
    (λ isnt. (all.0, ascend-changed next (r.copy.number + 1) copy change rs same all.1))

ascend-push : (next low : ℕ) (new : Replica) (rs : List Replica) → new.copy.number ≡ next → AscendBelow next low rs → AscendBelow (next + 1) low (rs ++ new ∷ [])
ascend-push next low new [] number all = let end : low ≤ next = all in (omega arith, omega arith)
ascend-push next low new (r ∷ rs) number all = (all.0, ascend-push next (r.copy.number + 1) new rs number all.1)

ascend-range : (next from size : ℕ) → from + size ≤ next
    → AscendBelow next from (map {A = ℕ} {B = Replica} (λ number. replica_in_step (new_copy number) 0) (range_with_len from size))
ascend-range next from zero within = omega arith
ascend-range next from (suc size) within = (omega arith, ascend-range next (from + 1) size (omega arith))

pub new-ascend : (copies : ℕ) → Ascend (new_copies copies)
new-ascend zero = omega arith
new-ascend (suc n) =
    let size : suc n - 1 ≡ n = omega arith in
    subst (λ (k : ℕ). AscendBelow (suc n) 0 (map {A = ℕ} {B = Replica} (λ number. replica_in_step (new_copy number) 0) (range_with_len 1 k))) (sym size)
    (ascend-low (suc n) 1 0 (map {A = ℕ} {B = Replica} (λ number. replica_in_step (new_copy number) 0) (range_with_len 1 n)) (omega arith) (ascend-range (suc n) 1 n (omega arith)))

found-number : (s : Copies) (copy : ℕ) (r : Replica) → replica_of s copy ≡ Some r → r.copy.number ≡ copy
found-number s copy r found = eqb-true r.copy.number copy (passes (λ (x : Replica). x.copy.number == copy) s.replicas r found)
  where
    passes : (test : Replica → Bool) (rs : List Replica) (r : Replica) → find test rs ≡ Some r → test r ≡ true
    passes test [] r at = absurd (cc)
    passes test (x ∷ rs) r at =
        on_if (λ (o : Option Replica). o ≡ Some r → test r ≡ true) (test x) (Some x) (find test rs)
        (λ is here. subst (λ (y : Replica). test y ≡ true) (some_equal x r here) is) (λ isnt there. passes test rs r there) at

-- ---- the copies' rows

replicating_copy : (s : Copies) (copy seq : ℕ) (found : Option Replica) → replica_of s copy ≡ found → Ascend s → Ascend (replicate_row s copy seq found).next
unfolding replicate_row
replicating_copy s copy seq None at all = all
replicating_copy s copy seq (Some r) at all =
    on_guards (λ (o : Outcome Copies). Ascend o.next) s _ _ (λ why. all) (λ tests. ascend-replaced s.next 0 copy _ s.replicas (found-number s copy r at) all)

acking : (s : Copies) (copy : ℕ) (found : Option Replica) → replica_of s copy ≡ found → Ascend s → Ascend (ack_row s copy found).next
unfolding ack_row
acking s copy None at all = all
acking s copy (Some r) at all =
    on_guards (λ (o : Outcome Copies). Ascend o.next) s _ _ (λ why. all) (λ tests. ascend-replaced s.next 0 copy _ s.replicas (found-number s copy r at) all)

leases-number : (primary c : Copy) → (taking_leases primary c).number ≡ c.number
leases-number primary c = on_if (λ (x : Copy). x.number ≡ c.number) (supersedes primary.leases c.leases) _ _ (λ is. refl) (λ isnt. refl)

syncing : (s : Copies) (copy : ℕ) (found : Option Replica) → replica_of s copy ≡ found → Ascend s → Ascend (sync_row s copy found).next
unfolding sync_row
syncing s copy None at all = all
syncing s copy (Some r) at all =
    on_guards (λ (o : Outcome Copies). Ascend o.next) s _ _ (λ why. all)
    (λ tests. ascend-replaced s.next 0 copy _ s.replicas (leases-number s.primary _ ∙ found-number s copy r at) all)

failing_copy : (s : Copies) (copy : ℕ) (found : Option Replica) → Ascend s → Ascend (fail_copy_row s copy found).next
unfolding fail_copy_row
failing_copy s copy None all = all
failing_copy s copy (Some r) all = ascend-without s.next 0 copy s.replicas all

adding_copy : (s : Copies) → Ascend s → Ascend (add_copy_row s).next
unfolding add_copy_row
adding_copy s all = on_guards (λ (o : Outcome Copies). Ascend o.next) s _ _ (λ why. all) (λ tests. ascend-push s.next 0 _ s.replicas refl all)

changing : (s : Copies) (copy : ℕ) (change : Copy → Copy) → ((c : Copy) → (change c).number ≡ c.number) → Ascend s → Ascend (changed_at copy change s)
changing s copy change same all = on_if Ascend (s.primary.number == copy) _ _ (λ is. all) (λ isnt. ascend-changed s.next 0 copy change s.replicas same all)

flushing : (s : Copies) (copy : ℕ) (found : Option Copy) → Ascend s → Ascend (flush_row s copy found).next
unfolding flush_row
flushing s copy None all = all
flushing s copy (Some c) all = changing s copy (λ own. record own { store = flushed own.store; commit = own.global }) (λ own. refl) all

merging : (s : Copies) (retention copy : ℕ) (picks : List ℕ) (found : Option Copy) → Ascend s → Ascend (merge_row s retention copy picks found).next
unfolding merge_row
merging s retention copy picks None all = all
merging s retention copy picks (Some c) all = changing s copy (after_merge retention picks) (λ own. refl) all

writing : (s : Copies) (request : WriteRequest) (fault : Option SourceFault) (found : Option Operation) → Ascend s → Ascend (write_row s request fault found).next
unfolding write_row
writing s request (Some fault) found all = all
writing s request None found all = on_guards (λ (o : Outcome Copies). Ascend o.next) s _ _ (λ why. all) (λ tests. all)

resyncing : (s : Copies) (copy : ℕ) (found : Option Replica) → replica_of s copy ≡ found → Ascend s → Ascend (resync_row s copy found).next
unfolding resync_row
resyncing s copy None at all = all
resyncing s copy (Some r) at all =
    on_if (λ (o : Outcome Copies). Ascend o.next) r.resynced _ _ (λ was. all) (λ wasnt. ascend-replaced s.next 0 copy _ s.replicas (found-number s copy r at) all)

promoting_own : (s : Copies) (copy : ℕ) (found : Option Replica) → Ascend s → Ascend (follower_promote_row s copy found).next
unfolding follower_promote_row
promoting_own s copy None all = all
promoting_own s copy (Some r) all = ascend-map s.next 0 with_true_count (without copy s.replicas) (λ own. refl) (ascend-without s.next 0 copy s.replicas all)

-- ---- the leader's rows

abbrev GoesOn : Leader → Outcome Leader → Type 0
GoesOn s o = Ascend s.copies → Ascend o.next.copies

answering : (s : Leader) (reply : Reply) (o : Outcome Leader) → GoesOn s o → GoesOn s (answering_kept reply o)
answering s (replies.Refused why) o goes = goes
answering s _ o goes = goes

promoting : (s : Leader) (copy : ℕ) (found : Option Replica) → GoesOn s (leader_promote_row s copy found)
unfolding leader_promote_row
promoting s copy None all = all
promoting s copy (Some r) all = ascend-map s.copies.next 0 unknown (without copy s.copies.replicas) (λ own. refl) (ascend-without s.copies.next 0 copy s.copies.replicas all)

forcing : (s : Leader) (copy : ℕ) (found : Option Copy) → GoesOn s (force_promote_row s copy found)
unfolding force_promote_row
forcing s copy None all = all
forcing s copy (Some c) all = omega arith

failing : (s : Leader) (copy : ℕ) (found : Option Replica) → GoesOn s (leader_fail_copy_row s copy found)
unfolding leader_fail_copy_row
failing s copy None all = failing_copy s.copies copy None all
failing s copy (Some r) all = failing_copy s.copies copy (Some r) all

clocking : (s : Leader) (now : ℕ) → GoesOn s (leader_clock_row s now)
unfolding leader_clock_row
clocking s now all = all

expiring : (s : Leader) → GoesOn s (expire_row s)
unfolding expire_row
expiring s all = all

closing : (s : Leader) → GoesOn s (close_sessions_row s)
unfolding close_sessions_row
closing s all = all

showing : (s : Leader) → GoesOn s (leader_status_row s)
unfolding leader_status_row
showing s all = all

read_goes : (s : Leader) (p : Poll) (c : Copy) (next : Leader) → Ascend next.copies → Ascend (answer_read s p c next).next.copies
read_goes s p c next all = read_answered (λ (o : Outcome Leader). Ascend o.next.copies) s p c next (λ what sent. all)

reading : (s : Leader) (p : Poll) (copy : ℕ) (found : Option Copy) → GoesOn s (read_row s p copy found)
unfolding read_row
reading s p copy None all = all
reading s p copy (Some c) all = on_if (λ (o : Outcome Leader). Ascend o.next.copies) (has_to_wait s p c) _ _ (λ waits. all) (λ answers. read_goes s p c s all)

waking : (s : Leader) (follower : List ℕ) (at : ℕ) (found : Option Poll) (c : Option Copy) → GoesOn s (wake_row s follower at found c)
unfolding wake_row
waking s follower at None c all = all
waking s follower at (Some p) None all = all
waking s follower at (Some p) (Some c) all =
    on_guards (λ (o : Outcome Leader). Ascend o.next.copies) s _ _ (λ why. all) (λ tests. read_goes s p c (record s { polls = without_poll follower at s.polls }) all)

keeping : (s : Leader) (k : KeptRequest) (lacking : Option ℕ) → GoesOn s (answer_or_keep s k lacking)
keeping s k None all = all
keeping s k (Some copy) all = all

lease_goes : (s : Leader) (id : List ℕ) → Ascend s.copies → Ascend (with_new_lease s id).copies
lease_goes s id all = on_if (λ (l : Leader). Ascend l.copies) (has_lease id s.copies.primary) _ _ (λ there. all) (λ isnt. all)

adding : (s : Leader) (follower : List ℕ) (request : ℕ) (id : List ℕ) (waits : Option ℕ) → GoesOn s (lease_add_row s follower request id waits)
unfolding lease_add_row
adding s follower request id (Some copy) all = all
adding s follower request id None all = keeping (with_new_lease s id) _ _ (lease_goes s id all)

renewing : (s : Leader) (follower : List ℕ) (request : ℕ) (id : List ℕ) (number : ℕ) (found : Option Lease) → GoesOn s (lease_renew_row s follower request id number found)
unfolding lease_renew_row
renewing s follower request id number None all = all
renewing s follower request id number (Some kept) all =
    on_if (λ (o : Outcome Leader). Ascend o.next.copies) (nat_lt number kept.number) _ _ (λ low. all) (λ high. all)

removing : (s : Leader) (follower : List ℕ) (request : ℕ) (id : List ℕ) (found : Option Lease) → GoesOn s (lease_remove_row s follower request id found)
unfolding lease_remove_row
removing s follower request id None all = all
removing s follower request id (Some kept) all = all

opening_session : (s : Leader) (follower : List ℕ) (request : ℕ) (waits : Option ℕ) → GoesOn s (session_open_row s follower request waits)
unfolding session_open_row
opening_session s follower request (Some copy) all = all
opening_session s follower request None all = all

sending_part : (s : Leader) (follower : List ℕ) (request session file offset size : ℕ) (found : Option Session) → GoesOn s (chunk_row s follower request session file offset size found)
unfolding chunk_row
sending_part s follower request session file offset size None all = all
sending_part s follower request session file offset size (Some x) all = all

hearing : (s : Leader) (copy : ℕ) (follower : List ℕ) (request : ℕ) (content : Content) → GoesOn s (receive_row s copy (record { follower = follower; request = request; content = content }))
hearing s copy follower request (contents.ReadRequest history from max_ops max_bytes timeout) = reading s _ copy _
hearing s copy follower request (contents.LeaseAdd id) = adding s follower request id _
hearing s copy follower request (contents.LeaseRenew id number) = renewing s follower request id number _
hearing s copy follower request (contents.LeaseRemove id) = removing s follower request id _
hearing s copy follower request contents.SessionOpen = opening_session s follower request _
hearing s copy follower request (contents.ChunkRequest session file offset size) = sending_part s follower request session file offset size _
hearing s copy follower request _ = λ all. all

receiving : (s : Leader) (copy : ℕ) (m : Frame) → GoesOn s (leader_receive s copy m)
receiving s copy m = answering s (receive_row s copy m).reply (receive_row s copy m) (hearing s copy m.follower m.request m.content)

-- ---- a follower's rows

abbrev KeepsOn : Follower → Outcome Follower → Type 0
KeepsOn s o = Ascend s.copies → Ascend o.next.copies

restore-done : (s : Follower) (done : Sending Restore) → KeepsOn s (restore_done s done)
restore-done s done all =
    elim done.next.stage as (λ (stage : Stage). Ascend (restore_done s (record done { next = record done.next { stage = stage } })).next.copies) [
      | leasing a ↦ all
      | opening a ↦ all
      | fetching f ↦ on_if (λ (o : Outcome Follower). Ascend o.next.copies) (is_complete done.next.chunk_size f) _ _
          (λ whole. ascend-map s.copies.next 0 _ s.copies.replicas (λ own. refl) all) (λ part. all)
    ]

restore-heard : (s : Follower) (done : Option (Sending Restore)) → KeepsOn s (restore_heard s done)
restore-heard s None all = all
restore-heard s (Some done) all = restore-done s done all

read-heard : (s : Follower) (t : Task) (r : Read) (content : Content) → KeepsOn s (hear_read s t r content)
read-heard s t r (contents.ReadReply from global ops) = λ all. all
read-heard s t r (contents.ReadMissing from floor) = λ all. all
read-heard s t r (contents.ReadHistory history) = λ all. all
read-heard s t r _ = λ all. all

task-heard : (s : Follower) (t : Task) (content : Content) (found : Option Read) → KeepsOn s (task_heard s t content found)
task-heard s t content None all = all
task-heard s t content (Some r) all = read-heard s t r content all

work-heard : (s : Follower) (work : Work) (m : Frame) → KeepsOn s (work_hears (record s { work = work }) m)
work-heard s (restoring r) m all =
    on_if (λ (o : Outcome Follower). Ascend o.next.copies) (ends_restore r m) _ _ (λ ends. all) (λ goes_on. restore-heard (record s { work = restoring r }) (restore_hears r s.now m) all)
work-heard s (replicating t) m all = task-heard (record s { work = replicating t }) t m.content (read_sent t m.request) all

follower-heard : (s : Follower) (m : Frame) → KeepsOn s (follower_receive_row s m)
unfolding follower_receive_row
follower-heard s m all = on_if (λ (o : Outcome Follower). Ascend o.next.copies) (list_any (λ n. n == m.request) s.lease_requests) _ _ (λ own. all) (λ other. work-heard s s.work m all)

losing : (s : Follower) (work : Work) (at : ℕ) → KeepsOn s (lose_row (record s { work = work }) at)
unfolding lose_row
losing s (restoring r) at all = lost (slice_get (sent_requests r.stage) at)
  where
    lost : (found : Option ℕ) → Ascend (bootstrap_lost (record s { work = restoring r }) r at found).next.copies
    lost None = all
    lost (Some request) = all
losing s (replicating t) at all = lost (slice_get (sent_reads t) at)
  where
    lost : (found : Option Read) → Ascend (task_lost (record s { work = replicating t }) t at found).next.copies
    lost None = all
    lost (Some r) = all

ticking : (s : Follower) (work : Work) → KeepsOn s (tick_row (record s { work = work }))
unfolding tick_row
ticking s (restoring r) all = all
ticking s (replicating t) all = all

setting_clock : (s : Follower) (now : ℕ) → KeepsOn s (follower_clock_row s now)
unfolding follower_clock_row
setting_clock s now all = all

losing_write : (s : Follower) (number : ℕ) (found : Option Sent) → KeepsOn s (lose_write_row s number found)
unfolding lose_write_row
losing_write s number None all = all
losing_write s number (Some w) all = all

taking : (s : Follower) (number : ℕ) (found : Option Sent) → KeepsOn s (take_row s number found)
unfolding take_row
taking s number None all = all
taking s number (Some w) all = all

applying : (s : Follower) (epoch number : ℕ) (batch : List Operation) (found : Option Sent) → KeepsOn s (apply_row s epoch number batch found)
unfolding apply_row
applying s epoch number batch found all = on_guards (λ (o : Outcome Follower). Ascend o.next.copies) s _ _ (λ why. all) (λ tests. all)

ending : (s : Follower) (w : Sent) (lacking : Option ℕ) → KeepsOn s (write_done s w lacking)
ending s w (Some copy) all = all
ending s w None all = all

having_written : (s : Follower) (number : ℕ) (found : Option Sent) → KeepsOn s (written_row s number found)
unfolding written_row
having_written s number None all = all
having_written s number (Some w) all = ending s w _ all

renewing_own : (s : Follower) (found : Option Task) → KeepsOn s (renew_row s found)
unfolding renew_row
renewing_own s None all = all
renewing_own s (Some t) all = on_guards (λ (o : Outcome Follower). Ascend o.next.copies) s _ _ (λ why. all) (λ tests. all)

pausing : (s : Follower) (found : Option Task) → KeepsOn s (pause_row s found)
unfolding pause_row
pausing s None all = all
pausing s (Some t) all = on_if (λ (next : Follower). Ascend next.copies) (is_active t.phase) _ _ (λ is. all) (λ isnt. all)

resuming : (s : Follower) (found : Option Task) → KeepsOn s (resume_row s found)
unfolding resume_row
resuming s None all = all
resuming s (Some t) all = on_guards (λ (o : Outcome Follower). Ascend o.next.copies) s _ _ (λ why. all) (λ tests. all)

restarting : (s : Follower) (found : Option Task) → KeepsOn s (restart_row s found)
unfolding restart_row
restarting s None all = all
restarting s (Some t) all = on_guards (λ (o : Outcome Follower). Ascend o.next.copies) s _ _ (λ why. all) (λ tests. all)

unfollowing : (s : Follower) (found : Option Task) → KeepsOn s (unfollow_row s found)
unfolding unfollow_row
unfollowing s None all = all
unfollowing s (Some t) all = on_guards (λ (o : Outcome Follower). Ascend o.next.copies) s _ _ (λ why. all) (λ tests. all)

adding_own_copy : (s : Follower) → KeepsOn s (follower_add_copy_row s)
unfolding follower_add_copy_row
adding_own_copy s all = on_guards (λ (o : Outcome Follower). Ascend o.next.copies) s _ _ (λ why. all) (λ tests. adding_copy s.copies all)

showing_own : (s : Follower) → KeepsOn s (follower_status_row s)
unfolding follower_status_row
showing_own s all = all

-- ---- the world's rows

abbrev Stands : State → Outcome State → Type 0
Stands s o = CopiesAscend s → CopiesAscend o.next

by_leader : (s : State) (o : Outcome Leader) → GoesOn s.leader o → Stands s (at_leader s o)
by_leader s o goes all = record { leader = goes all.leader; followers = all.followers }

by_found : (s : State) (f : ℕ) (row : Follower → Outcome Follower) (found : Option Follower) → slice_get s.followers f ≡ found → ((own : Follower) → KeepsOn own (row own))
    → Stands s (for_follower s f row found)
by_found s f row None at keeps all = all
by_found s f row (Some own) at keeps all = record {
  leader = all.leader;
  followers = All-set (λ (x : Follower). Ascend x.copies) s.followers f (row own).next all.followers
      (keeps own (All-at (λ (x : Follower). Ascend x.copies) s.followers f own all.followers at));
}

by_follower : (s : State) (f : ℕ) (row : Follower → Outcome Follower) → ((own : Follower) → KeepsOn own (row own)) → Stands s (for_follower s f row (slice_get s.followers f))
by_follower s f row keeps = by_found s f row (slice_get s.followers f) refl keeps

naming : (s : State) (m : Frame) (named : Option ℕ) → Stands s (at_named_follower s m named)
naming s m None all = all
naming s m (Some f) all = by_follower s f (λ follower. follower_receive_row follower m) (λ own. follower-heard own m) all

taking_message : (s : State) (copy : ℕ) (m : Frame) → Stands s (taken_by_receiver s copy m)
taking_message s copy m =
    on_if (Stands s) (goes_to_leader (kind_of_content m.content)) _ _
    (λ is. by_leader s (leader_receive s.leader copy m) (receiving s.leader copy m)) (λ isnt. naming s m (follower_of s.followers m.follower))

delivering : (s : State) (at copy : ℕ) (keep : Bool) (m : Option Frame) (c : Option Copy) → Stands s (deliver_row s at copy keep m c)
unfolding deliver_row
delivering s at copy keep None c all = all
delivering s at copy keep (Some m) None all = all
delivering s at copy keep (Some m) (Some c) all =
    on_if (λ (t : State). CopiesAscend t → CopiesAscend (taken_by_receiver t copy m).next) keep s (record s { flight = remove s.flight at })
    (λ is. taking_message s copy m) (λ isnt. taking_message (record s { flight = remove s.flight at }) copy m)
    (on_if CopiesAscend keep s (record s { flight = remove s.flight at }) (λ is. all) (λ isnt. record { leader = all.leader; followers = all.followers }))

dropping : (s : State) (at : ℕ) (m : Option Frame) → Stands s (drop_row s at m)
unfolding drop_row
dropping s at None all = all
dropping s at (Some m) all = record { leader = all.leader; followers = all.followers }

waking_up : (s : State) (f at : ℕ) (found : Option Follower) → Stands s (woken s f at found)
waking_up s f at None all = all
waking_up s f at (Some follower) all = by_leader s (leader_wake s.leader (uuid_of f) at) (waking s.leader (uuid_of f) at _ _) all

following : (s : State) (params : ParamValues) (copies : ℕ) (name : List ℕ) (same : Option ℕ) → Stands s (follow_row s params copies name same)
unfolding follow_row
following s params copies name (Some f) all = all
following s params copies name None all =
    on_guards (λ (o : Outcome State). CopiesAscend o.next) s _ _ (λ why. all)
    (λ tests. record { leader = all.leader; followers = All-append (λ (x : Follower). Ascend x.copies) s.followers _ all.followers (new-ascend copies, tt) })

searching : (s : State) (copy : ℕ) (query : Tree) (sort : List SortKey) (c : Option Copy) → Stands s (search_row s copy query sort c)
unfolding search_row
searching s copy query sort None all = all
searching s copy query sort (Some c) all = all

searching_at : (s : State) (f : ℕ) (row : Option Copy → Outcome State) (copy : ℕ) (found : Option Follower) → ((c : Option Copy) → Stands s (row c))
    → Stands s (elim found as (λ _. Outcome State) [ None ↦ refused s (NoFollower f) | Some follower ↦ row (copy_of follower.copies copy) ])
searching_at s f row copy None stands all = all
searching_at s f row copy (Some follower) stands all = stands (copy_of follower.copies copy) all

-- ---- each event

pub ascend-keeps : (s : State) (event : Event) (picks : List ℕ) → CopiesAscend s → CopiesAscend (step s event picks).next
ascend-keeps s (events.Write request) picks = by_leader s (leader_write s.leader request) (writing s.leader.copies request _ _)
ascend-keeps s (events.Replicate sides.Leader copy seq) picks = by_leader s (leader_replicate s.leader copy seq) (replicating_copy s.leader.copies copy seq _ refl)
ascend-keeps s (events.Ack sides.Leader copy) picks = by_leader s (leader_ack s.leader copy) (acking s.leader.copies copy _ refl)
ascend-keeps s (events.Sync sides.Leader copy) picks =
    let o : Outcome Leader = within (with_copies s.leader) (sync_row s.leader.copies copy (replica_of s.leader.copies copy)) in
    by_leader s (answering_kept o.reply o) (answering s.leader o.reply o (syncing s.leader.copies copy (replica_of s.leader.copies copy) refl))
ascend-keeps s (events.Promote sides.Leader copy) picks = by_leader s (leader_promote s.leader copy) (promoting s.leader copy _)
ascend-keeps s (events.ForcePromote copy) picks = by_leader s (leader_force_promote s.leader copy) (forcing s.leader copy _)
ascend-keeps s (events.Resync copy) picks = by_leader s (leader_resync s.leader copy) (resyncing s.leader.copies copy _ refl)
ascend-keeps s (events.FailCopy sides.Leader copy) picks =
    let o : Outcome Leader = leader_fail_copy_row s.leader copy (replica_of s.leader.copies copy) in
    by_leader s (answering_kept o.reply o) (answering s.leader o.reply o (failing s.leader copy (replica_of s.leader.copies copy)))
ascend-keeps s (events.AddCopy sides.Leader) picks = by_leader s (leader_add_copy s.leader) (adding_copy s.leader.copies)
ascend-keeps s (events.Flush sides.Leader copy) picks = by_leader s (leader_flush s.leader copy) (flushing s.leader.copies copy _)
ascend-keeps s (events.Merge sides.Leader copy) picks = by_leader s (leader_merge s.leader copy picks) (merging s.leader.copies s.leader.start.retention copy picks _)
ascend-keeps s (events.Clock sides.Leader now) picks = by_leader s (leader_clock s.leader now) (clocking s.leader now)
ascend-keeps s events.Expire picks = by_leader s (leader_expire s.leader) (expiring s.leader)
ascend-keeps s events.CloseSessions picks = by_leader s (leader_close_sessions s.leader) (closing s.leader)
ascend-keeps s (events.Deliver at copy keep) picks = delivering s at copy keep (slice_get s.flight at) (copy_of s.leader.copies copy)
ascend-keeps s (events.Drop at) picks = dropping s at (slice_get s.flight at)
ascend-keeps s (events.Wake f at) picks = waking_up s f at (slice_get s.followers f)
ascend-keeps s (events.Follow params copies name) picks = following s params copies name (same_name s.followers name)
ascend-keeps s (events.Search sides.Leader copy request) picks = searching s copy request.query request.sort (copy_of s.leader.copies copy)
ascend-keeps s (events.Search (sides.Follower f) copy request) picks =
    searching_at s f (search_row s copy request.query request.sort) copy (slice_get s.followers f) (searching s copy request.query request.sort)
ascend-keeps s (events.Status sides.Leader) picks = by_leader s (leader_status s.leader) (showing s.leader)
ascend-keeps s events.Settle picks = λ all. on_guards (λ (o : Outcome State). CopiesAscend o.next) s _ _ (λ why. all) (λ tests. all)
ascend-keeps s (events.Replicate (sides.Follower f) copy seq) picks = by_follower s f (λ x. follower_replicate x copy seq) (λ own. replicating_copy own.copies copy seq _ refl)
ascend-keeps s (events.Ack (sides.Follower f) copy) picks = by_follower s f (λ x. follower_ack x copy) (λ own. acking own.copies copy _ refl)
ascend-keeps s (events.Sync (sides.Follower f) copy) picks = by_follower s f (λ x. follower_sync x copy) (λ own. syncing own.copies copy _ refl)
ascend-keeps s (events.Promote (sides.Follower f) copy) picks = by_follower s f (λ x. follower_promote x copy) (λ own. promoting_own own.copies copy _)
ascend-keeps s (events.FailCopy (sides.Follower f) copy) picks = by_follower s f (λ x. follower_fail_copy x copy) (λ own. failing_copy own.copies copy _)
ascend-keeps s (events.AddCopy (sides.Follower f)) picks = by_follower s f follower_add_copy_row adding_own_copy
ascend-keeps s (events.Flush (sides.Follower f) copy) picks = by_follower s f (λ x. follower_flush x copy) (λ own. flushing own.copies copy _)
ascend-keeps s (events.Merge (sides.Follower f) copy) picks = by_follower s f (λ x. follower_merge x copy picks) (λ own. merging own.copies own.retention copy picks _)
ascend-keeps s (events.Clock (sides.Follower f) now) picks = by_follower s f (λ x. follower_clock_row x now) (λ own. setting_clock own now)
ascend-keeps s (events.Status (sides.Follower f)) picks = by_follower s f follower_status_row showing_own
ascend-keeps s (events.Tick f) picks = by_follower s f tick_row (λ own. ticking own own.work)
ascend-keeps s (events.Lose f at) picks = by_follower s f (λ x. lose_row x at) (λ own. losing own own.work at)
ascend-keeps s (events.LoseWrite f write) picks = by_follower s f (λ x. lose_write_row x write (sent_write x.work write)) (λ own. losing_write own write _)
ascend-keeps s (events.Take f write) picks = by_follower s f (λ x. take_row x write (sent_write x.work write)) (λ own. taking own write _)
ascend-keeps s (events.Apply f epoch write batch) picks = by_follower s f (λ x. apply_row x epoch write batch (sent_write x.work write)) (λ own. applying own epoch write batch _)
ascend-keeps s (events.Written f write) picks = by_follower s f (λ x. written_row x write (sent_write x.work write)) (λ own. having_written own write _)
ascend-keeps s (events.Renew f) picks = by_follower s f (λ x. renew_row x (task_of x.work)) (λ own. renewing_own own _)
ascend-keeps s (events.Pause f) picks = by_follower s f (λ x. pause_row x (task_of x.work)) (λ own. pausing own _)
ascend-keeps s (events.Resume f) picks = by_follower s f (λ x. resume_row x (task_of x.work)) (λ own. resuming own _)
ascend-keeps s (events.Restart f) picks = by_follower s f (λ x. restart_row x (task_of x.work)) (λ own. restarting own _)
ascend-keeps s (events.Unfollow f) picks = by_follower s f (λ x. unfollow_row x (task_of x.work)) (λ own. unfollowing own _)

-- ---- at every place

pub ascend-start : (start : Start) → CopiesAscend (start_state start)
ascend-start start = record { leader = new-ascend start.copies; followers = tt }

pub ascend-at : (start : Start) (entries : List Entry) → IsLegal (start_state start) entries → CopiesAscend (past_of (start_past start) entries).state
ascend-at start entries legal =
    by_entries (λ (p : Past). CopiesAscend p.state) (by_events (λ (p : Past). CopiesAscend p.state) (λ p event picks. ascend-keeps p.state event picks))
    (start_past start) entries legal (ascend-start start)
