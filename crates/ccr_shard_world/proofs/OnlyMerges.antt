-- Only a merge is answered as one.
use Rattle.std.specs.Prelude.{slice_get, remove}
use Rattle.std.specs.List.{list_any}
use Rattle.std.proofs.Common.{◌≡◌, ℕ, ◌==◌, Bool, true, false, nat_lt, if◌then◌else◌, Option, Some, None, List, refl}
use Rattle.ccr_op.specs.Operation.{Operation}
use Rattle.ccr_doc.specs.declared.sources.BadSource.{BadSource as SourceFault}
use Rattle.ccr_lease.specs.declared.retention.Lease.{Lease}
use Rattle.ccr_query.specs.Queries.{Tree}
use Rattle.ccr_query.specs.declared.sorting.SortKey.{SortKey}
use Rattle.ccr_wire.specs.Message.{Frame, kind_of_content}
use Rattle.ccr_wire.specs.declared.content.Content.{Content}
use Rattle.ccr_wire.specs.declared.content.Content.TheVariants as contents
use Rattle.ccr_journal.specs.declared.params.ParamValues.{ParamValues}
use Rattle.ccr_journal.specs.declared.requests.WriteRequest.{WriteRequest}
use Rattle.ccr_journal.specs.declared.sides.Side.TheVariants as sides
use Rattle.ccr_journal.specs.declared.events.Event.{Event}
use Rattle.ccr_journal.specs.declared.events.Event.TheVariants as events
use Rattle.ccr_journal.specs.declared.replies.Reply.{Reply}
use Rattle.ccr_journal.specs.declared.replies.Reply.TheVariants as replies
use Rattle.ccr_journal.specs.declared.replies.Refusal.TheVariants.{NoFollower}
use Rattle.ccr_model.specs.Outcomes.{Outcome, refused, within}
use Rattle.ccr_model.specs.Copies.{Copy, Copies, Replica, copy_of, replica_of}
use Rattle.ccr_model.specs.CopyRows.{replicate_row, ack_row, sync_row, fail_copy_row, add_copy_row, flush_row, follower_promote_row}
use Rattle.ccr_model.specs.Leaders.{Leader, Session, KeptRequest, Poll, without_poll}
use Rattle.ccr_model.specs.LeaderRows.{with_copies, answering_kept, write_row, leader_promote_row, force_promote_row, resync_row, leader_fail_copy_row, leader_clock_row, expire_row, close_sessions_row, leader_status_row}
use Rattle.ccr_model.specs.LeaderFrames.{answer_read, has_to_wait, read_row, wake_row, with_new_lease, answer_or_keep, lease_add_row, lease_renew_row, lease_remove_row, session_open_row, chunk_row, receive_row, leader_receive}
use Rattle.ccr_model.specs.Requests.{Sending}
use Rattle.ccr_model.specs.Restores.{Restore, Stage, leasing, opening, fetching, is_complete, ends_restore, restore_hears, sent_requests}
use Rattle.ccr_model.specs.Tasks.{Task, Read, read_sent, sent_reads}
use Rattle.ccr_model.specs.Followers.{Follower, Work, restoring, replicating, uuid_of}
use Rattle.ccr_model.specs.FollowerRows.{Sent, restore_done, restore_heard, hear_read, task_heard, work_hears, follower_receive_row, task_lost, bootstrap_lost, lose_row, tick_row, follower_clock_row, lose_write_row, take_row, apply_row, write_done, written_row, renew_row, pause_row, resume_row, restart_row, unfollow_row, follower_add_copy_row, follower_status_row}
use Rattle.ccr_model.specs.World.{State, for_follower, goes_to_leader, follower_of, at_named_follower, taken_by_receiver, deliver_row, drop_row, follow_row, search_row}
use Rattle.ccr_model.specs.Step.{step, woken}
use Rattle.ccr_shard_world.specs.Fates.{is_merge}
use Rattle.ccr_law_base.proofs.Cases.{on_if, on_guards, read_answered}

-- the reply is one of a merge
abbrev pub is_merged : Reply → Bool
is_merged (replies.Merged floor dropped picks) = true
is_merged _ = false

abbrev IsOther : {S : Type 0} → Outcome S → Type 0
IsOther o = is_merged o.reply ≡ false

-- ---- the copies' rows

replicating_copy : (s : Copies) (copy seq : ℕ) (found : Option Replica) → IsOther (replicate_row s copy seq found)
unfolding replicate_row
replicating_copy s copy seq None = refl
replicating_copy s copy seq (Some r) = on_guards IsOther s _ _ (λ why. refl) (λ tests. refl)

acking : (s : Copies) (copy : ℕ) (found : Option Replica) → IsOther (ack_row s copy found)
unfolding ack_row
acking s copy None = refl
acking s copy (Some r) = on_guards IsOther s _ _ (λ why. refl) (λ tests. refl)

syncing : (s : Copies) (copy : ℕ) (found : Option Replica) → IsOther (sync_row s copy found)
unfolding sync_row
syncing s copy None = refl
syncing s copy (Some r) = on_guards IsOther s _ _ (λ why. refl) (λ tests. refl)

failing_copy : (s : Copies) (copy : ℕ) (found : Option Replica) → IsOther (fail_copy_row s copy found)
unfolding fail_copy_row
failing_copy s copy None = refl
failing_copy s copy (Some r) = refl

adding_copy : (s : Copies) → IsOther (add_copy_row s)
unfolding add_copy_row
adding_copy s = on_guards IsOther s _ _ (λ why. refl) (λ tests. refl)

flushing : (s : Copies) (copy : ℕ) (found : Option Copy) → IsOther (flush_row s copy found)
unfolding flush_row
flushing s copy None = refl
flushing s copy (Some c) = refl

writing : (s : Copies) (request : WriteRequest) (fault : Option SourceFault) (found : Option Operation) → IsOther (write_row s request fault found)
unfolding write_row
writing s request (Some fault) found = refl
writing s request None found = on_guards IsOther s _ _ (λ why. refl) (λ tests. refl)

resyncing : (s : Copies) (copy : ℕ) (found : Option Replica) → IsOther (resync_row s copy found)
unfolding resync_row
resyncing s copy None = refl
resyncing s copy (Some r) = on_if IsOther r.resynced _ _ (λ was. refl) (λ wasnt. refl)

promoting_own : (s : Copies) (copy : ℕ) (found : Option Replica) → IsOther (follower_promote_row s copy found)
unfolding follower_promote_row
promoting_own s copy None = refl
promoting_own s copy (Some r) = refl

-- ---- the leader's rows

-- the answers to kept requests leave the reply
answering : (reply : Reply) (o : Outcome Leader) → IsOther o → IsOther (answering_kept reply o)
answering (replies.Refused why) o other = other
answering _ o other = other

promoting : (s : Leader) (copy : ℕ) (found : Option Replica) → IsOther (leader_promote_row s copy found)
unfolding leader_promote_row
promoting s copy None = refl
promoting s copy (Some r) = refl

forcing : (s : Leader) (copy : ℕ) (found : Option Copy) → IsOther (force_promote_row s copy found)
unfolding force_promote_row
forcing s copy None = refl
forcing s copy (Some c) = refl

failing : (s : Leader) (copy : ℕ) (found : Option Replica) → IsOther (leader_fail_copy_row s copy found)
unfolding leader_fail_copy_row
failing s copy None = failing_copy s.copies copy None
failing s copy (Some r) = failing_copy s.copies copy (Some r)

clocking : (s : Leader) (now : ℕ) → IsOther (leader_clock_row s now)
unfolding leader_clock_row
clocking s now = refl

expiring : (s : Leader) → IsOther (expire_row s)
unfolding expire_row
expiring s = refl

closing : (s : Leader) → IsOther (close_sessions_row s)
unfolding close_sessions_row
closing s = refl

showing : (s : Leader) → IsOther (leader_status_row s)
unfolding leader_status_row
showing s = refl

-- ---- what the leader hears

read_is_answered : (s : Leader) (p : Poll) (c : Copy) (next : Leader) → IsOther (answer_read s p c next)
read_is_answered s p c next = read_answered IsOther s p c next (λ what sent. refl)

reading : (s : Leader) (p : Poll) (copy : ℕ) (found : Option Copy) → IsOther (read_row s p copy found)
unfolding read_row
reading s p copy None = refl
reading s p copy (Some own) = on_if IsOther (has_to_wait s p own) _ _ (λ waits. refl) (λ answers. read_is_answered s p own s)

waking : (s : Leader) (follower : List ℕ) (at : ℕ) (found : Option Poll) (c : Option Copy) → IsOther (wake_row s follower at found c)
unfolding wake_row
waking s follower at None c = refl
waking s follower at (Some p) None = refl
waking s follower at (Some p) (Some c) =
    on_guards IsOther s _ _ (λ why. refl) (λ tests. read_is_answered s p c (record s { polls = without_poll follower at s.polls }))

keeping : (s : Leader) (k : KeptRequest) (lacking : Option ℕ) → IsOther (answer_or_keep s k lacking)
keeping s k None = refl
keeping s k (Some copy) = refl

adding : (s : Leader) (follower : List ℕ) (request : ℕ) (id : List ℕ) (waits : Option ℕ) → IsOther (lease_add_row s follower request id waits)
unfolding lease_add_row
adding s follower request id (Some copy) = refl
adding s follower request id None = keeping (with_new_lease s id) _ _

renewing : (s : Leader) (follower : List ℕ) (request : ℕ) (id : List ℕ) (number : ℕ) (found : Option Lease) → IsOther (lease_renew_row s follower request id number found)
unfolding lease_renew_row
renewing s follower request id number None = refl
renewing s follower request id number (Some kept) = on_if IsOther (nat_lt number kept.number) _ _ (λ low. refl) (λ high. refl)

removing : (s : Leader) (follower : List ℕ) (request : ℕ) (id : List ℕ) (found : Option Lease) → IsOther (lease_remove_row s follower request id found)
unfolding lease_remove_row
removing s follower request id None = refl
removing s follower request id (Some kept) = refl

opening_session : (s : Leader) (follower : List ℕ) (request : ℕ) (waits : Option ℕ) → IsOther (session_open_row s follower request waits)
unfolding session_open_row
opening_session s follower request (Some copy) = refl
opening_session s follower request None = refl

sending_part : (s : Leader) (follower : List ℕ) (request session file offset size : ℕ) (found : Option Session) → IsOther (chunk_row s follower request session file offset size found)
unfolding chunk_row
sending_part s follower request session file offset size None = refl
sending_part s follower request session file offset size (Some x) = refl

hearing : (s : Leader) (copy : ℕ) (follower : List ℕ) (request : ℕ) (content : Content) → IsOther (receive_row s copy (record { follower = follower; request = request; content = content }))
hearing s copy follower request (contents.ReadRequest history from max_ops max_bytes timeout) = reading s _ copy (copy_of s.copies copy)
hearing s copy follower request (contents.LeaseAdd id) = adding s follower request id _
hearing s copy follower request (contents.LeaseRenew id number) = renewing s follower request id number _
hearing s copy follower request (contents.LeaseRemove id) = removing s follower request id _
hearing s copy follower request contents.SessionOpen = opening_session s follower request _
hearing s copy follower request (contents.ChunkRequest session file offset size) = sending_part s follower request session file offset size _
hearing s copy follower request _ = refl

receiving : (s : Leader) (copy : ℕ) (m : Frame) → IsOther (leader_receive s copy m)
receiving s copy m = answering (receive_row s copy m).reply (receive_row s copy m) (hearing s copy m.follower m.request m.content)

-- ---- what a follower hears

restore-done : (s : Follower) (done : Sending Restore) → IsOther (restore_done s done)
restore-done s done =
    elim done.next.stage as (λ (stage : Stage). IsOther (restore_done s (record done { next = record done.next { stage = stage } }))) [
      | leasing a ↦ refl
      | opening a ↦ refl
      | fetching f ↦ on_if IsOther (is_complete done.next.chunk_size f) _ _ (λ whole. refl) (λ part. refl)
    ]

restore-heard : (s : Follower) (done : Option (Sending Restore)) → IsOther (restore_heard s done)
restore-heard s None = refl
restore-heard s (Some done) = restore-done s done

read-heard : (s : Follower) (t : Task) (r : Read) (content : Content) → IsOther (hear_read s t r content)
read-heard s t r (contents.ReadReply from global ops) = refl
read-heard s t r (contents.ReadMissing from floor) = refl
read-heard s t r (contents.ReadHistory history) = refl
read-heard s t r _ = refl

task-heard : (s : Follower) (t : Task) (content : Content) (found : Option Read) → IsOther (task_heard s t content found)
task-heard s t content None = refl
task-heard s t content (Some r) = read-heard s t r content

work-heard : (s : Follower) (work : Work) (m : Frame) → IsOther (work_hears (record s { work = work }) m)
work-heard s (restoring r) m = on_if IsOther (ends_restore r m) _ _ (λ ends. refl) (λ goes_on. restore-heard (record s { work = restoring r }) (restore_hears r s.now m))
work-heard s (replicating t) m = task-heard (record s { work = replicating t }) t m.content (read_sent t m.request)

follower-heard : (s : Follower) (m : Frame) → IsOther (follower_receive_row s m)
unfolding follower_receive_row
follower-heard s m = on_if IsOther (list_any (λ n. n == m.request) s.lease_requests) _ _ (λ own. refl) (λ other. work-heard s s.work m)

-- ---- a follower's other rows

losing : (s : Follower) (work : Work) (at : ℕ) → IsOther (lose_row (record s { work = work }) at)
unfolding lose_row
losing s (restoring r) at = lost (slice_get (sent_requests r.stage) at)
  where
    lost : (found : Option ℕ) → IsOther (bootstrap_lost (record s { work = restoring r }) r at found)
    lost None = refl
    lost (Some request) = refl
losing s (replicating t) at = lost (slice_get (sent_reads t) at)
  where
    lost : (found : Option Read) → IsOther (task_lost (record s { work = replicating t }) t at found)
    lost None = refl
    lost (Some r) = refl

ticking : (s : Follower) (work : Work) → IsOther (tick_row (record s { work = work }))
unfolding tick_row
ticking s (restoring r) = refl
ticking s (replicating t) = refl

setting_clock : (s : Follower) (now : ℕ) → IsOther (follower_clock_row s now)
unfolding follower_clock_row
setting_clock s now = refl

losing_write : (s : Follower) (number : ℕ) (found : Option Sent) → IsOther (lose_write_row s number found)
unfolding lose_write_row
losing_write s number None = refl
losing_write s number (Some w) = refl

taking : (s : Follower) (number : ℕ) (found : Option Sent) → IsOther (take_row s number found)
unfolding take_row
taking s number None = refl
taking s number (Some w) = refl

applying : (s : Follower) (epoch number : ℕ) (batch : List Operation) (found : Option Sent) → IsOther (apply_row s epoch number batch found)
unfolding apply_row
applying s epoch number batch found = on_guards IsOther s _ _ (λ why. refl) (λ tests. refl)

ending : (s : Follower) (w : Sent) (lacking : Option ℕ) → IsOther (write_done s w lacking)
ending s w (Some copy) = refl
ending s w None = refl

having_written : (s : Follower) (number : ℕ) (found : Option Sent) → IsOther (written_row s number found)
unfolding written_row
having_written s number None = refl
having_written s number (Some w) = ending s w _

renewing_own : (s : Follower) (found : Option Task) → IsOther (renew_row s found)
unfolding renew_row
renewing_own s None = refl
renewing_own s (Some t) = on_guards IsOther s _ _ (λ why. refl) (λ tests. refl)

pausing : (s : Follower) (found : Option Task) → IsOther (pause_row s found)
unfolding pause_row
pausing s None = refl
pausing s (Some t) = refl

resuming : (s : Follower) (found : Option Task) → IsOther (resume_row s found)
unfolding resume_row
resuming s None = refl
resuming s (Some t) = on_guards IsOther s _ _ (λ why. refl) (λ tests. refl)

restarting : (s : Follower) (found : Option Task) → IsOther (restart_row s found)
unfolding restart_row
restarting s None = refl
restarting s (Some t) = on_guards IsOther s _ _ (λ why. refl) (λ tests. refl)

unfollowing : (s : Follower) (found : Option Task) → IsOther (unfollow_row s found)
unfolding unfollow_row
unfollowing s None = refl
unfollowing s (Some t) = on_guards IsOther s _ _ (λ why. refl) (λ tests. refl)

adding_own_copy : (s : Follower) → IsOther (follower_add_copy_row s)
unfolding follower_add_copy_row
adding_own_copy s = on_guards IsOther s _ _ (λ why. refl) (λ tests. adding_copy s.copies)

showing_own : (s : Follower) → IsOther (follower_status_row s)
unfolding follower_status_row
showing_own s = refl

-- ---- the world's rows

by_follower : (s : State) (f : ℕ) (row : Follower → Outcome Follower) (found : Option Follower) → ((own : Follower) → IsOther (row own)) → IsOther (for_follower s f row found)
by_follower s f row None other = refl
by_follower s f row (Some own) other = other own

naming : (s : State) (m : Frame) (named : Option ℕ) → IsOther (at_named_follower s m named)
naming s m None = refl
naming s m (Some f) = by_follower s f (λ follower. follower_receive_row follower m) (slice_get s.followers f) (λ own. follower-heard own m)

taking_message : (s : State) (copy : ℕ) (m : Frame) → IsOther (taken_by_receiver s copy m)
taking_message s copy m =
    on_if IsOther (goes_to_leader (kind_of_content m.content)) _ _ (λ is. receiving s.leader copy m) (λ isnt. naming s m (follower_of s.followers m.follower))

delivering : (s : State) (at copy : ℕ) (keep : Bool) (m : Option Frame) (c : Option Copy) → IsOther (deliver_row s at copy keep m c)
unfolding deliver_row
delivering s at copy keep None c = refl
delivering s at copy keep (Some m) None = refl
delivering s at copy keep (Some m) (Some c) = taking_message (if keep then s else record s { flight = remove s.flight at }) copy m

dropping : (s : State) (at : ℕ) (m : Option Frame) → IsOther (drop_row s at m)
unfolding drop_row
dropping s at None = refl
dropping s at (Some m) = refl

waking_up : (s : State) (f at : ℕ) (found : Option Follower) → IsOther (woken s f at found)
waking_up s f at None = refl
waking_up s f at (Some follower) = waking s.leader (uuid_of f) at _ _

following : (s : State) (params : ParamValues) (copies : ℕ) (name : List ℕ) (same : Option ℕ) → IsOther (follow_row s params copies name same)
unfolding follow_row
following s params copies name (Some f) = refl
following s params copies name None = on_guards IsOther s _ _ (λ why. refl) (λ tests. refl)

searching : (s : State) (copy : ℕ) (query : Tree) (sort : List SortKey) (c : Option Copy) → IsOther (search_row s copy query sort c)
unfolding search_row
searching s copy query sort None = refl
searching s copy query sort (Some c) = refl

searching_at : (s : State) (f : ℕ) (row : Option Copy → Outcome State) (copy : ℕ) (found : Option Follower) → ((c : Option Copy) → IsOther (row c))
    → IsOther (elim found as (λ _. Outcome State) [ None ↦ refused s (NoFollower f) | Some follower ↦ row (copy_of follower.copies copy) ])
searching_at s f row copy None other = refl
searching_at s f row copy (Some follower) other = other (copy_of follower.copies copy)

-- ---- each event

pub merges_alone : (s : State) (event : Event) (picks : List ℕ) → is_merge event ≡ false → is_merged (step s event picks).reply ≡ false
merges_alone s (events.Write request) picks isnt = writing s.leader.copies request _ _
merges_alone s (events.Replicate sides.Leader copy seq) picks isnt = replicating_copy s.leader.copies copy seq _
merges_alone s (events.Replicate (sides.Follower f) copy seq) picks isnt = by_follower s f _ _ (λ own. replicating_copy own.copies copy seq _)
merges_alone s (events.Ack sides.Leader copy) picks isnt = acking s.leader.copies copy _
merges_alone s (events.Ack (sides.Follower f) copy) picks isnt = by_follower s f _ _ (λ own. acking own.copies copy _)
merges_alone s (events.Sync sides.Leader copy) picks isnt =
    let o : Outcome Leader = within (with_copies s.leader) (sync_row s.leader.copies copy (replica_of s.leader.copies copy)) in answering o.reply o (syncing s.leader.copies copy _)
merges_alone s (events.Sync (sides.Follower f) copy) picks isnt = by_follower s f _ _ (λ own. syncing own.copies copy _)
merges_alone s (events.Promote sides.Leader copy) picks isnt = promoting s.leader copy _
merges_alone s (events.Promote (sides.Follower f) copy) picks isnt = by_follower s f _ _ (λ own. promoting_own own.copies copy _)
merges_alone s (events.ForcePromote copy) picks isnt = forcing s.leader copy _
merges_alone s (events.Resync copy) picks isnt = resyncing s.leader.copies copy _
merges_alone s (events.FailCopy sides.Leader copy) picks isnt =
    let o : Outcome Leader = leader_fail_copy_row s.leader copy (replica_of s.leader.copies copy) in answering o.reply o (failing s.leader copy _)
merges_alone s (events.FailCopy (sides.Follower f) copy) picks isnt = by_follower s f _ _ (λ own. failing_copy own.copies copy _)
merges_alone s (events.AddCopy sides.Leader) picks isnt = adding_copy s.leader.copies
merges_alone s (events.AddCopy (sides.Follower f)) picks isnt = by_follower s f _ _ adding_own_copy
merges_alone s (events.Flush sides.Leader copy) picks isnt = flushing s.leader.copies copy _
merges_alone s (events.Flush (sides.Follower f) copy) picks isnt = by_follower s f _ _ (λ own. flushing own.copies copy _)
merges_alone s (events.Merge side copy) picks isnt = absurd cc
merges_alone s (events.Clock sides.Leader now) picks isnt = clocking s.leader now
merges_alone s (events.Clock (sides.Follower f) now) picks isnt = by_follower s f _ _ (λ own. setting_clock own now)
merges_alone s events.Expire picks isnt = expiring s.leader
merges_alone s events.CloseSessions picks isnt = closing s.leader
merges_alone s (events.Tick f) picks isnt = by_follower s f _ _ (λ own. ticking own own.work)
merges_alone s (events.Deliver at copy keep) picks isnt = delivering s at copy keep _ _
merges_alone s (events.Drop at) picks isnt = dropping s at _
merges_alone s (events.Wake f at) picks isnt = waking_up s f at _
merges_alone s (events.Lose f at) picks isnt = by_follower s f _ _ (λ own. losing own own.work at)
merges_alone s (events.LoseWrite f write) picks isnt = by_follower s f _ _ (λ own. losing_write own write _)
merges_alone s (events.Take f write) picks isnt = by_follower s f _ _ (λ own. taking own write _)
merges_alone s (events.Apply f epoch write batch) picks isnt = by_follower s f _ _ (λ own. applying own epoch write batch _)
merges_alone s (events.Written f write) picks isnt = by_follower s f _ _ (λ own. having_written own write _)
merges_alone s (events.Renew f) picks isnt = by_follower s f _ _ (λ own. renewing_own own _)
merges_alone s (events.Follow params copies name) picks isnt = following s params copies name _
merges_alone s (events.Pause f) picks isnt = by_follower s f _ _ (λ own. pausing own _)
merges_alone s (events.Resume f) picks isnt = by_follower s f _ _ (λ own. resuming own _)
merges_alone s (events.Restart f) picks isnt = by_follower s f _ _ (λ own. restarting own _)
merges_alone s (events.Unfollow f) picks isnt = by_follower s f _ _ (λ own. unfollowing own _)
merges_alone s (events.Search sides.Leader copy request) picks isnt = searching s copy request.query request.sort _
merges_alone s (events.Search (sides.Follower f) copy request) picks isnt = searching_at s f (search_row s copy request.query request.sort) copy _ (λ c. searching s copy request.query request.sort c)
merges_alone s (events.Status sides.Leader) picks isnt = showing s.leader
merges_alone s (events.Status (sides.Follower f)) picks isnt = by_follower s f _ _ showing_own
merges_alone s events.Settle picks isnt = on_guards IsOther s _ _ (λ why. refl) (λ tests. refl)
