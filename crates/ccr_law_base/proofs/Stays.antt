-- The leader's history and its stale copies change at a forced promotion, and the stale copies where a replica leaves; at no other event. What
-- the leader was made with stays at each event.
use Rattle.std.specs.Prelude.{slice_get, remove}
use Rattle.std.proofs.Common.{◌≡◌, ℕ, Bool, true, false, not, nat_lt, Option, Some, None, List, refl, ◌∙◌}
use Rattle.std.specs.Str.{bytes_eq}
use Rattle.ccr_lease.specs.declared.retention.Lease.{Lease}
use Rattle.ccr_query.specs.Queries.{Tree}
use Rattle.ccr_query.specs.declared.sorting.SortKey.{SortKey}
use Rattle.ccr_wire.specs.Message.{Frame, kind_of_content}
use Rattle.ccr_wire.specs.declared.content.Content.{Content}
use Rattle.ccr_wire.specs.declared.content.Content.TheVariants as contents
use Rattle.ccr_journal.specs.declared.params.ParamValues.{ParamValues}
use Rattle.ccr_journal.specs.declared.sides.Side.TheVariants as sides
use Rattle.ccr_journal.specs.declared.events.Event.{Event}
use Rattle.ccr_journal.specs.declared.events.Event.TheVariants as events
use Rattle.ccr_journal.specs.declared.replies.Reply.{Reply}
use Rattle.ccr_journal.specs.declared.replies.Reply.TheVariants as replies
use Rattle.ccr_journal.specs.declared.replies.Refusal.TheVariants.{NoFollower}
use Rattle.ccr_model.specs.Outcomes.{Outcome, refused, within}
use Rattle.ccr_model.specs.CopyRows.{sync_row}
use Rattle.ccr_model.specs.Copies.{Copy, Replica, copy_of, replica_of, has_lease}
use Rattle.ccr_model.specs.Leaders.{Leader, Session, KeptRequest, Poll, without_poll, stale_of}
use Rattle.ccr_model.specs.LeaderRows.{with_copies, answering_kept, leader_sync, leader_promote_row, force_promote_row, leader_fail_copy, leader_fail_copy_row, leader_clock_row, expire_row, close_sessions_row, leader_status_row}
use Rattle.ccr_model.specs.LeaderFrames.{answer_read, has_to_wait, read_row, wake_row, with_new_lease, answer_or_keep, lease_add_row, lease_renew_row, lease_remove_row, session_open_row, chunk_row, receive_row, leader_receive}
use Rattle.ccr_model.specs.Followers.{Follower}
use Rattle.ccr_model.specs.FollowerRows.{follower_receive_row}
use Rattle.ccr_model.specs.World.{State, for_follower, goes_to_leader, follower_of, at_named_follower, taken_by_receiver, deliver_row, drop_row, follow_row, search_row, same_name}
use Rattle.ccr_model.specs.Step.{step, woken}
use Rattle.ccr_law_base.proofs.Cases.{on_if, on_guards}

pub record Stays (s t : Leader) : Type 0 where
  pub history : t.history ≡ s.history
  pub stale : t.stale ≡ s.stale
  pub start : t.start ≡ s.start

pub itself_stays : (s : Leader) → Stays s s
itself_stays s = record { history = refl; stale = refl; start = refl }

-- ---- the leader's rows

answering : (s : Leader) (reply : Reply) (o : Outcome Leader) → Stays s o.next → Stays s (answering_kept reply o).next
answering s (replies.Refused why) o is = is
answering s (replies.Written wrote) o is = record { history = is.history; stale = is.stale; start = is.start }
answering s (replies.Acked global) o is = record { history = is.history; stale = is.stale; start = is.start }
answering s (replies.Promoted term filled) o is = record { history = is.history; stale = is.stale; start = is.start }
answering s (replies.Forced term filled) o is = record { history = is.history; stale = is.stale; start = is.start }
answering s (replies.Resynced gone taken) o is = record { history = is.history; stale = is.stale; start = is.start }
answering s (replies.Added copy) o is = record { history = is.history; stale = is.stale; start = is.start }
answering s (replies.Flushed commit) o is = record { history = is.history; stale = is.stale; start = is.start }
answering s (replies.Merged floor gone picks) o is = record { history = is.history; stale = is.stale; start = is.start }
answering s (replies.Expired list) o is = record { history = is.history; stale = is.stale; start = is.start }
answering s (replies.Closed sessions) o is = record { history = is.history; stale = is.stale; start = is.start }
answering s (replies.Heard heard) o is = record { history = is.history; stale = is.stale; start = is.start }
answering s (replies.Took batch) o is = record { history = is.history; stale = is.stale; start = is.start }
answering s (replies.Applied new) o is = record { history = is.history; stale = is.stale; start = is.start }
answering s (replies.Found answer) o is = record { history = is.history; stale = is.stale; start = is.start }
answering s (replies.LeaderStatus term copies leases) o is = record { history = is.history; stale = is.stale; start = is.start }
answering s (replies.FollowerStatus status) o is = record { history = is.history; stale = is.stale; start = is.start }
answering s replies.Settled o is = record { history = is.history; stale = is.stale; start = is.start }
answering s replies.Done o is = record { history = is.history; stale = is.stale; start = is.start }

syncing : (s : Leader) (copy : ℕ) → Stays s (leader_sync s copy).next
syncing s copy =
    let o : Outcome Leader = within (with_copies s) (sync_row s.copies copy (replica_of s.copies copy)) in
    answering s o.reply o (record { history = refl; stale = refl; start = refl })

promoting : (s : Leader) (copy : ℕ) (found : Option Replica) → Stays s (leader_promote_row s copy found).next
unfolding leader_promote_row
promoting s copy None = itself_stays s
promoting s copy (Some r) = record { history = refl; stale = refl; start = refl }

read_answered_stays : (s : Leader) (p : Poll) (c : Copy) (next : Leader) → Stays s next → Stays s (answer_read s p c next).next
read_answered_stays s p c next is =
    on_if (λ (o : Outcome Leader). Stays s o.next) (not (bytes_eq p.history s.history)) _ _ (λ other. is)
    (λ same. on_if (λ (o : Outcome Leader). Stays s o.next) (nat_lt p.from c.floor) _ _ (λ low. is) (λ high. is))

reading : (s : Leader) (p : Poll) (copy : ℕ) (found : Option Copy) → Stays s (read_row s p copy found).next
unfolding read_row
reading s p copy None = itself_stays s
reading s p copy (Some c) =
    on_if (λ (o : Outcome Leader). Stays s o.next) (has_to_wait s p c) _ _ (λ waits. record { history = refl; stale = refl; start = refl })
    (λ answers. read_answered_stays s p c s (itself_stays s))

waking : (s : Leader) (follower : List ℕ) (at : ℕ) (found : Option Poll) (c : Option Copy) → Stays s (wake_row s follower at found c).next
unfolding wake_row
waking s follower at None c = itself_stays s
waking s follower at (Some p) None = itself_stays s
waking s follower at (Some p) (Some c) =
    on_guards (λ (o : Outcome Leader). Stays s o.next) s _ _ (λ why. itself_stays s)
    (λ tests. read_answered_stays s p c (record s { polls = without_poll follower at s.polls }) (record { history = refl; stale = refl; start = refl }))

new_lease_stays : (s : Leader) (id : List ℕ) → Stays s (with_new_lease s id)
new_lease_stays s id =
    on_if (Stays s) (has_lease id s.copies.primary) _ _ (λ there. itself_stays s) (λ isnt. record { history = refl; stale = refl; start = refl })

kept_stays : (s t : Leader) (k : KeptRequest) (lacking : Option ℕ) → Stays s t → Stays s (answer_or_keep t k lacking).next
kept_stays s t k None is = is
kept_stays s t k (Some copy) is = record { history = is.history; stale = is.stale; start = is.start }

adding : (s : Leader) (follower : List ℕ) (request : ℕ) (id : List ℕ) (waits : Option ℕ) → Stays s (lease_add_row s follower request id waits).next
unfolding lease_add_row
adding s follower request id (Some copy) = itself_stays s
adding s follower request id None = kept_stays s (with_new_lease s id) _ _ (new_lease_stays s id)

renewing : (s : Leader) (follower : List ℕ) (request : ℕ) (id : List ℕ) (number : ℕ) (found : Option Lease) → Stays s (lease_renew_row s follower request id number found).next
unfolding lease_renew_row
renewing s follower request id number None = itself_stays s
renewing s follower request id number (Some kept) =
    on_if (λ (o : Outcome Leader). Stays s o.next) (nat_lt number kept.number) _ _ (λ low. itself_stays s) (λ high. record { history = refl; stale = refl; start = refl })

removing : (s : Leader) (follower : List ℕ) (request : ℕ) (id : List ℕ) (found : Option Lease) → Stays s (lease_remove_row s follower request id found).next
unfolding lease_remove_row
removing s follower request id None = itself_stays s
removing s follower request id (Some kept) = record { history = refl; stale = refl; start = refl }

opening_session : (s : Leader) (follower : List ℕ) (request : ℕ) (waits : Option ℕ) → Stays s (session_open_row s follower request waits).next
unfolding session_open_row
opening_session s follower request (Some copy) = itself_stays s
opening_session s follower request None = record { history = refl; stale = refl; start = refl }

sending_part : (s : Leader) (follower : List ℕ) (request session file offset size : ℕ) (found : Option Session) → Stays s (chunk_row s follower request session file offset size found).next
unfolding chunk_row
sending_part s follower request session file offset size None = itself_stays s
sending_part s follower request session file offset size (Some x) = record { history = refl; stale = refl; start = refl }

hearing : (s : Leader) (copy : ℕ) (follower : List ℕ) (request : ℕ) (content : Content) → Stays s (receive_row s copy (record { follower = follower; request = request; content = content })).next
hearing s copy follower request (contents.ReadRequest history from max_ops max_bytes timeout) = reading s _ copy _
hearing s copy follower request (contents.LeaseAdd id) = adding s follower request id _
hearing s copy follower request (contents.LeaseRenew id number) = renewing s follower request id number _
hearing s copy follower request (contents.LeaseRemove id) = removing s follower request id _
hearing s copy follower request contents.SessionOpen = opening_session s follower request _
hearing s copy follower request (contents.ChunkRequest session file offset size) = sending_part s follower request session file offset size _
hearing s copy follower request (contents.ReadReply from global ops) = itself_stays s
hearing s copy follower request (contents.ReadMissing from floor) = itself_stays s
hearing s copy follower request (contents.ReadHistory history) = itself_stays s
hearing s copy follower request (contents.LeaseAdded number) = itself_stays s
hearing s copy follower request (contents.LeaseAnswer outcome number) = itself_stays s
hearing s copy follower request (contents.SessionOpened session history count sizes) = itself_stays s
hearing s copy follower request (contents.ChunkReply session file offset bytes) = itself_stays s
hearing s copy follower request (contents.SessionGone session) = itself_stays s
hearing s copy follower request (contents.NotReady waits) = itself_stays s

receiving : (s : Leader) (copy : ℕ) (m : Frame) → Stays s (leader_receive s copy m).next
receiving s copy m = answering s (receive_row s copy m).reply (receive_row s copy m) (hearing s copy m.follower m.request m.content)

-- ---- the world's rows

pub follower_stays : (s : State) (f : ℕ) (row : Follower → Outcome Follower) (found : Option Follower) → Stays s.leader (for_follower s f row found).next.leader
follower_stays s f row None = itself_stays s.leader
follower_stays s f row (Some follower) = itself_stays s.leader

naming : (s : State) (m : Frame) (named : Option ℕ) → Stays s.leader (at_named_follower s m named).next.leader
naming s m None = itself_stays s.leader
naming s m (Some f) = follower_stays s f (λ follower. follower_receive_row follower m) (slice_get s.followers f)

taking_message : (s : State) (copy : ℕ) (m : Frame) → Stays s.leader (taken_by_receiver s copy m).next.leader
taking_message s copy m =
    on_if (λ (o : Outcome State). Stays s.leader o.next.leader) (goes_to_leader (kind_of_content m.content)) _ _
    (λ is. receiving s.leader copy m) (λ isnt. naming s m (follower_of s.followers m.follower))

delivering : (s : State) (at copy : ℕ) (keep : Bool) (m : Option Frame) (c : Option Copy) → Stays s.leader (deliver_row s at copy keep m c).next.leader
unfolding deliver_row
delivering s at copy keep None c = itself_stays s.leader
delivering s at copy keep (Some m) None = itself_stays s.leader
delivering s at copy keep (Some m) (Some c) =
    on_if (λ (t : State). Stays s.leader (taken_by_receiver t copy m).next.leader) keep s (record s { flight = remove s.flight at })
    (λ is. taking_message s copy m) (λ isnt. taking_message (record s { flight = remove s.flight at }) copy m)

dropping : (s : State) (at : ℕ) (m : Option Frame) → Stays s.leader (drop_row s at m).next.leader
unfolding drop_row
dropping s at None = itself_stays s.leader
dropping s at (Some m) = itself_stays s.leader

waking_up : (s : State) (f at : ℕ) (found : Option Follower) → Stays s.leader (woken s f at found).next.leader
waking_up s f at None = itself_stays s.leader
waking_up s f at (Some follower) = waking s.leader _ at _ _

following : (s : State) (params : ParamValues) (copies : ℕ) (name : List ℕ) (same : Option ℕ) → Stays s.leader (follow_row s params copies name same).next.leader
unfolding follow_row
following s params copies name (Some f) = itself_stays s.leader
following s params copies name None = on_guards (λ (o : Outcome State). Stays s.leader o.next.leader) s _ _ (λ why. itself_stays s.leader) (λ tests. itself_stays s.leader)

searching : (s : State) (copy : ℕ) (query : Tree) (sort : List SortKey) (c : Option Copy) → Stays s.leader (search_row s copy query sort c).next.leader
unfolding search_row
searching s copy query sort None = itself_stays s.leader
searching s copy query sort (Some c) = itself_stays s.leader

searching_at : (s : State) (f : ℕ) (row : Option Copy → Outcome State) (copy : ℕ) (found : Option Follower) → ((c : Option Copy) → Stays s.leader (row c).next.leader)
    → Stays s.leader (elim found as (λ _. Outcome State) [ None ↦ refused s (NoFollower f) | Some follower ↦ row (copy_of follower.copies copy) ]).next.leader
searching_at s f row copy None is = itself_stays s.leader
searching_at s f row copy (Some follower) is = is (copy_of follower.copies copy)

clocking : (s : Leader) (now : ℕ) → Stays s (leader_clock_row s now).next
unfolding leader_clock_row
clocking s now = record { history = refl; stale = refl; start = refl }

expiring : (s : Leader) → Stays s (expire_row s).next
unfolding expire_row
expiring s = record { history = refl; stale = refl; start = refl }

closing : (s : Leader) → Stays s (close_sessions_row s).next
unfolding close_sessions_row
closing s = record { history = refl; stale = refl; start = refl }

showing : (s : Leader) → Stays s (leader_status_row s).next
unfolding leader_status_row
showing s = itself_stays s

-- ---- each event

-- the two by which a leader's copies become stale or are promoted by force
abbrev pub may_change : Event → Bool
may_change (events.ForcePromote copy) = true
may_change (events.FailCopy sides.Leader copy) = true
may_change _ = false

pub leader_stays : (s : State) (event : Event) (picks : List ℕ) → may_change event ≡ false → Stays s.leader (step s event picks).next.leader
leader_stays s (events.ForcePromote copy) picks quiet = absurd (cc)
leader_stays s (events.FailCopy sides.Leader copy) picks quiet = absurd (cc)
leader_stays s (events.Write request) picks quiet = record { history = refl; stale = refl; start = refl }
leader_stays s (events.Replicate sides.Leader copy seq) picks quiet = record { history = refl; stale = refl; start = refl }
leader_stays s (events.Ack sides.Leader copy) picks quiet = record { history = refl; stale = refl; start = refl }
leader_stays s (events.Sync sides.Leader copy) picks quiet = syncing s.leader copy
leader_stays s (events.Promote sides.Leader copy) picks quiet = promoting s.leader copy (replica_of s.leader.copies copy)
leader_stays s (events.Resync copy) picks quiet = record { history = refl; stale = refl; start = refl }
leader_stays s (events.AddCopy sides.Leader) picks quiet = record { history = refl; stale = refl; start = refl }
leader_stays s (events.Flush sides.Leader copy) picks quiet = record { history = refl; stale = refl; start = refl }
leader_stays s (events.Merge sides.Leader copy) picks quiet = record { history = refl; stale = refl; start = refl }
leader_stays s (events.Clock sides.Leader now) picks quiet = clocking s.leader now
leader_stays s events.Expire picks quiet = expiring s.leader
leader_stays s events.CloseSessions picks quiet = closing s.leader
leader_stays s (events.Deliver at copy keep) picks quiet = delivering s at copy keep (slice_get s.flight at) (copy_of s.leader.copies copy)
leader_stays s (events.Drop at) picks quiet = dropping s at (slice_get s.flight at)
leader_stays s (events.Wake f at) picks quiet = waking_up s f at (slice_get s.followers f)
leader_stays s (events.Follow params copies name) picks quiet = following s params copies name (same_name s.followers name)
leader_stays s (events.Search sides.Leader copy request) picks quiet = searching s copy request.query request.sort (copy_of s.leader.copies copy)
leader_stays s (events.Search (sides.Follower f) copy request) picks quiet =
    searching_at s f (search_row s copy request.query request.sort) copy (slice_get s.followers f) (searching s copy request.query request.sort)
leader_stays s (events.Status sides.Leader) picks quiet = showing s.leader
leader_stays s events.Settle picks quiet =
    on_guards (λ (o : Outcome State). Stays s.leader o.next.leader) s _ _ (λ why. itself_stays s.leader) (λ tests. itself_stays s.leader)
leader_stays s (events.Replicate (sides.Follower f) copy seq) picks quiet = follower_stays s f _ (slice_get s.followers f)
leader_stays s (events.Ack (sides.Follower f) copy) picks quiet = follower_stays s f _ (slice_get s.followers f)
leader_stays s (events.Sync (sides.Follower f) copy) picks quiet = follower_stays s f _ (slice_get s.followers f)
leader_stays s (events.Promote (sides.Follower f) copy) picks quiet = follower_stays s f _ (slice_get s.followers f)
leader_stays s (events.FailCopy (sides.Follower f) copy) picks quiet = follower_stays s f _ (slice_get s.followers f)
leader_stays s (events.AddCopy (sides.Follower f)) picks quiet = follower_stays s f _ (slice_get s.followers f)
leader_stays s (events.Flush (sides.Follower f) copy) picks quiet = follower_stays s f _ (slice_get s.followers f)
leader_stays s (events.Merge (sides.Follower f) copy) picks quiet = follower_stays s f _ (slice_get s.followers f)
leader_stays s (events.Clock (sides.Follower f) now) picks quiet = follower_stays s f _ (slice_get s.followers f)
leader_stays s (events.Status (sides.Follower f)) picks quiet = follower_stays s f _ (slice_get s.followers f)
leader_stays s (events.Tick f) picks quiet = follower_stays s f _ (slice_get s.followers f)
leader_stays s (events.Lose f at) picks quiet = follower_stays s f _ (slice_get s.followers f)
leader_stays s (events.LoseWrite f write) picks quiet = follower_stays s f _ (slice_get s.followers f)
leader_stays s (events.Take f write) picks quiet = follower_stays s f _ (slice_get s.followers f)
leader_stays s (events.Apply f epoch write batch) picks quiet = follower_stays s f _ (slice_get s.followers f)
leader_stays s (events.Written f write) picks quiet = follower_stays s f _ (slice_get s.followers f)
leader_stays s (events.Renew f) picks quiet = follower_stays s f _ (slice_get s.followers f)
leader_stays s (events.Pause f) picks quiet = follower_stays s f _ (slice_get s.followers f)
leader_stays s (events.Resume f) picks quiet = follower_stays s f _ (slice_get s.followers f)
leader_stays s (events.Restart f) picks quiet = follower_stays s f _ (slice_get s.followers f)
leader_stays s (events.Unfollow f) picks quiet = follower_stays s f _ (slice_get s.followers f)

-- ---- the history

-- the event begins no history
abbrev pub begins_none : Event → Bool
begins_none (events.ForcePromote copy) = false
begins_none _ = true

failing : (s : Leader) (copy : ℕ) (found : Option Replica) → (leader_fail_copy_row s copy found).next.history ≡ s.history
unfolding leader_fail_copy_row
failing s copy None = refl
failing s copy (Some r) = refl

failing_copy : (s : Leader) (copy : ℕ) → (leader_fail_copy s copy).next.history ≡ s.history
failing_copy s copy =
    let o : Outcome Leader = leader_fail_copy_row s copy (replica_of s.copies copy) in
    let answered : Stays o.next (answering_kept o.reply o).next = answering o.next o.reply o (itself_stays o.next) in
    answered.history ∙ failing s copy (replica_of s.copies copy)

-- the leader's history stays at each event that begins none
pub history_stays : (s : State) (event : Event) (picks : List ℕ) → begins_none event ≡ true → (step s event picks).next.leader.history ≡ s.leader.history
history_stays s (events.ForcePromote copy) picks none = absurd (cc)
history_stays s (events.FailCopy sides.Leader copy) picks none = failing_copy s.leader copy
history_stays s (events.Write request) picks none = (leader_stays s (events.Write request) picks refl).history
history_stays s (events.Replicate sides.Leader copy seq) picks none = (leader_stays s (events.Replicate sides.Leader copy seq) picks refl).history
history_stays s (events.Ack sides.Leader copy) picks none = (leader_stays s (events.Ack sides.Leader copy) picks refl).history
history_stays s (events.Sync sides.Leader copy) picks none = (leader_stays s (events.Sync sides.Leader copy) picks refl).history
history_stays s (events.Promote sides.Leader copy) picks none = (leader_stays s (events.Promote sides.Leader copy) picks refl).history
history_stays s (events.Resync copy) picks none = (leader_stays s (events.Resync copy) picks refl).history
history_stays s (events.AddCopy sides.Leader) picks none = (leader_stays s (events.AddCopy sides.Leader) picks refl).history
history_stays s (events.Flush sides.Leader copy) picks none = (leader_stays s (events.Flush sides.Leader copy) picks refl).history
history_stays s (events.Merge sides.Leader copy) picks none = (leader_stays s (events.Merge sides.Leader copy) picks refl).history
history_stays s (events.Clock sides.Leader now) picks none = (leader_stays s (events.Clock sides.Leader now) picks refl).history
history_stays s events.Expire picks none = (leader_stays s events.Expire picks refl).history
history_stays s events.CloseSessions picks none = (leader_stays s events.CloseSessions picks refl).history
history_stays s (events.Deliver at copy keep) picks none = (leader_stays s (events.Deliver at copy keep) picks refl).history
history_stays s (events.Drop at) picks none = (leader_stays s (events.Drop at) picks refl).history
history_stays s (events.Wake f at) picks none = (leader_stays s (events.Wake f at) picks refl).history
history_stays s (events.Follow params copies name) picks none = (leader_stays s (events.Follow params copies name) picks refl).history
history_stays s (events.Search sides.Leader copy request) picks none = (leader_stays s (events.Search sides.Leader copy request) picks refl).history
history_stays s (events.Search (sides.Follower f) copy request) picks none = (leader_stays s (events.Search (sides.Follower f) copy request) picks refl).history
history_stays s (events.Status sides.Leader) picks none = (leader_stays s (events.Status sides.Leader) picks refl).history
history_stays s events.Settle picks none = (leader_stays s events.Settle picks refl).history
history_stays s (events.Replicate (sides.Follower f) copy seq) picks none = (leader_stays s (events.Replicate (sides.Follower f) copy seq) picks refl).history
history_stays s (events.Ack (sides.Follower f) copy) picks none = (leader_stays s (events.Ack (sides.Follower f) copy) picks refl).history
history_stays s (events.Sync (sides.Follower f) copy) picks none = (leader_stays s (events.Sync (sides.Follower f) copy) picks refl).history
history_stays s (events.Promote (sides.Follower f) copy) picks none = (leader_stays s (events.Promote (sides.Follower f) copy) picks refl).history
history_stays s (events.FailCopy (sides.Follower f) copy) picks none = (leader_stays s (events.FailCopy (sides.Follower f) copy) picks refl).history
history_stays s (events.AddCopy (sides.Follower f)) picks none = (leader_stays s (events.AddCopy (sides.Follower f)) picks refl).history
history_stays s (events.Flush (sides.Follower f) copy) picks none = (leader_stays s (events.Flush (sides.Follower f) copy) picks refl).history
history_stays s (events.Merge (sides.Follower f) copy) picks none = (leader_stays s (events.Merge (sides.Follower f) copy) picks refl).history
history_stays s (events.Clock (sides.Follower f) now) picks none = (leader_stays s (events.Clock (sides.Follower f) now) picks refl).history
history_stays s (events.Status (sides.Follower f)) picks none = (leader_stays s (events.Status (sides.Follower f)) picks refl).history
history_stays s (events.Tick f) picks none = (leader_stays s (events.Tick f) picks refl).history
history_stays s (events.Lose f at) picks none = (leader_stays s (events.Lose f at) picks refl).history
history_stays s (events.LoseWrite f write) picks none = (leader_stays s (events.LoseWrite f write) picks refl).history
history_stays s (events.Take f write) picks none = (leader_stays s (events.Take f write) picks refl).history
history_stays s (events.Apply f epoch write batch) picks none = (leader_stays s (events.Apply f epoch write batch) picks refl).history
history_stays s (events.Written f write) picks none = (leader_stays s (events.Written f write) picks refl).history
history_stays s (events.Renew f) picks none = (leader_stays s (events.Renew f) picks refl).history
history_stays s (events.Pause f) picks none = (leader_stays s (events.Pause f) picks refl).history
history_stays s (events.Resume f) picks none = (leader_stays s (events.Resume f) picks refl).history
history_stays s (events.Restart f) picks none = (leader_stays s (events.Restart f) picks refl).history
history_stays s (events.Unfollow f) picks none = (leader_stays s (events.Unfollow f) picks refl).history

-- ---- what the leader was made with

fail_keeps_start : (s : Leader) (copy : ℕ) (found : Option Replica) → (leader_fail_copy_row s copy found).next.start ≡ s.start
unfolding leader_fail_copy_row
fail_keeps_start s copy None = refl
fail_keeps_start s copy (Some r) = refl

force_keeps_start : (s : Leader) (copy : ℕ) (found : Option Copy) → (force_promote_row s copy found).next.start ≡ s.start
unfolding force_promote_row
force_keeps_start s copy None = refl
force_keeps_start s copy (Some c) = refl

changing_start : (s : State) (event : Event) (picks : List ℕ) → may_change event ≡ true → (step s event picks).next.leader.start ≡ s.leader.start
changing_start s (events.ForcePromote copy) picks may = force_keeps_start s.leader copy (stale_of s.leader.stale copy)
changing_start s (events.FailCopy sides.Leader copy) picks may =
    let o : Outcome Leader = leader_fail_copy_row s.leader copy (replica_of s.leader.copies copy) in
    let answered : Stays o.next (answering_kept o.reply o).next = answering o.next o.reply o (itself_stays o.next) in
    answered.start ∙ fail_keeps_start s.leader copy (replica_of s.leader.copies copy)
changing_start s _ picks may = absurd (cc)

pub start_stays : (s : State) (event : Event) (picks : List ℕ) → (step s event picks).next.leader.start ≡ s.leader.start
start_stays s event picks =
    (elim (may_change event) as (λ b. may_change event ≡ b → (step s event picks).next.leader.start ≡ s.leader.start) [
      | true ↦ λ may. changing_start s event picks may
      | false ↦ λ quiet. (leader_stays s event picks quiet).start
    ]) refl
