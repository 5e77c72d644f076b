-- What each event does to the leader's sessions.
use Rattle.std.specs.Prelude.{slice_get, remove, not, nat_lt, ◌==◌}
use Rattle.std.specs.List.{AllByRecursion}
use Rattle.std.proofs.Common.{ℕ, Bool, Option, Some, None, List, [], ◌∷◌, refl, inl, inr}
use Rattle.ccr_wire.specs.Message.{Frame, kind_of_content}
use Rattle.ccr_wire.specs.declared.content.Content.{Content}
use Rattle.ccr_wire.specs.declared.content.Content.TheVariants as contents
use Rattle.ccr_lease.specs.declared.retention.Lease.{Lease}
use Rattle.ccr_query.specs.Queries.{Tree}
use Rattle.ccr_query.specs.declared.sorting.SortKey.{SortKey}
use Rattle.ccr_journal.specs.declared.params.ParamValues.{ParamValues}
use Rattle.ccr_journal.specs.declared.sides.Side.TheVariants as sides
use Rattle.ccr_journal.specs.declared.events.Event.{Event}
use Rattle.ccr_journal.specs.declared.events.Event.TheVariants as events
use Rattle.ccr_journal.specs.declared.replies.Reply.{Reply}
use Rattle.ccr_journal.specs.declared.replies.Reply.TheVariants as replies
use Rattle.ccr_journal.specs.declared.replies.Refusal.TheVariants.{NoFollower}
use Rattle.ccr_model.specs.Outcomes.{Outcome, refused}
use Rattle.ccr_model.specs.Copies.{Copy, Replica, replica_of, copy_of, has_lease}
use Rattle.ccr_model.specs.Leaders.{Leader, Session, KeptRequest, Poll, without_poll, stale_of}
use Rattle.ccr_model.specs.LeaderRows.{answering_kept, leader_promote_row, force_promote_row, leader_fail_copy_row, leader_clock_row, expire_row, is_idle, close_sessions_row, leader_status_row}
use Rattle.ccr_model.specs.LeaderFrames.{has_to_wait, read_row, wake_row, with_new_lease, answer_or_keep, lease_add_row, lease_renew_row, lease_remove_row, session_open_row, active_at, chunk_row, receive_row, leader_receive}
use Rattle.ccr_model.specs.Followers.{Follower}
use Rattle.ccr_model.specs.FollowerRows.{follower_receive_row}
use Rattle.ccr_model.specs.World.{State, for_follower, goes_to_leader, follower_of, at_named_follower, taken_by_receiver, deliver_row, drop_row, follow_row, same_name, search_row}
use Rattle.ccr_model.specs.Step.{step, woken}
use Rattle.ccr_law_messages.specs.TrueFrames.{IsOpen}
use Rattle.ccr_law_messages.proofs.Openings.{SessionsGoTo, stay-open}
use Rattle.ccr_law_base.proofs.Lists.{All-filter}
use Rattle.ccr_law_copies.proofs.LeaderQuiet.{answer_keeps}
use Rattle.ccr_law_base.proofs.Cases.{on_if, on_guards}

abbrev pub GoesSessions : Leader → Outcome Leader → Type 0
GoesSessions l o = SessionsGoTo l o.next

-- ---- the rows

promote-sessions : (l : Leader) (copy : ℕ) (found : Option Replica) → GoesSessions l (leader_promote_row l copy found)
unfolding leader_promote_row
promote-sessions l copy None = stay-open l
promote-sessions l copy (Some r) = record { same_start = refl; go = inl (record { same_next = refl; keeps = λ opened all. tt }) }

force-sessions : (l : Leader) (copy : ℕ) (found : Option Copy) → GoesSessions l (force_promote_row l copy found)
unfolding force_promote_row
force-sessions l copy None = stay-open l
force-sessions l copy (Some c) = record { same_start = refl; go = inl (record { same_next = refl; keeps = λ opened all. tt }) }

fail_copy-sessions : (l : Leader) (copy : ℕ) (found : Option Replica) → GoesSessions l (leader_fail_copy_row l copy found)
unfolding leader_fail_copy_row
fail_copy-sessions l copy None = stay-open l
fail_copy-sessions l copy (Some r) = stay-open l

clock-sessions : (l : Leader) (now : ℕ) → GoesSessions l (leader_clock_row l now)
unfolding leader_clock_row
clock-sessions l now = stay-open l

expire-sessions : (l : Leader) → GoesSessions l (expire_row l)
unfolding expire_row
expire-sessions l = stay-open l

close-sessions : (l : Leader) → GoesSessions l (close_sessions_row l)
unfolding close_sessions_row
close-sessions l = record {
  same_start = refl;
  go = inl (record { same_next = refl; keeps = λ opened all. All-filter (IsOpen opened l.next_session) (λ session. not (is_idle l.now session)) l.sessions all });
}

status-sessions : (l : Leader) → GoesSessions l (leader_status_row l)
unfolding leader_status_row
status-sessions l = stay-open l

-- answers to kept requests leave the sessions
pub answering-same : (P : Leader → Type 0) → ((l : Leader) (kept : List KeptRequest) → P l → P (record l { kept = kept })) → (reply : Reply) (o : Outcome Leader) → P o.next → P (answering_kept reply o).next
answering-same P keeps (replies.Refused why) o it = it
answering-same P keeps _ o it = keeps o.next _ it

settled-sessions : (l : Leader) (reply : Reply) (o : Outcome Leader) → GoesSessions l o → GoesSessions l (answering_kept reply o)
settled-sessions l reply o goes = answering-same (SessionsGoTo l) (λ next kept it. it) reply o goes

read-sessions : (l : Leader) (p : Poll) (copy : ℕ) (found : Option Copy) → GoesSessions l (read_row l p copy found)
unfolding read_row
read-sessions l p copy None = stay-open l
read-sessions l p copy (Some c) =
    on_if (GoesSessions l) (has_to_wait l p c) _ _ (λ waits. stay-open l) (λ now. answer_keeps (SessionsGoTo l) l p c l (stay-open l))

wake-sessions : (l : Leader) (follower : List ℕ) (at : ℕ) (found : Option Poll) (c : Option Copy) → GoesSessions l (wake_row l follower at found c)
unfolding wake_row
wake-sessions l follower at None c = stay-open l
wake-sessions l follower at (Some p) None = stay-open l
wake-sessions l follower at (Some p) (Some c) =
    on_guards (GoesSessions l) l _ _ (λ why. stay-open l) (λ tests. answer_keeps (SessionsGoTo l) l p c (record l { polls = without_poll follower at l.polls }) (stay-open l))

new_lease-sessions : (l : Leader) (id : List ℕ) → SessionsGoTo l (with_new_lease l id)
new_lease-sessions l id = on_if (λ (next : Leader). SessionsGoTo l next) (has_lease id l.copies.primary) _ _ (λ there. stay-open l) (λ isnt. stay-open l)

or_keep-sessions : (l next : Leader) (k : KeptRequest) (lacking : Option ℕ) → SessionsGoTo l next → GoesSessions l (answer_or_keep next k lacking)
or_keep-sessions l next k None goes = goes
or_keep-sessions l next k (Some copy) goes = goes

lease_add-sessions : (l : Leader) (follower : List ℕ) (request : ℕ) (id : List ℕ) (waits : Option ℕ) → GoesSessions l (lease_add_row l follower request id waits)
unfolding lease_add_row
lease_add-sessions l follower request id (Some copy) = stay-open l
lease_add-sessions l follower request id None = or_keep-sessions l (with_new_lease l id) _ _ (new_lease-sessions l id)

lease_renew-sessions : (l : Leader) (follower : List ℕ) (request : ℕ) (id : List ℕ) (number : ℕ) (found : Option Lease) → GoesSessions l (lease_renew_row l follower request id number found)
unfolding lease_renew_row
lease_renew-sessions l follower request id number None = stay-open l
lease_renew-sessions l follower request id number (Some kept) = on_if (GoesSessions l) (nat_lt number kept.number) _ _ (λ low. stay-open l) (λ high. stay-open l)

lease_remove-sessions : (l : Leader) (follower : List ℕ) (request : ℕ) (id : List ℕ) (found : Option Lease) → GoesSessions l (lease_remove_row l follower request id found)
unfolding lease_remove_row
lease_remove-sessions l follower request id None = stay-open l
lease_remove-sessions l follower request id (Some kept) = stay-open l

session_open-sessions : (l : Leader) (follower : List ℕ) (request : ℕ) (waits : Option ℕ) → GoesSessions l (session_open_row l follower request waits)
unfolding session_open_row
session_open-sessions l follower request (Some copy) = stay-open l
session_open-sessions l follower request None = record { same_start = refl; go = inr (record { new_next = refl; new = refl }) }

active-open : (opened : List Session) (next number now : ℕ) (sessions : List Session) → AllByRecursion (IsOpen opened next) sessions → AllByRecursion (IsOpen opened next) (active_at number now sessions)
active-open opened next number now [] all = tt
active-open opened next number now (x ∷ xs) all =
    on_if (AllByRecursion (IsOpen opened next)) (x.number == number) (record x { activity = now } ∷ xs) (x ∷ active_at number now xs)
    (λ is. (record { old = all.0.old; first = all.0.first; found = all.0.found; same_count = all.0.same_count; same_files = all.0.same_files }, all.1))
    (λ isnt. (all.0, active-open opened next number now xs all.1))

chunk-sessions : (l : Leader) (follower : List ℕ) (request session file offset size : ℕ) (found : Option Session) → GoesSessions l (chunk_row l follower request session file offset size found)
unfolding chunk_row
chunk-sessions l follower request session file offset size None = stay-open l
chunk-sessions l follower request session file offset size (Some x) = record {
  same_start = refl;
  go = inl (record { same_next = refl; keeps = λ opened all. active-open opened l.next_session session l.now l.sessions all });
}

content-sessions : (l : Leader) (copy : ℕ) (follower : List ℕ) (request : ℕ) (content : Content) → GoesSessions l (receive_row l copy (record { follower = follower; request = request; content = content }))
content-sessions l copy follower request (contents.ReadRequest history from max_ops max_bytes timeout) = read-sessions l _ copy _
content-sessions l copy follower request (contents.LeaseAdd id) = lease_add-sessions l follower request id _
content-sessions l copy follower request (contents.LeaseRenew id number) = lease_renew-sessions l follower request id number _
content-sessions l copy follower request (contents.LeaseRemove id) = lease_remove-sessions l follower request id _
content-sessions l copy follower request contents.SessionOpen = session_open-sessions l follower request _
content-sessions l copy follower request (contents.ChunkRequest session file offset size) = chunk-sessions l follower request session file offset size _
content-sessions l copy follower request (contents.ReadReply from global ops) = stay-open l
content-sessions l copy follower request (contents.ReadMissing from floor) = stay-open l
content-sessions l copy follower request (contents.ReadHistory history) = stay-open l
content-sessions l copy follower request (contents.LeaseAdded number) = stay-open l
content-sessions l copy follower request (contents.LeaseAnswer outcome number) = stay-open l
content-sessions l copy follower request (contents.SessionOpened session history count sizes) = stay-open l
content-sessions l copy follower request (contents.ChunkReply session file offset bytes) = stay-open l
content-sessions l copy follower request (contents.SessionGone session) = stay-open l
content-sessions l copy follower request (contents.NotReady waits) = stay-open l

receive-sessions : (l : Leader) (copy : ℕ) (m : Frame) → GoesSessions l (leader_receive l copy m)
receive-sessions l copy m = settled-sessions l (receive_row l copy m).reply (receive_row l copy m) (content-sessions l copy m.follower m.request m.content)

-- ---- the events

abbrev pub StateSessions : State → Outcome State → Type 0
StateSessions s o = SessionsGoTo s.leader o.next.leader

follower-sessions : (s : State) (f : ℕ) (row : Follower → Outcome Follower) (found : Option Follower) → StateSessions s (for_follower s f row found)
follower-sessions s f row None = stay-open s.leader
follower-sessions s f row (Some follower) = stay-open s.leader

named-sessions : (s : State) (m : Frame) (named : Option ℕ) → StateSessions s (at_named_follower s m named)
named-sessions s m None = stay-open s.leader
named-sessions s m (Some f) = follower-sessions s f (λ follower. follower_receive_row follower m) (slice_get s.followers f)

taken-sessions : (s : State) (copy : ℕ) (m : Frame) → StateSessions s (taken_by_receiver s copy m)
taken-sessions s copy m =
    on_if (StateSessions s) (goes_to_leader (kind_of_content m.content)) _ _ (λ is. receive-sessions s.leader copy m) (λ isnt. named-sessions s m (follower_of s.followers m.follower))

deliver-sessions : (s : State) (at copy : ℕ) (keep : Bool) (m : Option Frame) (c : Option Copy) → StateSessions s (deliver_row s at copy keep m c)
unfolding deliver_row
deliver-sessions s at copy keep None c = stay-open s.leader
deliver-sessions s at copy keep (Some m) None = stay-open s.leader
deliver-sessions s at copy keep (Some m) (Some c) =
    on_if (λ (t : State). SessionsGoTo s.leader (taken_by_receiver t copy m).next.leader) keep s (record s { flight = remove s.flight at })
    (λ is. taken-sessions s copy m) (λ isnt. taken-sessions (record s { flight = remove s.flight at }) copy m)

drop-sessions : (s : State) (at : ℕ) (m : Option Frame) → StateSessions s (drop_row s at m)
unfolding drop_row
drop-sessions s at None = stay-open s.leader
drop-sessions s at (Some m) = stay-open s.leader

woken-sessions : (s : State) (f at : ℕ) (found : Option Follower) → StateSessions s (woken s f at found)
woken-sessions s f at None = stay-open s.leader
woken-sessions s f at (Some follower) = wake-sessions s.leader _ at _ _

follow-sessions : (s : State) (params : ParamValues) (copies : ℕ) (name : List ℕ) (same : Option ℕ) → StateSessions s (follow_row s params copies name same)
unfolding follow_row
follow-sessions s params copies name (Some f) = stay-open s.leader
follow-sessions s params copies name None = on_guards (StateSessions s) s _ _ (λ why. stay-open s.leader) (λ tests. stay-open s.leader)

search-sessions : (s : State) (copy : ℕ) (query : Tree) (sort : List SortKey) (c : Option Copy) → StateSessions s (search_row s copy query sort c)
unfolding search_row
search-sessions s copy query sort None = stay-open s.leader
search-sessions s copy query sort (Some c) = stay-open s.leader

searched-sessions : (s : State) (f : ℕ) (row : Option Copy → Outcome State) (copy : ℕ) (found : Option Follower) → ((c : Option Copy) → StateSessions s (row c))
    → StateSessions s (elim found as (λ _. Outcome State) [ None ↦ refused s (NoFollower f) | Some follower ↦ row (copy_of follower.copies copy) ])
searched-sessions s f row copy None keeps = stay-open s.leader
searched-sessions s f row copy (Some follower) keeps = keeps (copy_of follower.copies copy)

pub sessions-go : (s : State) (event : Event) (picks : List ℕ) → StateSessions s (step s event picks)
sessions-go s (events.Write request) picks = stay-open s.leader
sessions-go s (events.Replicate sides.Leader copy seq) picks = stay-open s.leader
sessions-go s (events.Replicate (sides.Follower f) copy seq) picks = follower-sessions s f _ (slice_get s.followers f)
sessions-go s (events.Ack sides.Leader copy) picks = stay-open s.leader
sessions-go s (events.Ack (sides.Follower f) copy) picks = follower-sessions s f _ (slice_get s.followers f)
sessions-go s (events.Sync sides.Leader copy) picks = settled-sessions s.leader _ _ (stay-open s.leader)
sessions-go s (events.Sync (sides.Follower f) copy) picks = follower-sessions s f _ (slice_get s.followers f)
sessions-go s (events.Promote sides.Leader copy) picks = promote-sessions s.leader copy (replica_of s.leader.copies copy)
sessions-go s (events.Promote (sides.Follower f) copy) picks = follower-sessions s f _ (slice_get s.followers f)
sessions-go s (events.ForcePromote copy) picks = force-sessions s.leader copy (stale_of s.leader.stale copy)
sessions-go s (events.Resync copy) picks = stay-open s.leader
sessions-go s (events.FailCopy sides.Leader copy) picks = settled-sessions s.leader _ _ (fail_copy-sessions s.leader copy (replica_of s.leader.copies copy))
sessions-go s (events.FailCopy (sides.Follower f) copy) picks = follower-sessions s f _ (slice_get s.followers f)
sessions-go s (events.AddCopy sides.Leader) picks = stay-open s.leader
sessions-go s (events.AddCopy (sides.Follower f)) picks = follower-sessions s f _ (slice_get s.followers f)
sessions-go s (events.Flush sides.Leader copy) picks = stay-open s.leader
sessions-go s (events.Flush (sides.Follower f) copy) picks = follower-sessions s f _ (slice_get s.followers f)
sessions-go s (events.Merge sides.Leader copy) picks = stay-open s.leader
sessions-go s (events.Merge (sides.Follower f) copy) picks = follower-sessions s f _ (slice_get s.followers f)
sessions-go s (events.Clock sides.Leader now) picks = clock-sessions s.leader now
sessions-go s (events.Clock (sides.Follower f) now) picks = follower-sessions s f _ (slice_get s.followers f)
sessions-go s events.Expire picks = expire-sessions s.leader
sessions-go s events.CloseSessions picks = close-sessions s.leader
sessions-go s (events.Tick f) picks = follower-sessions s f _ (slice_get s.followers f)
sessions-go s (events.Deliver at copy keep) picks = deliver-sessions s at copy keep (slice_get s.flight at) (copy_of s.leader.copies copy)
sessions-go s (events.Drop at) picks = drop-sessions s at (slice_get s.flight at)
sessions-go s (events.Wake f at) picks = woken-sessions s f at (slice_get s.followers f)
sessions-go s (events.Lose f at) picks = follower-sessions s f _ (slice_get s.followers f)
sessions-go s (events.LoseWrite f write) picks = follower-sessions s f _ (slice_get s.followers f)
sessions-go s (events.Take f write) picks = follower-sessions s f _ (slice_get s.followers f)
sessions-go s (events.Apply f epoch write batch) picks = follower-sessions s f _ (slice_get s.followers f)
sessions-go s (events.Written f write) picks = follower-sessions s f _ (slice_get s.followers f)
sessions-go s (events.Renew f) picks = follower-sessions s f _ (slice_get s.followers f)
sessions-go s (events.Follow params copies name) picks = follow-sessions s params copies name (same_name s.followers name)
sessions-go s (events.Pause f) picks = follower-sessions s f _ (slice_get s.followers f)
sessions-go s (events.Resume f) picks = follower-sessions s f _ (slice_get s.followers f)
sessions-go s (events.Restart f) picks = follower-sessions s f _ (slice_get s.followers f)
sessions-go s (events.Unfollow f) picks = follower-sessions s f _ (slice_get s.followers f)
sessions-go s (events.Search sides.Leader copy request) picks = search-sessions s copy request.query request.sort (copy_of s.leader.copies copy)
sessions-go s (events.Search (sides.Follower f) copy request) picks =
    searched-sessions s f (search_row s copy request.query request.sort) copy (slice_get s.followers f) (λ c. search-sessions s copy request.query request.sort c)
sessions-go s (events.Status sides.Leader) picks = status-sessions s.leader
sessions-go s (events.Status (sides.Follower f)) picks = follower-sessions s f _ (slice_get s.followers f)
sessions-go s events.Settle picks =
    on_guards (StateSessions s) s _ _ (λ why. stay-open s.leader) (λ tests. stay-open s.leader)
