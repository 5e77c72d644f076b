-- What the leader does with the messages that come to it, and with the polls.
use Rattle.std.specs.Prelude.{ℕ, ◌+◌, Bool, not, ◌&&◌, ◌==◌, nat_lt, if◌then◌else◌, List, [], ◌∷◌, ◌++◌, length, take, drop, map, slice_get, Option, Some, None}
use Rattle.std.specs.Option.{unwrap_or}
use Rattle.std.specs.Str.{bytes_eq}
use Rattle.ccr_op.specs.Operation.{Operation}
use Rattle.ccr_lease.specs.declared.retention.Lease.{Lease}
use Rattle.ccr_lease.specs.Leases.{Collection, lease_of, with_lease, renewed, without}
use Rattle.ccr_segment.specs.Segment.{spelling as segment_of_ops}
use Rattle.ccr_wire.specs.Message.{Frame}
use Rattle.ccr_wire.specs.declared.kind.LeaseResult.{LeaseResult}
use Rattle.ccr_wire.specs.declared.kind.LeaseResult.TheVariants as results
use Rattle.ccr_wire.specs.declared.content.Content.{Content}
use Rattle.ccr_wire.specs.declared.content.Content.TheVariants as contents
use Rattle.ccr_journal.specs.declared.replies.Reply.TheVariants.{Heard}
use Rattle.ccr_journal.specs.declared.replies.Heard.{Heard as Hearing}
use Rattle.ccr_journal.specs.declared.replies.Heard.TheVariants as heard
use Rattle.ccr_journal.specs.declared.replies.Refusal.TheVariants.{NoPoll, NoCopy, Wait}
use Rattle.ccr_model.specs.Operations.{cut_of, run_from}
use Rattle.ccr_model.specs.Stores.{held, files_below}
use Rattle.ccr_model.specs.Outcomes.{Outcome, refused, guarded}
use Rattle.ccr_model.specs.Copies.{Copy, Copies, copy_of, not_ready, greatest_floor, has_lease, lacks_lease}
use Rattle.ccr_model.specs.Leaders.{Leader, Session, KeptRequest, Poll, polls_of, without_poll, session_of}
use Rattle.ccr_model.specs.LeaderRows.{settling_requests}

-- an answer to a request of a follower
abbrev pub answer_to : List ℕ → ℕ → Content → List Frame
answer_to follower request content = record { follower = follower; request = request; content = content } ∷ []

-- what a message comes to: what its receiver did, and what it sends
abbrev pub hears : Hearing → Leader → List Frame → Outcome Leader
hears what next sent = record { reply = Heard what; next = next; sent = sent }

-- ---- reads

-- the operations that a read from a number on brings
abbrev pub read_ops : Copy → ℕ → ℕ → ℕ → List Operation
read_ops c from max_ops max_bytes = cut_of max_ops max_bytes (run_from (held c.store) from c.global)

-- a read is answered: it is of another history, or asks below the floor, or gets the operations that there are
abbrev pub answer_read : Leader → Poll → Copy → Leader → Outcome Leader
answer_read s p c next =
    if not (bytes_eq p.history s.history) then hears heard.History next (answer_to p.follower p.request (contents.ReadHistory s.history))
    else (if nat_lt p.from c.floor then hears (heard.Missing p.from c.floor) next (answer_to p.follower p.request (contents.ReadMissing p.from c.floor))
    else hears (if nat_lt p.from c.global then heard.Done else heard.Empty) next
    (answer_to p.follower p.request (contents.ReadReply p.from c.global (read_ops c p.from p.max_ops p.max_bytes))))

-- the read has nothing to bring yet, and would be answered neither by another history nor by a floor
abbrev pub has_to_wait : Leader → Poll → Copy → Bool
has_to_wait s p c = bytes_eq p.history s.history && not (nat_lt p.from c.floor) && not (nat_lt p.from c.global)

-- a read comes to a copy: it is parked where it has to wait
unfoldable pub read_row : Leader → Poll → ℕ → Option Copy → Outcome Leader
read_row s p copy None = refused s (NoCopy copy)
read_row s p copy (Some c) =
    if has_to_wait s p c then hears heard.Parked (record s { polls = s.polls ++ p ∷ [] }) []
    else answer_read s p c s

-- a poll is answered once there is something to bring or its time is over
unfoldable pub wake_row : Leader → List ℕ → ℕ → Option Poll → Option Copy → Outcome Leader
wake_row s follower at None c = refused s (NoPoll at)
wake_row s follower at (Some p) None = refused s (NoPoll at)
wake_row s follower at (Some p) (Some c) =
    guarded s ((not (nat_lt p.from c.global) && nat_lt s.now (p.parked + p.timeout), Wait c.global) ∷ [])
    (answer_read s p c (record s { polls = without_poll follower at s.polls }))

-- ---- leases

abbrev pub with_leases : Leader → Collection → Leader
with_leases s leases = record s { copies = record s.copies { primary = record s.copies.primary { leases = leases } } }

-- a lease that isn't there is added with the primary's floor and the leader's time
abbrev pub with_new_lease : Leader → List ℕ → Leader
with_new_lease s id =
    let c = s.copies.primary.leases in
    if has_lease id s.copies.primary then s
    else with_leases s (record c { version = c.version + 1; leases = with_lease (record { id = id; number = s.copies.primary.floor; stamp = s.now }) c.leases })

-- the request is answered where each in-sync copy has the lease, and else it is kept; `lacking` is the least copy without
abbrev pub answer_or_keep : Leader → KeptRequest → Option ℕ → Outcome Leader
answer_or_keep s k None =
    let number = greatest_floor s.copies in
    hears (heard.Lease (if k.existed then results.Exists else results.Ok) number) s
    (answer_to k.follower k.request (if k.existed then contents.LeaseAnswer results.Exists number else contents.LeaseAdded number))
answer_or_keep s k (Some copy) = hears (heard.Waiting copy) (record s { kept = s.kept ++ k ∷ [] }) []

-- a request for a lease has to wait for a leader that isn't ready
unfoldable pub lease_add_row : Leader → List ℕ → ℕ → List ℕ → Option ℕ → Outcome Leader
lease_add_row s follower request id (Some copy) = hears (heard.NotReady copy) s (answer_to follower request (contents.NotReady copy))
lease_add_row s follower request id None =
    let next = with_new_lease s id in
    answer_or_keep next (record { follower = follower; request = request; id = id; existed = has_lease id s.copies.primary }) (lacks_lease id next.copies)

-- a request about a lease is answered so
abbrev pub answer_lease : List ℕ → ℕ → Leader → LeaseResult → ℕ → Outcome Leader
answer_lease follower request next result number = hears (heard.Lease result number) next (answer_to follower request (contents.LeaseAnswer result number))

-- a renewal sets the number and the stamp, unless its number is below the kept one
unfoldable pub lease_renew_row : Leader → List ℕ → ℕ → List ℕ → ℕ → Option Lease → Outcome Leader
lease_renew_row s follower request id number None = answer_lease follower request s results.NotFound 0
lease_renew_row s follower request id number (Some kept) =
    let c = s.copies.primary.leases in
    if nat_lt number kept.number then answer_lease follower request s results.LowNumber kept.number
    else answer_lease follower request
    (with_leases s (record c { version = c.version + 1; leases = renewed id number s.now c.leases })) results.Ok number

unfoldable pub lease_remove_row : Leader → List ℕ → ℕ → List ℕ → Option Lease → Outcome Leader
lease_remove_row s follower request id None = answer_lease follower request s results.NotFound 0
lease_remove_row s follower request id (Some kept) =
    let c = s.copies.primary.leases in
    answer_lease follower request
    (with_leases s (record c { version = c.version + 1; leases = without id c.leases })) results.Ok kept.number

-- ---- sessions

-- the session of the operations below the primary's global count, a file for each part that holds any
abbrev pub new_session : Leader → Session
new_session s = record {
  number = s.next_session;
  count = s.copies.primary.global;
  files = map {A = List Operation} {B = List ℕ} segment_of_ops (files_below s.copies.primary.global s.copies.primary.store);
  activity = s.now;
}

abbrev pub sizes_of : Session → List ℕ
sizes_of session = map {A = List ℕ} {B = ℕ} (λ file. length file) session.files

unfoldable pub session_open_row : Leader → List ℕ → ℕ → Option ℕ → Outcome Leader
session_open_row s follower request (Some copy) = hears (heard.NotReady copy) s (answer_to follower request (contents.NotReady copy))
session_open_row s follower request None =
    let session = new_session s in
    hears heard.Done (record s { next_session = s.next_session + 1; sessions = s.sessions ++ session ∷ [] })
    (answer_to follower request (contents.SessionOpened session.number s.history session.count (sizes_of session)))

-- the sessions, where the one of this number was active now
abbrev pub active_at : ℕ → ℕ → List Session → List Session
active_at number now [] = []
active_at number now (x ∷ xs) = if x.number == number then record x { activity = now } ∷ xs else x ∷ active_at number now xs

-- the bytes of a session's file from the offset on, as many as asked or all that are left
abbrev pub chunk_of : Session → ℕ → ℕ → ℕ → List ℕ
chunk_of session file offset size = take size (drop offset (unwrap_or (slice_get session.files file) []))

unfoldable pub chunk_row : Leader → List ℕ → ℕ → ℕ → ℕ → ℕ → ℕ → Option Session → Outcome Leader
chunk_row s follower request session file offset size None = hears heard.Gone s (answer_to follower request (contents.SessionGone session))
chunk_row s follower request session file offset size (Some found) =
    hears heard.Done (record s { sessions = active_at session s.now s.sessions })
    (answer_to follower request (contents.ChunkReply session file offset (chunk_of found file offset size)))

-- ---- the calls

-- a message that goes to no leader changes nothing; none of these comes to it
abbrev pub receive_row : Leader → ℕ → Frame → Outcome Leader
receive_row s copy m = elim m.content as (λ _. Outcome Leader) [
  | contents.ReadRequest history from max_ops max_bytes timeout ↦ read_row s
      (record { follower = m.follower; request = m.request; copy = copy; history = history; from = from; max_ops = max_ops; max_bytes = max_bytes; timeout = timeout; parked = s.now })
      copy (copy_of s.copies copy)
  | contents.LeaseAdd id ↦ lease_add_row s m.follower m.request id (not_ready s.copies)
  | contents.LeaseRenew id number ↦ lease_renew_row s m.follower m.request id number (lease_of id s.copies.primary.leases.leases)
  | contents.LeaseRemove id ↦ lease_remove_row s m.follower m.request id (lease_of id s.copies.primary.leases.leases)
  | contents.SessionOpen ↦ session_open_row s m.follower m.request (not_ready s.copies)
  | contents.ChunkRequest session file offset size ↦ chunk_row s m.follower m.request session file offset size (session_of s.sessions session)
  | contents.ReadReply from global ops ↦ hears heard.Ignored s []
  | contents.ReadMissing from floor ↦ hears heard.Ignored s []
  | contents.ReadHistory history ↦ hears heard.Ignored s []
  | contents.LeaseAdded number ↦ hears heard.Ignored s []
  | contents.LeaseAnswer outcome number ↦ hears heard.Ignored s []
  | contents.SessionOpened session history count sizes ↦ hears heard.Ignored s []
  | contents.ChunkReply session file offset bytes ↦ hears heard.Ignored s []
  | contents.SessionGone session ↦ hears heard.Ignored s []
  | contents.NotReady copy ↦ hears heard.Ignored s []
]

abbrev pub leader_receive : Leader → ℕ → Frame → Outcome Leader
leader_receive s copy m = settling_requests (receive_row s copy m)

-- the copy of the poll, where there is one
abbrev pub polled_copy : Copies → Option Poll → Option Copy
polled_copy s None = None
polled_copy s (Some p) = copy_of s p.copy

abbrev pub leader_wake : Leader → List ℕ → ℕ → Outcome Leader
leader_wake s follower at =
    let found = slice_get (polls_of s.polls follower) at in
    wake_row s follower at found (polled_copy s.copies found)
