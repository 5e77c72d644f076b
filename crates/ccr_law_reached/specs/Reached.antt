-- The states that a possible journal leads to, and what code may rest on in each of them.
use Rattle.std.specs.Prelude.{◌≡◌, ℕ, ◌+◌, ◌^◌, ◌<◌, ◌≤◌, ◌==◌, true, List, [], length, count_by, slice_get, Some}
use Rattle.std.specs.List.{AllByRecursion, range_with_len}
use Rattle.ccr_op.specs.Operation.{Operation}
use Rattle.ccr_segment.specs.Segment.{HasSpelling, spelling}
use Rattle.ccr_wire.specs.Message.{Frame}
use Rattle.ccr_wire.specs.declared.content.Content.{Content}
use Rattle.ccr_wire.specs.declared.content.Content.TheVariants.{ChunkRequest}
use Rattle.ccr_journal.specs.Params.{IsCopyCount}
use Rattle.ccr_journal.specs.declared.events.Event.{Event}
use Rattle.ccr_journal.specs.declared.journals.Entry.{Entry}
use Rattle.ccr_model.specs.Operations.{has_number}
use Rattle.ccr_model.specs.Stores.{Store, held}
use Rattle.ccr_model.specs.Requests.{Sending}
use Rattle.ccr_model.specs.Restores.{Restore, fetching, Fetch, is_complete, file_bytes, files_of, restore_hears}
use Rattle.ccr_model.specs.Copies.{Copy, Replica, copy_of}
use Rattle.ccr_model.specs.CopyFacts.{IsBehind}
use Rattle.ccr_model.specs.Leaders.{Start, Session, Poll, session_of}
use Rattle.ccr_model.specs.Followers.{Follower, restoring, uuid_of}
use Rattle.ccr_model.specs.World.{State, start_state, follower_of}
use Rattle.ccr_model.specs.Fit.{IsFitEvent, AreFit}
use Rattle.ccr_model.specs.Step.{IsLegal, state_after}
use Rattle.ccr_model.specs.Settled.{is_settled}
use Rattle.ccr_model.specs.Settling.{MaySettle}
use Rattle.ccr_model.specs.Past.{Past, start_past, past_of}
use Rattle.ccr_law_stores.specs.Searchable.{HoldsOnce}
use Rattle.ccr_law_settling_grounds.specs.Parked.{AreKeptRightly}
use Rattle.ccr_law_settling.specs.Lowering.{counts_of, Lowers, LowersAt}

-- the journal could have come about from this start
pub record IsPossible (start : Start) (entries : List Entry) : Type 0 where
  pub count : IsCopyCount start.copies
  pub fit : AreFit entries
  pub legal : IsLegal (start_state start) entries

-- the state is the one after some possible journal
pub record IsReached (s : State) : Type 0 where
  pub start : Start
  pub entries : List Entry
  pub possible : IsPossible start entries
  pub is : s ≡ state_after (start_state start) entries

-- one more event may happen there
pub record IsReadyFor (s : State) (event : Event) : Type 0 where
  pub reached : IsReached s
  pub fit : IsFitEvent event
  pub few : length reached.entries + 1 < 2 ^ 32

-- what a journal tells
abbrev pub told_by : Start → List Entry → Past
told_by start entries = past_of (start_past start) entries

-- ---- settling

-- where nothing may be used to settle the world, it is settled
abbrev pub EndsSettled : State → Type 0
EndsSettled s = ((event : Event) → ¬ MaySettle s event) → is_settled s ≡ true

-- each event that may be used to settle the world makes its five numbers smaller, where each history has as many operations as the journal tells
abbrev pub SettlingLowers : (s : State) → IsReached s → Type 0
SettlingLowers s reached = (event : Event) → Lowers (counts_of (told_by reached.start reached.entries)) s event

-- each event that may be used after a journal makes them smaller from that place to the next
abbrev pub LowersAfter : Start → List Entry → Type 0
LowersAfter start entries = (event : Event) → LowersAt (told_by start entries) event

-- ---- the leader

-- the leader's primary has processed no number above one that it lacks
abbrev pub HasNoGap : State → Type 0
HasNoGap s = s.leader.copies.primary.seen.above ≡ []

-- the session has a file of this number, which has more bytes than the offset
abbrev pub HasPart : Session → ℕ → ℕ → Type 0
HasPart session file offset = (bytes : List ℕ) × ((slice_get session.files file ≡ Some bytes) × (offset < length bytes))

-- a request for a part of a file of an open session is for one that the session has
abbrev pub AsksForPart : List Session → Content → Type 0
AsksForPart sessions (ChunkRequest session file offset size) = (own : Session) → session_of sessions session ≡ Some own → HasPart own file offset
AsksForPart sessions _ = Unit {0}

-- so is each such request in flight
abbrev pub PartsAreThere : State → Type 0
PartsAreThere s = (at : ℕ) (m : Frame) → slice_get s.flight at ≡ Some m → AsksForPart s.leader.sessions m.content

-- the UUID is that of one of so many followers
pub record IsOneOf (followers : ℕ) (uuid : List ℕ) : Type 0 where
  pub number : ℕ
  pub low : number < followers
  pub is : uuid ≡ uuid_of number

-- each read that waits at the leader is of a follower that was made
abbrev pub ArePollsOfFollowers : State → Type 0
ArePollsOfFollowers s = AllByRecursion (λ (p : Poll). IsOneOf (length s.followers) p.follower) s.leader.polls

-- of each kept request for a lease some copy of the leader still lacks the lease, and no replica has leases that the primary doesn't know of
pub record KeptRequestsWait (s : State) : Type 0 where
  pub kept : AreKeptRightly s.leader.copies s.leader.kept
  pub behind : AllByRecursion (λ (r : Replica). IsBehind s.leader.copies.primary.leases r.copy.leases) s.leader.copies.replicas

-- ---- what is held

-- no copy holds two operations of one number
pub record HoldsNumbersOnce (s : State) : Type 0 where
  pub leader : (copy : ℕ) (c : Copy) → copy_of s.leader.copies copy ≡ Some c → HoldsOnce c
  pub followers : (f copy : ℕ) (own : Follower) (c : Copy) → slice_get s.followers f ≡ Some own → copy_of own.copies copy ≡ Some c → HoldsOnce c

-- ---- bootstraps

-- the bytes spell a segment
pub record IsSegment (bytes : List ℕ) : Type 0 where
  pub ops : List Operation
  pub fits : HasSpelling ops
  pub is : bytes ≡ spelling ops

-- the store of the files that were fetched
abbrev pub fetched_store : ℕ → Fetch → Store
fetched_store chunk_size fetch = record { parts = files_of chunk_size fetch; open_part = [] }

-- the files that were fetched are segments; no number stands twice in them, and all are below the session's count
pub record HasRightFiles (chunk_size : ℕ) (fetch : Fetch) : Type 0 where
  pub segments : AllByRecursion (λ (file : ℕ). IsSegment (file_bytes chunk_size fetch file)) (range_with_len 0 (length fetch.sizes))
  pub once : (n : ℕ) → count_by (λ op. op.seq == n) (held (fetched_store chunk_size fetch)) ≤ 1
  pub below : (n : ℕ) → has_number (held (fetched_store chunk_size fetch)) n ≡ true → n < fetch.count

-- where a message brings a bootstrap its last part, the files are right
abbrev pub EndsWithRightFiles : Follower → Frame → Type 0
EndsWithRightFiles s m =
    (r : Restore) (done : Sending Restore) (fetch : Fetch) → s.work ≡ restoring r → restore_hears r s.now m ≡ Some done → done.next.stage ≡ fetching fetch
    → is_complete done.next.chunk_size fetch ≡ true → HasRightFiles done.next.chunk_size fetch

-- so it is with each message in flight, at the follower that it names
abbrev pub FetchedFilesAreRight : State → Type 0
FetchedFilesAreRight s =
    (at f : ℕ) (m : Frame) (own : Follower) → slice_get s.flight at ≡ Some m → follower_of s.followers m.follower ≡ Some f → slice_get s.followers f ≡ Some own
    → EndsWithRightFiles own m
