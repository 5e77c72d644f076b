-- What the measure asks of the copies of a world: nothing is processed or known beyond their history.
use Rattle.std.specs.Prelude.{◌≡◌, ℕ, ◌<◌, ◌≤◌, ◌==◌, ◌&&◌, Bool, true, false, List, [], ◌∷◌, Some, is_some, slice_get}
use Rattle.std.specs.List.{AllByRecursion, list_any}
use Rattle.std.specs.Str.{bytes_eq}
use Rattle.ccr_op.specs.Operation.{Operation}
use Rattle.ccr_tracker.specs.Numbers.{has}
use Rattle.ccr_model.specs.Operations.{has_number}
use Rattle.ccr_model.specs.Stores.{held}
use Rattle.ccr_model.specs.Copies.{Copy, Replica, Copies, copy_of}
use Rattle.ccr_model.specs.Tasks.{Read, Write}
use Rattle.ccr_model.specs.Restores.{Restore, Stage, leasing, opening, fetching, Fetch, ChunkAsked, answers, ask_sent}
use Rattle.ccr_model.specs.Requests.{is_sent}
use Rattle.ccr_wire.specs.Message.{Frame}
use Rattle.ccr_wire.specs.declared.kind.LeaseResult.TheVariants as results
use Rattle.ccr_wire.specs.declared.content.Content.{Content}
use Rattle.ccr_wire.specs.declared.content.Content.TheVariants as contents
use Rattle.ccr_model.specs.FrameFacts.{next_request_of}
use Rattle.ccr_model.specs.Followers.{Follower, Work, restoring, replicating, uuid_of}
use Rattle.ccr_model.specs.World.{State}
use Rattle.ccr_law_settling.specs.Measure.{is_gone}

-- a replica that was resynced counts no further than the history, and the primary knows no more than that count
pub record IsReplicaWithin (count : ℕ) (r : Replica) : Type 0 where
  pub known : r.known ≤ r.copy.seen.count
  pub counted : r.resynced ≡ true → r.copy.seen.count ≤ count

pub record AreWithin (count : ℕ) (s : Copies) : Type 0 where
  pub processed : (n : ℕ) → has s.primary.seen n ≡ true → n < count
  pub global : s.primary.global ≤ count
  pub replicas : AllByRecursion (IsReplicaWithin count) s.replicas

-- no operation that is to be written is beyond the history
abbrev pub AreWritesWithin : ℕ → Work → Type 0
AreWritesWithin count (restoring r) = Unit {0}
AreWritesWithin count (replicating t) = AllByRecursion (λ (w : Write). AllByRecursion (λ (op : Operation). op.seq < count) w.batch) t.writes

-- where `count_of` tells how many operations each history has: the leader's primary counts its own
pub record IsWithin (count_of : List ℕ → ℕ) (s : State) : Type 0 where
  pub counts : s.leader.copies.primary.seen.count ≡ count_of s.leader.history
  pub leader : AreWithin (count_of s.leader.history) s.leader.copies
  pub followers : (f : ℕ) (own : Follower) → slice_get s.followers f ≡ Some own → AreWithin (count_of own.history) own.copies
  pub writes : (f : ℕ) (own : Follower) → slice_get s.followers f ≡ Some own → AreWritesWithin (count_of own.history) own.work

-- a copy holds each operation that a read below its global count may ask for
abbrev pub HoldsReads : Copy → Type 0
HoldsReads c = (n : ℕ) → c.floor ≤ n → n < c.global → has_number (held c.store) n ≡ true

abbrev pub IsReadable : State → Type 0
IsReadable s = (copy : ℕ) (c : Copy) → copy_of s.leader.copies copy ≡ Some c → HoldsReads c

-- no two reads, and no two requests for parts of files, are of one request number
abbrev pub AreReadsApart : List Read → Type 0
AreReadsApart [] = Unit {0}
AreReadsApart (r ∷ reads) = AllByRecursion (λ (x : Read). (x.request == r.request) ≡ false) reads × AreReadsApart reads

abbrev pub AreAsksApart : List ChunkAsked → Type 0
AreAsksApart [] = Unit {0}
AreAsksApart (a ∷ asks) = AllByRecursion (λ (x : ChunkAsked). (x.request == a.request) ≡ false) asks × AreAsksApart asks

abbrev pub AreStageApart : Stage → Type 0
AreStageApart (leasing a) = Unit {0}
AreStageApart (opening a) = Unit {0}
AreStageApart (fetching f) = AreAsksApart f.asks

abbrev pub AreRequestsApart : Work → Type 0
AreRequestsApart (restoring r) = AreStageApart r.stage
AreRequestsApart (replicating t) = AreReadsApart t.reads

-- a task knows of no count of the leader beyond the history
abbrev pub KnowsWithin : ℕ → Work → Type 0
KnowsWithin count (restoring r) = Unit {0}
KnowsWithin count (replicating t) = t.known ≤ count

-- ---- fresh request numbers

-- a bootstrap names the follower
abbrev pub Asks : List ℕ → Work → Type 0
Asks uuid (restoring r) = bytes_eq r.follower uuid ≡ true
Asks uuid (replicating t) = bytes_eq t.follower uuid ≡ true

-- what the follower sends carries its name, and no message with that name has a number that it is yet to draw
pub record IsFresh (s : State) (f : ℕ) (own : Follower) : Type 0 where
  pub named : Asks (uuid_of f) own.work
  pub drawn : AllByRecursion (λ (m : Frame). bytes_eq m.follower (uuid_of f) ≡ true → m.request < next_request_of own.work) s.flight

-- ---- requests for parts of files

-- the message has the number of this request, which was sent
abbrev pub has_number_of : ℕ → ChunkAsked → Bool
has_number_of request a = (request == a.request) && is_sent a.progress

-- a follower that still waits for what a request of this name and number asked for fetches this session
abbrev pub AsksOfSession : State → List ℕ → ℕ → ℕ → Type 0
AsksOfSession s uuid request session =
    (f : ℕ) (own : Follower) (r : Restore) (fetch : Fetch) → slice_get s.followers f ≡ Some own → own.work ≡ restoring r → r.stage ≡ fetching fetch
    → bytes_eq uuid (uuid_of f) ≡ true → list_any (has_number_of request) fetch.asks ≡ true → fetch.session ≡ session

-- the follower waits for an answer to a request of this number
abbrev pub stage_waits_for : ℕ → Stage → Bool
stage_waits_for n (leasing a) = (n == a.request) && is_sent a.progress
stage_waits_for n (opening a) = (n == a.request) && is_sent a.progress
stage_waits_for n (fetching f) = list_any (λ (a : ChunkAsked). (a.request == n) && is_sent a.progress) f.asks

abbrev pub waits_for : ℕ → Work → Bool
waits_for n (restoring r) = stage_waits_for n r.stage
waits_for n (replicating t) = list_any (λ (r : Read). (r.request == n) && is_sent r.progress) t.reads

-- no follower of this name waits for an answer to a request of this number
abbrev pub IsAwaitedByNone : State → List ℕ → ℕ → Type 0
IsAwaitedByNone s uuid request = (f : ℕ) (own : Follower) → slice_get s.followers f ≡ Some own → bytes_eq uuid (uuid_of f) ≡ true → waits_for request own.work ≡ false

-- ---- answers that bring a bootstrap on

-- the lease is there
abbrev pub is_added : Content → Bool
is_added (contents.LeaseAdded number) = true
is_added (contents.LeaseAnswer results.Exists number) = true
is_added _ = false

-- the bootstrap waits for the message, and asks for a session then: its lease is there, or the session that it fetched is gone
abbrev pub opens_next : Frame → Work → Bool
opens_next m (restoring r) = elim r.stage as (λ _. Bool) [
  | leasing a ↦ answers m a && is_added m.content
  | opening a ↦ false
  | fetching f ↦ is_some (ask_sent f m.request) && is_gone m.content
]
opens_next m (replicating t) = false
