-- What holds of the copies of the followers, with the parts that make it pass from each place to the next.
use Rattle.std.specs.Prelude.{◌≡◌, ℕ, ◌≤◌, ◌<◌, ◌==◌, Bool, true, false, List, [], Option, Some, None, is_some, slice_get, flat_map}
use Rattle.std.specs.List.{AllByRecursion}
use Rattle.ccr_op.specs.Operation.{Operation}
use Rattle.ccr_tracker.specs.Numbers.{has, IsCanonical}
use Rattle.ccr_wire.specs.Message.{Frame}
use Rattle.ccr_journal.specs.Params.{IsCopyCount}
use Rattle.ccr_journal.specs.declared.events.Event.{Event}
use Rattle.ccr_journal.specs.declared.events.Event.TheVariants as events
use Rattle.ccr_model.specs.Requests.{Sending}
use Rattle.ccr_model.specs.Copies.{Copy, Replica, Copies, least_known}
use Rattle.ccr_model.specs.TaskFacts.{batches_of}
use Rattle.ccr_model.specs.Restores.{Restore, fetching, Fetch, files_of, is_complete, ends_restore, restore_hears}
use Rattle.ccr_model.specs.Followers.{Follower, Work, restoring, replicating}
use Rattle.ccr_model.specs.FollowerRows.{is_bootstrapping}
use Rattle.ccr_model.specs.World.{State, follower_of}
use Rattle.ccr_model.specs.Past.{Line, Past, FollowerPast, WrittenBatch, no_past, line_of}
use Rattle.ccr_model.specs.FrameFacts.{IsCommitted}
use Rattle.ccr_model.specs.Invariants.{HasProcessed, AreTrueCopies}
use Rattle.ccr_model.specs.Headline.{KeepsWritten}
use Rattle.ccr_law_copies.specs.Cores.{Apart}
use Rattle.ccr_law_stores.specs.TrueStores.{IsTrueStore, IsTrueHistory}

-- ---- one copy

-- a copy has a number before the next. It was given committed operations alone, each told by its number, and has processed just these, in
-- the one form of such a set: all below the global count that it knows, and all that was answered as written. What it holds serves for it.
pub record CopyOk (line : Line) (ops : ℕ → Option Operation) (restored : ℕ) (written : List WrittenBatch) (next : ℕ) (c : Copy) : Type 0 where
  pub old : c.number < next
  pub committed : (n : ℕ) (op : Operation) → ops n ≡ Some op → IsCommitted line op × (op.seq ≡ n)
  pub processed : (n : ℕ) → has c.seen n ≡ is_some (ops n)
  pub ordered : IsCanonical c.seen
  pub reached : c.global ≤ c.seen.count
  pub store : IsTrueStore ops restored c
  pub all : AllByRecursion (HasProcessed c) written

-- a replica is another copy than the primary; it always counts as resynced and acked. It knows of no more than the primary, has processed
-- all below the count that the primary knows, and has at least its known count.
pub record ReplicaOk (line : Line) (ops : ℕ → Option Operation) (restored : ℕ) (written : List WrittenBatch) (primary global next : ℕ) (r : Replica) : Type 0 where
  pub copy : CopyOk line ops restored written next r.copy
  pub other : (r.copy.number == primary) ≡ false
  pub truly : r.known ≤ r.copy.seen.count
  pub behind : r.copy.global ≤ global
  pub level : global ≤ r.copy.seen.count
  pub resynced : r.resynced ≡ true
  pub acked : r.acked ≡ true

-- ---- the copies of a follower

pub record CopiesOk (line : Line) (given : ℕ → ℕ → Option Operation) (restored : ℕ) (written : List WrittenBatch) (primary : Copy) (replicas : List Replica) (next : ℕ) : Type 0 where
  pub own : CopyOk line (given primary.number) restored written next primary
  pub others : AllByRecursion (λ (r : Replica). ReplicaOk line (given r.copy.number) restored written primary.number primary.global next r) replicas
  pub apart : Apart replicas

abbrev pub CopiesOf : Line → (ℕ → ℕ → Option Operation) → ℕ → List WrittenBatch → Copies → Type 0
CopiesOf line given restored written s = CopiesOk line given restored written s.primary s.replicas s.next

-- nothing was given, nothing restored and nothing written
pub record IsNew (given : ℕ → ℕ → Option Operation) (restored : ℕ) (written : List WrittenBatch) : Type 0 where
  pub none : (copy n : ℕ) → given copy n ≡ None
  pub from_empty : restored ≡ 0
  pub unwritten : written ≡ []

-- the global count that the primary knows is at least the least known count; up to the end of its bootstrap a follower's copies have nothing
pub record FollowerOk (line : Line) (given : ℕ → ℕ → Option Operation) (restored : ℕ) (written : List WrittenBatch) (bootstrapping : Bool) (s : Copies) : Type 0 where
  pub copies : CopiesOf line given restored written s
  pub counted : least_known s.primary.seen.count s.replicas ≤ s.primary.global
  pub fresh : bootstrapping ≡ true → IsNew given restored written

-- the copies of each follower, by the line of its own history; of a follower that wasn't made yet nothing is told
pub record FollowersOk (lines : List ℕ → Line) (pasts : ℕ → FollowerPast) (followers : List Follower) : Type 0 where
  pub made : (f : ℕ) (s : Follower) → slice_get followers f ≡ Some s → FollowerOk (lines s.history) (pasts f).given (pasts f).restored (pasts f).written (is_bootstrapping s.work) s.copies
  pub unmade : (f : ℕ) → slice_get followers f ≡ None → pasts f ≡ no_past

-- what holds of the followers' copies at a place
abbrev pub HasTrueCopies : Past → Type 0
HasTrueCopies p = FollowersOk (line_of p) p.followers p.state.followers

-- ---- what earlier claims say of a place

-- the batches that wait for their write are committed
abbrev pub HasCommittedBatches : Line → Work → Type 0
HasCommittedBatches line (restoring r) = Unit {0}
HasCommittedBatches line (replicating t) = AllByRecursion (IsCommitted line) (batches_of t.writes)

abbrev pub WritesCommitted : Past → Type 0
WritesCommitted p = (f : ℕ) (s : Follower) → slice_get p.state.followers f ≡ Some s → HasCommittedBatches (line_of p s.history) s.work

-- all operations of some files
abbrev pub all_in : List (List Operation) → List Operation
all_in files = flat_map {X = List Operation} {A = Operation} (λ part. part) files

-- where a message brings the last part of the files, these are the line's history up to the session's count
abbrev pub BringsHistory : Line → Follower → Frame → Type 0
BringsHistory line s m =
    (r : Restore) (done : Sending Restore) (f : Fetch) → s.work ≡ restoring r → restore_hears r s.now m ≡ Some done → done.next.stage ≡ fetching f → ends_restore r m ≡ false
    → is_complete done.next.chunk_size f ≡ true → IsTrueHistory line f.count (all_in (files_of done.next.chunk_size f))

abbrev pub FetchesTruly : Past → Type 0
FetchesTruly p = (at f : ℕ) (m : Frame) (s : Follower) → slice_get p.state.flight at ≡ Some m → follower_of p.state.followers m.follower ≡ Some f
    → slice_get p.state.followers f ≡ Some s → BringsHistory (line_of p s.history) s m

-- a new follower has 1 to 8 copies
abbrev pub HasGoodCount : Event → Type 0
HasGoodCount (events.Follow params copies name) = IsCopyCount copies
HasGoodCount _ = Unit {0}

-- ---- what the claims imply

pub record IsTrueCopyGroup (p : Past) (f : ℕ) (s : Follower) : Type 0 where
  pub copies : AreTrueCopies (line_of p s.history) (p.followers f) s.copies
  pub written : KeepsWritten (p.followers f) s.copies

-- no follower's primary knows a lesser global count than before, be it another primary
abbrev pub Rises : State → State → Type 0
Rises before after = (f : ℕ) (s now : Follower) → slice_get before.followers f ≡ Some s → slice_get after.followers f ≡ Some now
    → s.copies.primary.global ≤ now.copies.primary.global
