-- What holds at every place of a legal journal. Each part uses itself and those before it.
use Rattle.std.specs.Prelude.{◌≡◌, ℕ, ◌≤◌, Bool, true, false, ◌&&◌, if◌then◌else◌, ◌⊎◌, List, [], slice_get, Option, Some, None, IfSome}
use Rattle.std.specs.List.{AllByRecursion, filter_map}
use Rattle.std.specs.Str.{bytes_eq}
use Rattle.ccr_op.specs.Operation.{Operation}
use Rattle.ccr_tracker.specs.Numbers.{has}
use Rattle.ccr_wire.specs.Message.{Frame}
use Rattle.ccr_wire.specs.declared.content.Content.{Content}
use Rattle.ccr_wire.specs.declared.content.Content.TheVariants as contents
use Rattle.ccr_model.specs.Copies.{Copy, Replica, Copies, all_copies}
use Rattle.ccr_model.specs.Tasks.{Task, Read, is_active}
use Rattle.ccr_model.specs.Restores.{Stage, leasing, opening, fetching, answers}
use Rattle.ccr_model.specs.Followers.{Follower, Work, restoring, replicating, uuid_of}
use Rattle.ccr_model.specs.LeaseHistory.{retained, is_lost_after}
use Rattle.ccr_model.specs.World.{State}
use Rattle.ccr_model.specs.Past.{Line, Past, FollowerPast, WrittenBatch, line_of, all_notes}
use Rattle.ccr_model.specs.CopyFacts.{Ascend, IsLinePrimary, IsLineCopy, IsKnownTruly, KnowsWhenReady, HoldsEnough, RetainsTruly, IsBehind}
use Rattle.ccr_model.specs.FrameFacts.{AreTrueFrames, IsCommitted, reading_of}
use Rattle.ccr_model.specs.TaskFacts.{IsTrueTask, IsBounded}

-- ---- the leader's copies

-- what holds of a leader's replica
pub record IsTrueReplica (p : Past) (r : Replica) : Type 0 where
  pub line : IsLineCopy p.line (p.given r.copy.number) r.resynced r.copy
  pub known : IsKnownTruly r
  pub store : HoldsEnough (p.given r.copy.number) 0 r.copy
  pub leases : RetainsTruly p.notes r.copy
  pub behind : IsBehind p.state.leader.copies.primary.leases r.copy.leases

-- what holds of the leader's copies; a stale copy holds enough of what it was given
pub record IsTrueLeader (p : Past) : Type 0 where
  pub primary : IsLinePrimary p.line (p.given p.state.leader.copies.primary.number) p.state.leader.copies.primary
  pub copy : IsLineCopy p.line (p.given p.state.leader.copies.primary.number) true p.state.leader.copies.primary
  pub store : HoldsEnough (p.given p.state.leader.copies.primary.number) 0 p.state.leader.copies.primary
  pub leases : RetainsTruly p.notes p.state.leader.copies.primary
  pub replicas : AllByRecursion (IsTrueReplica p) p.state.leader.copies.replicas
  pub stale : AllByRecursion (λ (c : Copy). HoldsEnough (p.given c.number) 0 c) p.state.leader.stale
  pub ready : KnowsWhenReady p.line p.state.leader.copies

-- ---- a follower's copies

-- a follower's copy was given committed operations alone, has processed these, and holds enough of them
pub record IsTrueFollowerCopy (line : Line) (given : ℕ → ℕ → Option Operation) (restored : ℕ) (c : Copy) : Type 0 where
  pub committed : (n : ℕ) (op : Operation) → given c.number n ≡ Some op → IsCommitted line op × (op.seq ≡ n)
  pub processed : (n : ℕ) → has c.seen n ≡ true → (op : Operation) × (given c.number n ≡ Some op)
  pub taken : (n : ℕ) (op : Operation) → given c.number n ≡ Some op → has c.seen n ≡ true
  pub store : HoldsEnough (given c.number) restored c

-- a copy has processed all of a batch
abbrev pub HasProcessed : Copy → WrittenBatch → Type 0
HasProcessed c w = AllByRecursion (λ (op : Operation). has c.seen op.seq ≡ true) w.batch

pub record AreTrueCopies (line : Line) (past : FollowerPast) (s : Copies) : Type 0 where
  pub copies : AllByRecursion (IsTrueFollowerCopy line past.given past.restored) (all_copies s)
  pub known : AllByRecursion IsKnownTruly s.replicas
  pub written : AllByRecursion (λ (c : Copy). AllByRecursion (HasProcessed c) past.written) (all_copies s)

-- ---- its task

abbrev pub IsTrueReplication : Line → FollowerPast → Work → Type 0
IsTrueReplication line past (restoring r) = Unit {0}
IsTrueReplication line past (replicating t) = IsTrueTask line t past.begun_at past.written × IsBounded line t

-- ---- what its lease retains

-- since the lease answer that the bootstrap took was sent, nothing dropped or removed the lease
pub record IsKept (p : Past) (f : ℕ) (lease : List ℕ) : Type 0 where
  pub place : ℕ
  pub answer : (p.followers f).answer ≡ Some place
  pub kept : is_lost_after lease place (all_notes p) ≡ false

-- the number of a renewal of this lease
abbrev pub renewal_of : List ℕ → Content → Option ℕ
renewal_of lease (contents.LeaseRenew id number) = if bytes_eq id lease then Some number else None
renewal_of lease _ = None

-- the numbers of the renewals of this lease that are in flight
abbrev pub renewals_of : List ℕ → List Frame → List ℕ
renewals_of lease flight = filter_map (λ (m : Frame). renewal_of lease m.content) flight

-- the count of a session whose opening a message tells
abbrev pub count_opened : Content → Option ℕ
count_opened (contents.SessionOpened session history count sizes) = Some count
count_opened _ = None

-- the lease retains no more than the session that is opened or fetched has
abbrev pub RetainsForBootstrap : List Frame → ℕ → ℕ → Stage → Type 0
RetainsForBootstrap flight f retained_number (leasing a) = Unit {0}
RetainsForBootstrap flight f retained_number (opening a) =
    AllByRecursion (λ (m : Frame). (bytes_eq m.follower (uuid_of f) && answers m a) ≡ true → IfSome (count_opened m.content) (λ count. retained_number ≤ count)) flight
RetainsForBootstrap flight f retained_number (fetching fetch) = retained_number ≤ fetch.count

-- the number is at most what the follower's primary knows; in an active task it is also at most all that is or will be asked for
pub record IsNotNeeded (s : Follower) (t : Task) (number : ℕ) : Type 0 where
  pub global : number ≤ s.copies.primary.global
  pub next : is_active t.phase ≡ true → number ≤ t.next
  pub reads : is_active t.phase ≡ true → AllByRecursion (λ (r : Read). number ≤ r.from) t.reads

abbrev pub RetainsForWork : Past → ℕ → Follower → Work → Type 0
RetainsForWork p f s (restoring r) =
    (renewals_of s.lease p.state.flight ≡ [])
    × (retained s.lease p.notes ≤ p.line.cut)
    × (IsKept p f s.lease → RetainsForBootstrap p.state.flight f (retained s.lease p.notes) r.stage)
RetainsForWork p f s (replicating t) =
    IsKept p f s.lease → IsNotNeeded s t (retained s.lease p.notes) × AllByRecursion (IsNotNeeded s t) (renewals_of s.lease p.state.flight)

-- ---- what it is told to be missing

abbrev pub is_missing : Content → Bool
is_missing (contents.ReadMissing from floor) = true
is_missing _ = false

-- an expiry or a removal of the lease stands after the lease answer that the bootstrap took
pub record IsLost (p : Past) (f : ℕ) (lease : List ℕ) : Type 0 where
  pub place : ℕ
  pub answer : (p.followers f).answer ≡ Some place
  pub lost : is_lost_after lease place (all_notes p) ≡ true

-- a message that tells this follower that operations are missing answers no read of it, or its lease was lost
abbrev pub IsMissingTruly : Past → ℕ → Follower → Frame → Type 0
IsMissingTruly p f s m =
    (bytes_eq m.follower (uuid_of f) && is_missing m.content) ≡ true
    → (reading_of p.state m.follower m.request ≡ None) ⊎ IsLost p f s.lease

-- ---- all of it

-- its copies and its task have the line of its own history; its lease is spoken of where that is the leader's
pub record IsTrueFollower (p : Past) (f : ℕ) (s : Follower) : Type 0 where
  pub copies : AreTrueCopies (line_of p s.history) (p.followers f) s.copies
  pub work : IsTrueReplication (line_of p s.history) (p.followers f) s.work
  pub retained : s.history ≡ p.state.leader.history → RetainsForWork p f s s.work
  pub missing : AllByRecursion (IsMissingTruly p f s) p.state.flight

-- the replicas of the leader, and of each follower, stand in ascending number
pub record CopiesAscend (s : State) : Type 0 where
  pub leader : Ascend s.leader.copies
  pub followers : AllByRecursion (λ (f : Follower). Ascend f.copies) s.followers

pub record Invariant (p : Past) : Type 0 where
  pub order : CopiesAscend p.state
  pub leader : IsTrueLeader p
  pub frames : AreTrueFrames p
  pub followers : (f : ℕ) (s : Follower) → slice_get p.state.followers f ≡ Some s → IsTrueFollower p f s
