-- What may be done to settle a world, one event after another, and what a worker reads of it.
use Rattle.std.specs.Prelude.{◌≡◌, ℕ, Bool, true, false, not, ◌&&◌, ◌||◌, ◌==◌, nat_lt, min, if◌then◌else◌, List, [], ◌∷◌, ◌++◌, map, filter_map, slice_get, Option, Some, None, is_some, is_none}
use Rattle.std.specs.Option.{option_map, option_map_or}
use Rattle.std.specs.List.{list_any}
use Rattle.std.specs.Str.{bytes_eq}
use Rattle.ccr_op.specs.Operation.{Operation}
use Rattle.ccr_tracker.specs.Numbers.{has}
use Rattle.ccr_lease.specs.Leases.{supersedes}
use Rattle.ccr_op.specs.Sameness.{same_operations}
use Rattle.ccr_journal.specs.declared.sides.Side.{Side}
use Rattle.ccr_journal.specs.declared.sides.Side.TheVariants as sides
use Rattle.ccr_journal.specs.declared.sides.Phase.{Phase}
use Rattle.ccr_journal.specs.declared.events.Event.{Event}
use Rattle.ccr_journal.specs.declared.events.Event.TheVariants as events
use Rattle.ccr_journal.specs.declared.journals.Entry.{Entry}
use Rattle.ccr_journal.specs.declared.replies.Reply.TheVariants as replies
use Rattle.ccr_model.specs.Copies.{Copy, Replica, Copies, replica_of, copy_of, not_ready, has_lease}
use Rattle.ccr_model.specs.Requests.{Progress, on_its_way, waiting, held_back, is_due}
use Rattle.ccr_model.specs.Tasks.{Read, Write, may_read, sent_reads}
use Rattle.ccr_model.specs.Restores.{Stage, leasing, opening, fetching, ChunkAsked, sent_requests}
use Rattle.ccr_model.specs.Leaders.{Poll, polls_of}
use Rattle.ccr_model.specs.Followers.{Follower, Work, restoring, replicating, uuid_of, phase_of_work}
use Rattle.ccr_model.specs.FollowerRows.{Sent, sent_write, has_all, lacks}
use Rattle.ccr_model.specs.World.{State}
use Rattle.ccr_model.specs.Step.{outcome_at}

-- ---- what a worker reads

-- a follower's phase, the epoch that it keeps, and its primary
pub record FollowerNote : Type 0 where
  pub phase : Phase
  pub epoch : ℕ
  pub primary : ℕ

pub record Note : Type 0 where
  pub primary : ℕ
  pub follower : Option FollowerNote

-- the leader's primary, and of a follower what a command has to know
abbrev pub note_of : State → ℕ → Note
note_of s f = record {
  primary = s.leader.copies.primary.number;
  follower = option_map {T = Follower} {U = FollowerNote} (λ own. record { phase = phase_of_work own.work; epoch = own.epoch; primary = own.copies.primary.number }) (slice_get s.followers f);
}

-- ---- copies

abbrev pub copies_at : State → Side → Option Copies
copies_at s sides.Leader = Some s.leader.copies
copies_at s (sides.Follower f) = option_map {T = Follower} {U = Copies} (λ own. own.copies) (slice_get s.followers f)

-- what may be done with a replica of a shard
abbrev pub for_replica : (Copies → Replica → Bool) → ℕ → Option Copies → Bool
for_replica may copy None = false
for_replica may copy (Some s) = option_map_or (may s) (replica_of s copy) false

-- the replica lacks an operation that the primary has processed
abbrev pub may_replicate : ℕ → Copies → Replica → Bool
may_replicate seq s r = r.resynced && has s.primary.seen seq && not (has r.copy.seen seq)

-- the primary doesn't know its count, or that it was resynced
abbrev pub may_ack : Copies → Replica → Bool
may_ack s r = r.resynced && (nat_lt r.known r.copy.seen.count || not r.acked)

-- it doesn't know the global count or the leases
abbrev pub may_sync : Copies → Replica → Bool
may_sync s r = r.resynced && (nat_lt r.copy.global s.primary.global || supersedes s.primary.leases r.copy.leases)

abbrev pub may_resync : Copies → Replica → Bool
may_resync s r = not r.resynced

-- ---- messages

-- the poll at this place has something to bring
abbrev pub may_wake : State → ℕ → ℕ → Bool
may_wake s f at =
    option_map_or (λ (p : Poll). option_map_or (λ (c : Copy). nat_lt p.from c.global) (copy_of s.leader.copies p.copy) false)
    (slice_get (polls_of s.leader.polls (uuid_of f)) at) false

-- the number of the request at this place among those that were sent
abbrev pub request_at : Work → ℕ → Option ℕ
request_at (restoring r) at = slice_get (sent_requests r.stage) at
request_at (replicating t) at = option_map {T = Read} {U = ℕ} (λ r. r.request) (slice_get (sent_reads t) at)

-- an answer to the request may still come: a message of it is in flight, it is parked, or it is kept and its lease is there
abbrev pub may_be_answered : State → List ℕ → ℕ → Bool
may_be_answered s uuid request =
    list_any (λ m. bytes_eq m.follower uuid && (m.request == request)) s.flight
    || list_any (λ p. bytes_eq p.follower uuid && (p.request == request)) s.leader.polls
    || list_any (λ k. bytes_eq k.follower uuid && (k.request == request) && has_lease k.id s.leader.copies.primary) s.leader.kept

-- the request at this place is lost
abbrev pub may_lose : State → ℕ → ℕ → Bool
may_lose s f at =
    option_map_or (λ (own : Follower). option_map_or (λ (request : ℕ). not (may_be_answered s (uuid_of f) request)) (request_at own.work at) false)
    (slice_get s.followers f) false

-- ---- writes, retries and clocks

-- the write has an operation that the follower's primary has not processed, and this is its batch
abbrev pub may_apply : Follower → ℕ → List Operation → Option Sent → Bool
may_apply s epoch batch None = false
may_apply s epoch batch (Some w) = (epoch == s.epoch) && same_operations w.write.batch batch && not (has_all batch s.copies.primary)

-- each copy has processed the write
abbrev pub may_end : Follower → Option Sent → Bool
may_end s None = false
may_end s (Some w) = is_none (lacks w.write.batch s.copies)

-- what waits and counts: reads that may not be sent for the buffer's bounds don't
abbrev pub waits_in_stage : Stage → List Progress
waits_in_stage (leasing a) = a.progress ∷ []
waits_in_stage (opening a) = a.progress ∷ []
waits_in_stage (fetching f) = map {A = ChunkAsked} {B = Progress} (λ a. a.progress) f.asks

abbrev pub waits_in : Work → List Progress
waits_in (restoring r) = waits_in_stage r.stage
waits_in (replicating t) =
    (if may_read t then map {A = Read} {B = Progress} (λ r. r.progress) t.reads else []) ++ map {A = Write} {B = Progress} (λ w. w.progress) t.writes

-- something waited long enough
abbrev pub may_tick : Follower → Bool
may_tick s = list_any (is_due s.now) (waits_in s.work)

abbrev pub time_of : Progress → Option ℕ
time_of on_its_way = None
time_of (waiting until) = Some until
time_of held_back = None

abbrev pub least_of : List ℕ → Option ℕ
least_of [] = None
least_of (n ∷ ns) = Some (option_map_or (λ m. min n m) (least_of ns) n)

-- the least time until which something waits
abbrev pub waits_until : Work → Option ℕ
waits_until work = least_of (filter_map time_of (waits_in work))

-- ---- settling

abbrev pub for_named : State → ℕ → (Follower → Bool) → Bool
for_named s f may = option_map_or may (slice_get s.followers f) false

-- the event brings the world nearer to where nothing is left to be done; clocks apart. A message waits for a leader that is ready, which
-- settling makes it first: an unready one answers a request so that it comes again, and again.
abbrev pub may_act : State → Event → Bool
may_act s (events.Replicate side copy seq) = for_replica (may_replicate seq) copy (copies_at s side)
may_act s (events.Ack side copy) = for_replica may_ack copy (copies_at s side)
may_act s (events.Sync side copy) = for_replica may_sync copy (copies_at s side)
may_act s (events.Resync copy) = for_replica may_resync copy (Some s.leader.copies)
may_act s (events.Deliver at copy keep) =
    is_some (slice_get s.flight at) && (copy == s.leader.copies.primary.number) && not keep && is_none (not_ready s.leader.copies)
may_act s (events.Wake f at) = for_named s f (λ own. may_wake s f at)
may_act s (events.Lose f at) = may_lose s f at
may_act s (events.Apply f epoch write batch) = for_named s f (λ own. may_apply own epoch batch (sent_write own.work write))
may_act s (events.Written f write) = for_named s f (λ own. may_end own (sent_write own.work write))
may_act s (events.Tick f) = for_named s f may_tick
may_act s _ = false

-- a follower's clock is set to the least time until which something waits, where nothing else may be done
pub record MaySetClock (s : State) (f now : ℕ) : Type 0 where
  pub follower : Follower
  pub is : slice_get s.followers f ≡ Some follower
  pub least : waits_until follower.work ≡ Some now
  pub alone : (event : Event) → may_act s event ≡ false

-- the events that bring a world nearer to being settled, clocks among them
abbrev pub MaySettle : State → Event → Type 0
MaySettle s (events.Clock (sides.Follower f) now) = MaySetClock s f now
MaySettle s event = may_act s event ≡ true

-- the events that settling may use, whether they bring the world nearer or not: two workers may do the same. Refused ones may be among them.
abbrev pub IsSettling : State → Event → Type 0
IsSettling s (events.Replicate side copy seq) = Unit {0}
IsSettling s (events.Ack side copy) = Unit {0}
IsSettling s (events.Sync side copy) = Unit {0}
IsSettling s (events.Resync copy) = Unit {0}
IsSettling s (events.Take f write) = Unit {0}
IsSettling s (events.Apply f epoch write batch) = Unit {0}
IsSettling s (events.Written f write) = Unit {0}
IsSettling s (events.Tick f) = Unit {0}
IsSettling s (events.Deliver at copy keep) = (copy ≡ s.leader.copies.primary.number) × (keep ≡ false)
IsSettling s (events.Wake f at) = may_wake s f at ≡ true
IsSettling s (events.Lose f at) = may_lose s f at ≡ true
IsSettling s (events.Clock (sides.Follower f) now) = MaySetClock s f now
IsSettling s _ = ⊥

-- a settle: events that settling may use, each at its place, and one Settle that is answered
abbrev pub IsSettleRun : State → List Entry → Type 0
IsSettleRun s [] = ⊥
IsSettleRun s (entry ∷ []) = (entry.event ≡ events.Settle) × (entry.reply ≡ replies.Settled)
IsSettleRun s (entry ∷ next ∷ entries) = IsSettling s entry.event × IsSettleRun (outcome_at s entry).next (next ∷ entries)
