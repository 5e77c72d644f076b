-- What is proved of settling: the events that lower the measure.
use Rattle.std.specs.Prelude.{◌≡◌, ℕ, Bool, true, false, List, length, Some, None, is_some, slice_get}
use Rattle.ccr_op.specs.Operation.{Operation}
use Rattle.ccr_wire.specs.Message.{Frame, kind_of_content}
use Rattle.ccr_wire.specs.declared.content.Content.{Content}
use Rattle.ccr_wire.specs.declared.content.Content.TheVariants as contents
use Rattle.ccr_journal.specs.declared.sides.Side.{Side}
use Rattle.ccr_journal.specs.declared.sides.Side.TheVariants as sides
use Rattle.ccr_journal.specs.declared.events.Event.{Event}
use Rattle.ccr_journal.specs.declared.events.Event.TheVariants as events
use Rattle.ccr_model.specs.Copies.{not_ready}
use Rattle.ccr_model.specs.Leaders.{session_of}
use Rattle.ccr_model.specs.Followers.{Follower}
use Rattle.ccr_model.specs.FollowerRows.{is_bootstrapping}
use Rattle.ccr_model.specs.World.{State, goes_to_leader, follower_of}
use Rattle.ccr_model.specs.Step.{step}
use Rattle.ccr_model.specs.Settling.{MaySettle}
use Rattle.ccr_model.specs.Past.{Past, line_of}
use Rattle.ccr_law_base.specs.Events.{past_by}
use Rattle.ccr_law_settling.specs.Measure.{Five, IsBelow, IsLower, measure}
use Rattle.ccr_law_settling.specs.Within.{AreRequestsApart, KnowsWithin, IsAwaitedByNone, opens_next}

-- how many operations each history has
abbrev pub counts_of : Past → List ℕ → ℕ
counts_of p history = length (line_of p history).ops

-- where the event may be used to settle, the measure is lower after it
abbrev pub Lowers : (List ℕ → ℕ) → State → Event → Type 0
Lowers count_of s event = MaySettle s event → (picks : List ℕ) → IsLower count_of (step s event picks).next s

-- the measure at a place, by the operations that each history has there
abbrev pub measure_at : Past → Five
measure_at p = measure (counts_of p) p.state

-- where the event may be used to settle, the measure is lower at the place after it
abbrev pub LowersAt : Past → Event → Type 0
LowersAt p event = MaySettle p.state event → (picks : List ℕ) → IsBelow (measure_at (past_by p event picks)) (measure_at p)

-- the events about copies, and an apply
pub record CopyingLowers (count_of : List ℕ → ℕ) (s : State) : Type 0 where
  pub replicate : (side : Side) (copy seq : ℕ) → Lowers count_of s (events.Replicate side copy seq)
  pub ack : (side : Side) (copy : ℕ) → Lowers count_of s (events.Ack side copy)
  pub sync : (side : Side) (copy : ℕ) → Lowers count_of s (events.Sync side copy)
  pub resync : (copy : ℕ) → Lowers count_of s (events.Resync copy)
  pub apply : (f epoch write : ℕ) (batch : List Operation) → Lowers count_of s (events.Apply f epoch write batch)

-- a wake, a loss of a request whose number no other has, and a follower's clock
pub record WaitingLowers (count_of : List ℕ → ℕ) (s : State) : Type 0 where
  pub wake : (f at : ℕ) → Lowers count_of s (events.Wake f at)
  pub lose : (f at : ℕ) → ((own : Follower) → slice_get s.followers f ≡ Some own → AreRequestsApart own.work) → Lowers count_of s (events.Lose f at)
  pub clock : (f now : ℕ) → Lowers count_of s (events.Clock (sides.Follower f) now)

-- the end of a write, where the task knows of no more than the history has
pub record EndingLowers (count_of : List ℕ → ℕ) (s : State) : Type 0 where
  pub written : (f write : ℕ) → ((own : Follower) → slice_get s.followers f ≡ Some own → KnowsWithin (count_of own.history) own.work)
      → Lowers count_of s (events.Written f write)

-- a message is in flight at this place
abbrev pub IsInFlight : State → ℕ → List ℕ → ℕ → Content → Type 0
IsInFlight s at follower request content = slice_get s.flight at ≡ Some (record { follower = follower; request = request; content = content })

-- the delivery to the leader: of a read; of the renewal and the removal of a lease; of the request for a lease, and for a session, where
-- the leader is ready; and of that for a part of a file of a session that is open. And that to a follower: of the word that the leader isn't ready.
pub record DeliveryLowers (count_of : List ℕ → ℕ) (s : State) : Type 0 where
  pub read : (at copy : ℕ) (keep : Bool) (follower : List ℕ) (request : ℕ) (history : List ℕ) (from max_ops max_bytes timeout : ℕ)
      → IsInFlight s at follower request (contents.ReadRequest history from max_ops max_bytes timeout) → Lowers count_of s (events.Deliver at copy keep)
  pub removal : (at copy : ℕ) (keep : Bool) (follower : List ℕ) (request : ℕ) (id : List ℕ)
      → IsInFlight s at follower request (contents.LeaseRemove id) → Lowers count_of s (events.Deliver at copy keep)
  pub renewal : (at copy : ℕ) (keep : Bool) (follower : List ℕ) (request : ℕ) (id : List ℕ) (number : ℕ)
      → IsInFlight s at follower request (contents.LeaseRenew id number) → Lowers count_of s (events.Deliver at copy keep)
  pub addition : (at copy : ℕ) (keep : Bool) (follower : List ℕ) (request : ℕ) (id : List ℕ) → not_ready s.leader.copies ≡ None
      → IsInFlight s at follower request (contents.LeaseAdd id) → Lowers count_of s (events.Deliver at copy keep)
  pub session : (at copy : ℕ) (keep : Bool) (follower : List ℕ) (request : ℕ) → not_ready s.leader.copies ≡ None
      → IsInFlight s at follower request contents.SessionOpen → Lowers count_of s (events.Deliver at copy keep)
  pub chunk : (at copy : ℕ) (keep : Bool) (follower : List ℕ) (request session file offset size : ℕ) → is_some (session_of s.leader.sessions session) ≡ true
      → IsInFlight s at follower request (contents.ChunkRequest session file offset size) → Lowers count_of s (events.Deliver at copy keep)
  pub refusal : (at copy : ℕ) (keep : Bool) (follower : List ℕ) (request unready : ℕ)
      → IsInFlight s at follower request (contents.NotReady unready) → Lowers count_of s (events.Deliver at copy keep)

-- where the messages in flight agree with what the followers asked for: a loss of any request, the tick of a follower that bootstraps, and the
-- delivery to the leader of any request for a part of a file, and to a follower of any message that it doesn't wait
-- for, or that makes its bootstrap ask for a session
pub record AskingLowers (count_of : List ℕ → ℕ) (s : State) : Type 0 where
  pub lose : (f at : ℕ) → Lowers count_of s (events.Lose f at)
  pub tick : (f : ℕ) → ((own : Follower) → slice_get s.followers f ≡ Some own → is_bootstrapping own.work ≡ true) → Lowers count_of s (events.Tick f)
  pub part : (at copy : ℕ) (keep : Bool) (follower : List ℕ) (request session file offset size : ℕ)
      → IsInFlight s at follower request (contents.ChunkRequest session file offset size) → Lowers count_of s (events.Deliver at copy keep)
  pub stale : (at copy : ℕ) (keep : Bool) (m : Frame) → slice_get s.flight at ≡ Some m → goes_to_leader (kind_of_content m.content) ≡ false
      → IsAwaitedByNone s m.follower m.request → Lowers count_of s (events.Deliver at copy keep)
  pub opening : (at copy : ℕ) (keep : Bool) (m : Frame) (f : ℕ) (own : Follower) → slice_get s.flight at ≡ Some m → goes_to_leader (kind_of_content m.content) ≡ false
      → follower_of s.followers m.follower ≡ Some f → slice_get s.followers f ≡ Some own → opens_next m own.work ≡ true → Lowers count_of s (events.Deliver at copy keep)
