-- Where nothing of a follower may be done to settle it.
use Rattle.std.specs.Prelude.{◌≡◌, ℕ, ◌≤◌, ◌<◌, Bool, true, false, not, List, slice_get, IfSome, Some}
use Rattle.std.specs.List.{list_any}
use Rattle.std.specs.Option.{option_map_or}
use Rattle.ccr_op.specs.Operation.{Operation}
use Rattle.ccr_journal.specs.declared.sides.Side.TheVariants as sides
use Rattle.ccr_journal.specs.declared.events.Event.{Event}
use Rattle.ccr_journal.specs.declared.events.Event.TheVariants as events
use Rattle.ccr_changes.specs.Waits.{waits_for}
use Rattle.ccr_model.specs.Leaders.{Poll}
use Rattle.ccr_model.specs.Followers.{Follower, Work, uuid_of}
use Rattle.ccr_model.specs.FollowerRows.{sent_write}
use Rattle.ccr_model.specs.World.{State}
use Rattle.ccr_model.specs.Settling.{may_apply, may_end, may_tick, request_at}
use Rattle.ccr_settling.specs.Served.{AreServed, Serves}

-- no poll waits for the answer to the request of this follower at this place, where one was sent
abbrev pub is_unpolled : List Poll → ℕ → Work → ℕ → Bool
is_unpolled polls f work at = option_map_or (λ (request : ℕ). not (list_any (waits_for (uuid_of f) request) polls)) (request_at work at) false

-- no batch of a write that was sent is to be applied, under this number
abbrev pub IsApplied : Follower → ℕ → Type 0
IsApplied s write = (epoch : ℕ) (batch : List Operation) → may_apply s epoch batch (sent_write s.work write) ≡ false

-- no write of this number may end
abbrev pub IsStillGoing : Follower → ℕ → Type 0
IsStillGoing s write = may_end s (sent_write s.work write) ≡ false

-- nothing may be done with the follower of this number, where these polls wait at the leader; its own polls and what is in flight apart
pub record IsStill (f : ℕ) (polls : List Poll) (s : Follower) : Type 0 where
  pub copies : AreServed s.copies
  pub written : (write : ℕ) → IsStillGoing s write
  pub applied : (write : ℕ) → IsApplied s write
  pub timely : may_tick s ≡ false
  pub awaited : (at : ℕ) → is_unpolled polls f s.work at ≡ false

-- the event is one of the follower of this number, and may be done
abbrev pub Acts : ℕ → List Poll → Follower → Event → Type 0
Acts f polls s (events.Written g write) = (g ≡ f) × (may_end s (sent_write s.work write) ≡ true)
Acts f polls s (events.Apply g epoch write batch) = (g ≡ f) × (may_apply s epoch batch (sent_write s.work write) ≡ true)
Acts f polls s (events.Tick g) = (g ≡ f) × (may_tick s ≡ true)
Acts f polls s (events.Lose g at) = (g ≡ f) × (is_unpolled polls f s.work at ≡ true)
Acts f polls s event = Serves (sides.Follower f) s.copies event

-- the follower of this number is still
abbrev pub IsStillAt : State → ℕ → Type 0
IsStillAt s f = IfSome (slice_get s.followers f) (IsStill f s.leader.polls)

-- and all from one to below another
abbrev pub AreStillBetween : State → ℕ → ℕ → Type 0
AreStillBetween s first end = (f : ℕ) → first ≤ f → f < end → IsStillAt s f

-- the event is one of a follower that is there, and may be done
pub record ActsThere (s : State) (event : Event) : Type 0 where
  pub f : ℕ
  pub follower : Follower
  pub is : slice_get s.followers f ≡ Some follower
  pub acts : Acts f s.leader.polls follower event
