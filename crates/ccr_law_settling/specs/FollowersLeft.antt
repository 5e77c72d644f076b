-- What is left at the followers where nothing may be done: nothing.
use Rattle.std.specs.Prelude.{◌≡◌, ℕ, true, false, [], None, slice_get, Some}
use Rattle.std.specs.List.{list_all}
use Rattle.ccr_model.specs.Copies.{all_copies}
use Rattle.ccr_model.specs.Tasks.{Task, is_active}
use Rattle.ccr_model.specs.Followers.{Follower, replicating}
use Rattle.ccr_model.specs.FollowerRows.{is_bootstrapping}
use Rattle.ccr_model.specs.World.{State}
use Rattle.ccr_model.specs.Settled.{is_whole, is_follower_settled}
use Rattle.ccr_model.specs.Settling.{waits_until}
use Rattle.ccr_model.specs.Past.{Past}
use Rattle.ccr_model.specs.Invariants.{IsTrueLeader}
use Rattle.ccr_law_copies.specs.Cores.{IsCore}
use Rattle.ccr_law_messages.specs.TrueFrames.{HasTrueFrames}
use Rattle.ccr_law_tasks.specs.GoodFollowers.{HasGoodTasks}
use Rattle.ccr_law_followers.specs.CopyLaws.{HasTrueFollowers}
use Rattle.ccr_law_settling.specs.Left.{NothingMayBeDone}
use Rattle.ccr_law_settling_grounds.specs.Purposes.{HasPurposes}
use Rattle.ccr_law_settling_grounds.specs.KnownCounts.{HasKnownCounts}
use Rattle.ccr_law_settling_grounds.specs.Parked.{IsParkedRightly}
use Rattle.ccr_law_settling_grounds.specs.Pending.{HasPending}

-- what is taken of a place
pub record IsGroundOfSettling (p : Past) : Type 0 where
  pub leader : IsTrueLeader p
  pub core : IsCore p
  pub frames : HasTrueFrames p
  pub tasks : HasGoodTasks p
  pub followers : HasTrueFollowers p
  pub purposes : HasPurposes p.state
  pub known : HasKnownCounts p
  pub parked : IsParkedRightly p.state.leader
  pub pending : HasPending p.state

-- no follower waits for a time, so no clock may be set
abbrev pub NoneWaits : State → Type 0
NoneWaits s = (f : ℕ) (own : Follower) → slice_get s.followers f ≡ Some own → waits_until own.work ≡ None

-- nothing may be done, and no clock may be set
pub record IsStill (p : Past) : Type 0 where
  pub done : NothingMayBeDone p.state
  pub untimed : NoneWaits p.state

-- a task has nothing to write
pub record HasNothingToWrite (t : Task) : Type 0 where
  pub writes : t.writes ≡ []
  pub buffer : t.buffer ≡ []

abbrev pub AreFollowersSettled : State → Type 0
AreFollowersSettled s = list_all (is_follower_settled s.leader.history s.leader.copies.primary.seen.count) s.followers ≡ true

-- no follower is still in its bootstrap
abbrev pub BootstrapsEnd : Type 0
BootstrapsEnd = (p : Past) → IsGroundOfSettling p → IsStill p → (f : ℕ) (own : Follower) → slice_get p.state.followers f ≡ Some own → is_bootstrapping own.work ≡ false

-- no task has anything to write
abbrev pub WritesEnd : Type 0
WritesEnd = (p : Past) → IsGroundOfSettling p → IsStill p → (f : ℕ) (own : Follower) (t : Task) → slice_get p.state.followers f ≡ Some own → own.work ≡ replicating t → HasNothingToWrite t

-- a follower has the leader's history, and its copies have all of it and know that
pub record HasLeadersHistory (s : State) (own : Follower) : Type 0 where
  pub history : own.history ≡ s.leader.history
  pub whole : list_all (is_whole s.leader.copies.primary.seen.count) (all_copies own.copies) ≡ true

-- where a task is active, its follower has the leader's history, and its copies are whole
abbrev pub ActiveIsWhole : Type 0
ActiveIsWhole = (p : Past) → IsGroundOfSettling p → IsStill p → (f : ℕ) (own : Follower) (t : Task) → slice_get p.state.followers f ≡ Some own → own.work ≡ replicating t
    → HasNothingToWrite t → is_active t.phase ≡ true → HasLeadersHistory p.state own

-- so each follower is settled
abbrev pub FollowersEnd : Type 0
FollowersEnd = (p : Past) → IsGroundOfSettling p → IsStill p → AreFollowersSettled p.state
