-- What every event keeps of the followers' copies and of their bootstraps, and what that says.
use Rattle.std.specs.Prelude.{◌≡◌, ℕ, List, slice_get, Some}
use Rattle.ccr_journal.specs.declared.events.Event.{Event}
use Rattle.ccr_model.specs.Leaders.{Start}
use Rattle.ccr_model.specs.Followers.{Follower}
use Rattle.ccr_model.specs.Fit.{IsFitEvent}
use Rattle.ccr_model.specs.Step.{step}
use Rattle.ccr_model.specs.Past.{Past, start_past, line_of}
use Rattle.ccr_model.specs.FrameFacts.{AreTrueFrames}
use Rattle.ccr_model.specs.Invariants.{IsTrueReplication}
use Rattle.ccr_model.specs.Headline.{HoldsCommitted, MergeKeepsLeased}
use Rattle.ccr_law_base.specs.Events.{past_by}
use Rattle.ccr_law_copies.specs.Cores.{IsCore, HasOnward}
use Rattle.ccr_law_stores.specs.TrueStores.{HasTrueStores}
use Rattle.ccr_law_followers.specs.TrueCopies.{HasTrueCopies, IsTrueCopyGroup, Rises}
use Rattle.ccr_law_followers.specs.Fetches.{HasTrueFetches, SessionsHold}

-- what holds of the followers' copies and bootstraps at a place
pub record HasTrueFollowers (p : Past) : Type 0 where
  pub copies : HasTrueCopies p
  pub fetches : HasTrueFetches p

-- what is taken of a place: what holds of the leader's copies and line, of the tasks, of the messages in flight, and of the sessions' files
pub record IsGround (p : Past) : Type 0 where
  pub core : IsCore p
  pub tasks : (f : ℕ) (s : Follower) → slice_get p.state.followers f ≡ Some s → IsTrueReplication (line_of p s.history) (p.followers f) s.work
  pub frames : AreTrueFrames p
  pub sessions : SessionsHold p

abbrev pub FollowersStart : Type 0
FollowersStart = (start : Start) → HasTrueFollowers (start_past start)

abbrev pub FollowersKeep : Type 0
FollowersKeep = (p : Past) (event : Event) (picks : List ℕ) → IsGround p → HasOnward p (past_by p event picks) → IsFitEvent event → HasTrueFollowers p → HasTrueFollowers (past_by p event picks)

-- the global count that a follower's primary knows never falls, also over a promotion
abbrev pub CountsRise : Type 0
CountsRise = (p : Past) (event : Event) (picks : List ℕ) → IsGround p → IsFitEvent event → HasTrueFollowers p → Rises p.state (step p.state event picks).next

abbrev pub FollowersSay : Type 0
FollowersSay = (p : Past) → HasTrueFollowers p → (f : ℕ) (s : Follower) → slice_get p.state.followers f ≡ Some s → IsTrueCopyGroup p f s

abbrev pub FollowersHold : Type 0
FollowersHold = (p : Past) → HasTrueFollowers p → HoldsCommitted p

-- a merge drops nothing that a lease of the copy retains, where what the leader's copies hold serves for what they were given
abbrev pub MergesKeepLeased : Type 0
MergesKeepLeased = (p : Past) (event : Event) (picks : List ℕ) → HasTrueStores p → HasTrueFollowers p → MergeKeepsLeased p.state (step p.state event picks).next event
