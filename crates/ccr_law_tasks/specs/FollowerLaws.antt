-- What every event keeps of the followers' tasks, and what that says.
use Rattle.std.specs.Prelude.{◌≡◌, ℕ, List, slice_get, Some}
use Rattle.ccr_journal.specs.Params.{IsCopyCount}
use Rattle.ccr_journal.specs.declared.events.Event.{Event}
use Rattle.ccr_model.specs.Leaders.{Start}
use Rattle.ccr_model.specs.Followers.{Follower}
use Rattle.ccr_model.specs.Past.{Past, start_past, line_of}
use Rattle.ccr_model.specs.Fit.{IsFitEvent}
use Rattle.ccr_model.specs.FrameFacts.{AreTrueFrames}
use Rattle.ccr_model.specs.Invariants.{IsTrueReplication}
use Rattle.ccr_model.specs.Step.{step}
use Rattle.ccr_model.specs.Headline.{AsksOnceInEpoch, HasBounds, RepliesWithin, AsksNew}
use Rattle.ccr_law_base.specs.Events.{past_by}
use Rattle.ccr_law_tasks.specs.GoodTask.{IsLater}
use Rattle.ccr_law_tasks.specs.GoodFollowers.{HasGoodTasks}

abbrev pub TasksStart : Type 0
TasksStart = (start : Start) → IsCopyCount start.copies → HasGoodTasks (start_past start)

-- where what was committed stays, the messages in flight are true, and the event is fit: a new follower's parameters are in their ranges
abbrev pub TasksKeep : Type 0
TasksKeep = (p : Past) (event : Event) (picks : List ℕ) → ((history : List ℕ) → IsLater (line_of p history) (line_of (past_by p event picks) history)) → AreTrueFrames p → IsFitEvent event
    → HasGoodTasks p → HasGoodTasks (past_by p event picks)

-- what is stated of a follower's task
pub record IsTaskAsStated (p : Past) (f : ℕ) (s : Follower) : Type 0 where
  pub truth : IsTrueReplication (line_of p s.history) (p.followers f) s.work
  pub once : AsksOnceInEpoch (p.followers f) s.work
  pub bounds : HasBounds (line_of p s.history) s.work

abbrev pub TasksSay : Type 0
TasksSay = (p : Past) → HasGoodTasks p → (f : ℕ) (s : Follower) → slice_get p.state.followers f ≡ Some s → IsTaskAsStated p f s

-- replies to reads bring no more than was asked for
abbrev pub RepliesAreWithin : Type 0
RepliesAreWithin = (p : Past) (event : Event) (picks : List ℕ) → AreTrueFrames p → RepliesWithin p.state event (step p.state event picks).sent

-- no request asks for a number that was received in the epoch, unless it repeats one that was lost
abbrev pub AsksAreNew : Type 0
AsksAreNew = (p : Past) (event : Event) (picks : List ℕ) → ((history : List ℕ) → IsLater (line_of p history) (line_of (past_by p event picks) history)) → AreTrueFrames p → HasGoodTasks p
    → AreTrueFrames (past_by p event picks) → HasGoodTasks (past_by p event picks) → AsksNew p (past_by p event picks) (step p.state event picks).sent
