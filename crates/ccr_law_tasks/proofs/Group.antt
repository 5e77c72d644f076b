-- The followers' tasks are good at the start, every event keeps that, and it says what is stated of them.
use Rattle.std.specs.Prelude.{slice_get}
use Rattle.std.proofs.Common.{◌≡◌, ℕ, List, Some, refl}
use Rattle.ccr_journal.specs.Params.{IsCopyCount}
use Rattle.ccr_journal.specs.declared.events.Event.{Event}
use Rattle.ccr_model.specs.Leaders.{Start}
use Rattle.ccr_model.specs.Followers.{Follower, Work, restoring, replicating}
use Rattle.ccr_model.specs.Past.{Line, Past, WrittenBatch, start_past, line_of}
use Rattle.ccr_model.specs.Fit.{IsFitEvent}
use Rattle.ccr_model.specs.FrameFacts.{AreTrueFrames}
use Rattle.ccr_model.specs.Invariants.{IsTrueReplication}
use Rattle.ccr_model.specs.Headline.{AsksOnceInEpoch, HasBounds}
use Rattle.ccr_law_base.specs.Events.{past_by}
use Rattle.ccr_law_tasks.specs.GoodTask.{IsLater}
use Rattle.ccr_law_tasks.specs.GoodFollowers.{IsGoodWork, IsGoodFollower, AreGoodFollowers, HasGoodFollowers, HasGoodTasks}
use Rattle.ccr_law_tasks.specs.FollowerLaws.{IsTaskAsStated}
use Rattle.ccr_law_tasks.proofs.Calls.{later-good}
use Rattle.ccr_law_tasks.proofs.TaskSays.{says-true, says-bounded, says-once}
use Rattle.ccr_law_tasks.proofs.Events.{each-event}
use Rattle.ccr_law_tasks.proofs.RunEvents.{runs-start, runs-keep}

pub tasks-start : (start : Start) → IsCopyCount start.copies → HasGoodTasks (start_past start)
tasks-start start copies = record { followers = record { made = λ f s at. absurd (cc); unmade = λ f none. (refl, refl) }; runs = runs-start start }

later-work : (line next : Line) (begun_at : ℕ) (written : List WrittenBatch) (epoch : ℕ) (w : Work) → IsLater line next → IsGoodWork line begun_at written epoch w → IsGoodWork next begun_at written epoch w
later-work line next begun_at written epoch (restoring r) later good = good
later-work line next begun_at written epoch (replicating t) later good = (later-good line next begun_at written t later good.0, good.1)

pub later-followers : (p : Past) (next : List ℕ → Line) → ((history : List ℕ) → IsLater (line_of p history) (next history)) → HasGoodFollowers p → AreGoodFollowers next p.state.followers p.followers
later-followers p next later good = record {
  made = λ f s at.
      let own : IsGoodFollower (line_of p) (p.followers f).begun_at (p.followers f).written s = good.made f s at in
      record {
        params = own.params;
        ended = own.ended;
        work = later-work (line_of p s.history) (next s.history) (p.followers f).begun_at (p.followers f).written s.epoch s.work (later s.history) own.work;
      };
  unmade = good.unmade;
}

pub tasks-keep : (p : Past) (event : Event) (picks : List ℕ) → ((history : List ℕ) → IsLater (line_of p history) (line_of (past_by p event picks) history)) → AreTrueFrames p → IsFitEvent event
    → HasGoodTasks p → HasGoodTasks (past_by p event picks)
tasks-keep p event picks later frames in_range good = record {
  followers = each-event p event picks (line_of p) (line_of (past_by p event picks)) later frames good.runs in_range
      (later-followers p (line_of (past_by p event picks)) later good.followers);
  runs = runs-keep p event picks good.runs;
}

work-says : (p : Past) (f : ℕ) (s : Follower) (w : Work) → s.work ≡ w → IsGoodWork (line_of p s.history) (p.followers f).begun_at (p.followers f).written s.epoch w
    → IsTrueReplication (line_of p s.history) (p.followers f) w × AsksOnceInEpoch (p.followers f) w × HasBounds (line_of p s.history) w
work-says p f s (restoring r) is good = (tt, tt, tt)
work-says p f s (replicating t) is good = (
  (says-true (line_of p s.history) (p.followers f).begun_at (p.followers f).written t good.0, says-bounded (line_of p s.history) (p.followers f).begun_at (p.followers f).written t good.0),
  (λ active. says-once (line_of p s.history) (p.followers f).begun_at (p.followers f).written t active good.0),
  says-bounded (line_of p s.history) (p.followers f).begun_at (p.followers f).written t good.0,
)

pub tasks-say : (p : Past) → HasGoodTasks p → (f : ℕ) (s : Follower) → slice_get p.state.followers f ≡ Some s → IsTaskAsStated p f s
tasks-say p good f s at =
    let all = work-says p f s s.work refl (good.followers.made f s at).work in
    record { truth = all.0; once = all.1; bounds = all.2 }
