-- The claims on the followers' copies and on their bootstraps, joined.
use Rattle.std.specs.Prelude.{slice_get}
use Rattle.std.proofs.Common.{◌≡◌, ℕ, List, Some}
use Rattle.ccr_journal.specs.declared.events.Event.{Event}
use Rattle.ccr_journal.specs.declared.events.Event.TheVariants as events
use Rattle.ccr_model.specs.Leaders.{Start}
use Rattle.ccr_model.specs.Followers.{Follower}
use Rattle.ccr_model.specs.Fit.{IsFitEvent}
use Rattle.ccr_model.specs.Step.{step}
use Rattle.ccr_model.specs.Past.{Past, start_past}
use Rattle.ccr_model.specs.Headline.{HoldsCommitted}
use Rattle.ccr_law_base.specs.Events.{past_by}
use Rattle.ccr_law_copies.specs.Cores.{HasOnward}
use Rattle.ccr_law_followers.specs.TrueCopies.{HasGoodCount, IsTrueCopyGroup, Rises}
use Rattle.ccr_law_followers.specs.Fetches.{HasGoodRanges}
use Rattle.ccr_law_followers.specs.CopyLaws.{HasTrueFollowers, IsGround}
use Rattle.ccr_law_followers.proofs.Events.{followers-start, followers-keep, counts-rise}
use Rattle.ccr_law_followers.proofs.Says.{followers-say, holds-committed, writes-committed}
use Rattle.ccr_law_followers.proofs.FetchEvents.{fetches-start, fetches-keep, fetches-true}

pub good-count : (event : Event) → IsFitEvent event → HasGoodCount event
good-count (events.Follow params copies name) fit = fit.1
good-count _ fit = tt

pub good-ranges : (event : Event) → IsFitEvent event → HasGoodRanges event
good-ranges (events.Follow params copies name) fit = fit.0
good-ranges _ fit = tt

pub group-start : (start : Start) → HasTrueFollowers (start_past start)
group-start start = record { copies = followers-start start; fetches = fetches-start start }

pub group-keeps : (p : Past) (event : Event) (picks : List ℕ) → IsGround p → HasOnward p (past_by p event picks) → IsFitEvent event → HasTrueFollowers p → HasTrueFollowers (past_by p event picks)
group-keeps p event picks g onward fit ok = record {
  copies = followers-keep p event picks g.core onward (writes-committed p g.tasks) (fetches-true p g.frames g.sessions ok.fetches) (good-count event fit) ok.copies;
  fetches = fetches-keep p event picks g.frames (good-ranges event fit) ok.fetches;
}

pub group-rises : (p : Past) (event : Event) (picks : List ℕ) → IsGround p → IsFitEvent event → HasTrueFollowers p → Rises p.state (step p.state event picks).next
group-rises p event picks g fit ok =
    counts-rise p event picks g.core (writes-committed p g.tasks) (fetches-true p g.frames g.sessions ok.fetches) (good-count event fit) ok.copies

pub group-says : (p : Past) → HasTrueFollowers p → (f : ℕ) (s : Follower) → slice_get p.state.followers f ≡ Some s → IsTrueCopyGroup p f s
group-says p ok f s at = followers-say p ok.copies f s at

pub group-holds : (p : Past) → HasTrueFollowers p → HoldsCommitted p
group-holds p ok = holds-committed p ok.copies
