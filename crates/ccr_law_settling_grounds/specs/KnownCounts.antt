-- Counts of the leader that are told and known: none is beyond what is committed.
use Rattle.std.specs.Prelude.{◌≡◌, ℕ, ◌≤◌, List, slice_get, Some}
use Rattle.std.specs.List.{AllByRecursion}
use Rattle.ccr_wire.specs.Message.{Frame}
use Rattle.ccr_wire.specs.declared.content.Content.{Content}
use Rattle.ccr_wire.specs.declared.content.Content.TheVariants as contents
use Rattle.ccr_journal.specs.declared.events.Event.{Event}
use Rattle.ccr_model.specs.Tasks.{Task}
use Rattle.ccr_model.specs.Leaders.{Start}
use Rattle.ccr_model.specs.Followers.{Follower, Work, restoring, replicating, uuid_of}
use Rattle.ccr_model.specs.Fit.{IsFitEvent}
use Rattle.ccr_model.specs.Past.{Past, start_past, line_of}
use Rattle.ccr_law_base.specs.Events.{past_by}
use Rattle.ccr_law_copies.specs.Cores.{HasOnward}
use Rattle.ccr_law_messages.specs.TrueFrames.{HasTrueFrames}
use Rattle.ccr_law_followers.specs.CopyLaws.{IsGround, HasTrueFollowers}

-- where it is a reply to a read, what it tells of the leader's count is so
abbrev pub TellsSo : (ℕ → Type 0) → Content → Type 0
TellsSo told (contents.ReadReply from global ops) = told global
TellsSo told _ = Unit {0}

-- the count is of no more than is committed in the history of each follower that has this UUID
abbrev pub IsKnownTo : Past → List ℕ → ℕ → Type 0
IsKnownTo p uuid global = (f : ℕ) (s : Follower) → slice_get p.state.followers f ≡ Some s → uuid ≡ uuid_of f → global ≤ (line_of p s.history).cut

-- a task knows of no more, and the count below which it has taken the numbers up is no greater
pub record IsTaskWithin (cut : ℕ) (t : Task) : Type 0 where
  pub known : t.known ≤ cut
  pub next : t.next ≤ cut

abbrev pub IsWorkWithin : ℕ → Work → Type 0
IsWorkWithin cut (restoring r) = Unit {0}
IsWorkWithin cut (replicating t) = IsTaskWithin cut t

-- a reply tells its follower of no more than is committed in the history that this follows, and so a task knows of no more; besides, a follower's
-- primary knows at least the count at which the epoch of its task began
pub record HasKnownCounts (p : Past) : Type 0 where
  pub replies : AllByRecursion (λ (m : Frame). TellsSo (IsKnownTo p m.follower) m.content) p.state.flight
  pub tasks : (f : ℕ) (s : Follower) → slice_get p.state.followers f ≡ Some s → IsWorkWithin (line_of p s.history).cut s.work
  pub begun : (f : ℕ) (s : Follower) → slice_get p.state.followers f ≡ Some s → (p.followers f).begun_at ≤ s.copies.primary.global

abbrev pub KnownStart : Type 0
KnownStart = (start : Start) → HasKnownCounts (start_past start)

-- where what was committed of each history stays, the claims on the leader's copies, the tasks, the messages, the sessions and the followers'
-- copies hold, and the event is fit
abbrev pub KnownKeep : Type 0
KnownKeep = (p : Past) (event : Event) (picks : List ℕ) → HasOnward p (past_by p event picks) → IsGround p → HasTrueFrames p → IsFitEvent event → HasTrueFollowers p → HasKnownCounts p → HasKnownCounts (past_by p event picks)
