-- What a follower waits for under each request number, and that the messages of that number are about the same.
use Rattle.std.specs.Prelude.{◌≡◌, ℕ, ◌&&◌, ◌==◌, Bool, true, false, if◌then◌else◌, List, slice_get, Option, Some, None, is_some}
use Rattle.std.specs.List.{AllByRecursion}
use Rattle.std.specs.Str.{bytes_eq}
use Rattle.ccr_wire.specs.Message.{Frame}
use Rattle.ccr_wire.specs.declared.kind.LeaseResult.TheVariants as results
use Rattle.ccr_wire.specs.declared.content.Content.{Content}
use Rattle.ccr_wire.specs.declared.content.Content.TheVariants as contents
use Rattle.ccr_journal.specs.declared.events.Event.{Event}
use Rattle.ccr_model.specs.Requests.{is_sent}
use Rattle.ccr_model.specs.Tasks.{read_sent}
use Rattle.ccr_model.specs.Restores.{Stage, leasing, opening, fetching, ask_sent}
use Rattle.ccr_model.specs.Leaders.{Start, KeptRequest, Poll}
use Rattle.ccr_model.specs.Followers.{Follower, Work, restoring, replicating, uuid_of}
use Rattle.ccr_model.specs.World.{State, start_state}
use Rattle.ccr_model.specs.Step.{step}
use Rattle.ccr_model.specs.Past.{Past}
use Rattle.ccr_model.specs.Headline.{IgnoresRightly}
use Rattle.ccr_law_messages.specs.TrueFrames.{HasTrueFrames}

-- what a request is for: the lease that a bootstrap asks for, a session, either of these, a part of a file, operations, or the upkeep of a
-- lease, which no work waits for
pub data Purpose : Type 0 where
  for_lease : Purpose
  for_session : Purpose
  for_beginning : Purpose
  for_part : Purpose
  for_read : Purpose
  for_upkeep : Purpose

-- what a message asks for or answers. That the leader isn't ready answers a request for a lease as one for a session.
abbrev pub about : Content → Option Purpose
about (contents.LeaseAdd id) = Some for_lease
about (contents.LeaseAdded number) = Some for_lease
about (contents.LeaseAnswer results.Exists number) = Some for_lease
about (contents.LeaseAnswer outcome number) = Some for_upkeep
about (contents.LeaseRenew id number) = Some for_upkeep
about (contents.LeaseRemove id) = Some for_upkeep
about contents.SessionOpen = Some for_session
about (contents.SessionOpened session history count sizes) = Some for_session
about (contents.ChunkRequest session file offset size) = Some for_part
about (contents.ChunkReply session file offset bytes) = Some for_part
about (contents.SessionGone session) = Some for_part
about (contents.ReadRequest history from max_ops max_bytes timeout) = Some for_read
about (contents.ReadReply from global ops) = Some for_read
about (contents.ReadMissing from floor) = Some for_read
about (contents.ReadHistory history) = Some for_read
about (contents.NotReady copy) = Some for_beginning

-- what is waited for under a request number
abbrev pub awaited_in : Stage → ℕ → Option Purpose
awaited_in (leasing a) n = if (n == a.request) && is_sent a.progress then Some for_lease else None
awaited_in (opening a) n = if (n == a.request) && is_sent a.progress then Some for_session else None
awaited_in (fetching f) n = if is_some (ask_sent f n) then Some for_part else None

abbrev pub awaited : Work → ℕ → Option Purpose
awaited (restoring r) n = awaited_in r.stage n
awaited (replicating t) n = if is_some (read_sent t n) then Some for_read else None

-- a bootstrap's first requests
abbrev pub begins : Purpose → Bool
begins for_lease = true
begins for_session = true
begins _ = false

-- what is said is about what is waited for
abbrev pub IsSaidFor : Purpose → Purpose → Type 0
IsSaidFor for_lease waited = waited ≡ for_lease
IsSaidFor for_session waited = waited ≡ for_session
IsSaidFor for_beginning waited = begins waited ≡ true
IsSaidFor for_part waited = waited ≡ for_part
IsSaidFor for_read waited = waited ≡ for_read
IsSaidFor for_upkeep waited = waited ≡ for_upkeep

-- where something is waited for and the message is about something, it is about just that
abbrev pub Agree : Option Purpose → Option Purpose → Type 0
Agree (Some waited) (Some said) = IsSaidFor said waited
Agree _ _ = Unit {0}

-- each message, poll and kept request under the follower's name agrees with what its work waits for
pub record AreAlike (s : State) (f : ℕ) (own : Follower) : Type 0 where
  pub flight : AllByRecursion (λ (m : Frame). bytes_eq m.follower (uuid_of f) ≡ true → Agree (awaited own.work m.request) (about m.content)) s.flight
  pub polls : AllByRecursion (λ (p : Poll). bytes_eq p.follower (uuid_of f) ≡ true → Agree (awaited own.work p.request) (Some for_read)) s.leader.polls
  pub kept : AllByRecursion (λ (k : KeptRequest). bytes_eq k.follower (uuid_of f) ≡ true → Agree (awaited own.work k.request) (Some for_lease)) s.leader.kept

abbrev pub HasPurposes : State → Type 0
HasPurposes s = (f : ℕ) (own : Follower) → slice_get s.followers f ≡ Some own → AreAlike s f own

abbrev pub PurposesStart : Type 0
PurposesStart = (start : Start) → HasPurposes (start_state start)

-- where the messages agree with what the followers asked for
abbrev pub PurposesKeep : Type 0
PurposesKeep = (p : Past) (event : Event) (picks : List ℕ) → HasTrueFrames p → HasPurposes p.state → HasPurposes (step p.state event picks).next

-- a message is ignored exactly where it goes to a follower and answers nothing that it waits for
abbrev pub PurposesIgnore : Type 0
PurposesIgnore = (s : State) (event : Event) (picks : List ℕ) → HasPurposes s → IgnoresRightly s event (step s event picks).reply
