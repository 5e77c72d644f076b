-- What every event keeps of the messages in flight, the polls, the kept requests and the sessions, and what that says.
use Rattle.std.specs.Prelude.{◌≡◌, ℕ, ◌<◌, true, false, List, length, slice_get, Some}
use Rattle.std.specs.Str.{bytes_eq}
use Rattle.std.specs.List.{AllByRecursion}
use Rattle.ccr_wire.specs.Message.{Frame, IsRun}
use Rattle.ccr_wire.specs.declared.content.Content.{Content}
use Rattle.ccr_wire.specs.declared.content.Content.TheVariants as contents
use Rattle.ccr_journal.specs.declared.events.Event.{Event}
use Rattle.ccr_model.specs.Leaders.{Start, KeptRequest, Session, session_of}
use Rattle.ccr_model.specs.Followers.{Follower, uuid_of}
use Rattle.ccr_model.specs.World.{follower_of}
use Rattle.ccr_model.specs.Past.{Past, start_past, line_of}
use Rattle.ccr_model.specs.FrameFacts.{AreTrueFrames, next_request_of}
use Rattle.ccr_law_base.specs.Events.{past_by}
use Rattle.ccr_law_copies.specs.Cores.{HasOnward, IsCore}
use Rattle.ccr_law_stores.specs.TrueStores.{HasTrueStores, IsTrueSession}
use Rattle.ccr_law_messages.specs.Serving.{OpensTruly, HasGoodParams}
use Rattle.ccr_law_messages.specs.TrueFrames.{HasTrueFrames}

-- the message is to or from a follower that was made, and its UUID names that follower
pub record NamesFollower (p : Past) (uuid : List ℕ) : Type 0 where
  pub number : ℕ
  pub follower : Follower
  pub there : slice_get p.state.followers number ≡ Some follower
  pub named : uuid ≡ uuid_of number
  pub found : follower_of p.state.followers uuid ≡ Some number

-- a request about a lease is about the lease of the follower that it names
abbrev pub IsAboutLease : List ℕ → Content → Type 0
IsAboutLease lease (contents.LeaseAdd id) = id ≡ lease
IsAboutLease lease (contents.LeaseRenew id number) = id ≡ lease
IsAboutLease lease (contents.LeaseRemove id) = id ≡ lease
IsAboutLease lease _ = Unit {0}

pub record IsOwn (p : Past) (m : Frame) : Type 0 where
  pub names : NamesFollower p m.follower
  pub lease : IsAboutLease names.follower.lease m.content

pub record IsOwnKept (p : Past) (k : KeptRequest) : Type 0 where
  pub names : NamesFollower p k.follower
  pub lease : k.id ≡ names.follower.lease

-- the operations of a reply to a read have consecutive numbers
abbrev pub IsRunOf : Content → Type 0
IsRunOf (contents.ReadReply from global ops) = IsRun from ops
IsRunOf _ = Unit {0}

-- whose each message is; and a reply to a read brings consecutive numbers
pub record AreOwn (p : Past) : Type 0 where
  pub flight : AllByRecursion (IsOwn p) p.state.flight
  pub kept : AllByRecursion (IsOwnKept p) p.state.leader.kept
  pub runs : AllByRecursion (λ (m : Frame). IsRunOf m.content) p.state.flight

-- a message of this follower has a number that was drawn, and is about the follower's own lease
pub record IsMessageOf (s : Follower) (m : Frame) : Type 0 where
  pub drawn : m.request < next_request_of s.work
  pub lease : IsAboutLease s.lease m.content

-- the follower's UUID names it alone
pub record HasOwnMessages (p : Past) (f : ℕ) (s : Follower) : Type 0 where
  pub named : follower_of p.state.followers (uuid_of f) ≡ Some f
  pub flight : AllByRecursion (λ (m : Frame). bytes_eq m.follower (uuid_of f) ≡ true → IsMessageOf s m) p.state.flight
  pub kept : AllByRecursion (λ (k : KeptRequest). bytes_eq k.follower (uuid_of f) ≡ true → k.id ≡ s.lease) p.state.leader.kept

-- the same by followers; none is of a follower that wasn't made yet
pub record AreTheirs (p : Past) : Type 0 where
  pub made : (f : ℕ) (s : Follower) → slice_get p.state.followers f ≡ Some s → HasOwnMessages p f s
  pub unmade : AllByRecursion (λ (m : Frame). bytes_eq m.follower (uuid_of (length p.state.followers)) ≡ false) p.state.flight

abbrev pub FramesStart : Type 0
FramesStart = (start : Start) → HasTrueFrames (start_past start)

-- where what was committed of each history stays, the leader's copies have the line, its stores and the session that it would open serve,
-- and a new follower's parameters are in their ranges
abbrev pub FramesKeep : Type 0
FramesKeep = (p : Past) (event : Event) (picks : List ℕ) → HasOnward p (past_by p event picks) → IsCore p → HasTrueStores p → OpensTruly p → HasGoodParams event → HasTrueFrames p → HasTrueFrames (past_by p event picks)

-- the files of each session serve for the line of its history up to its count
abbrev pub SessionsServe : Past → Type 0
SessionsServe p = (number : ℕ) (session : Session) → session_of p.opened number ≡ Some session → IsTrueSession (line_of p (p.opened_in number)) session

abbrev pub FramesSay : Type 0
FramesSay = (p : Past) → IsCore p → HasTrueFrames p → AreTrueFrames p × AreOwn p × AreTheirs p × SessionsServe p
