-- What holds of the messages in flight, the polls, the kept requests, the sessions and the followers' works at every place.
use Rattle.std.specs.Prelude.{◌≡◌, ℕ, ◌≤◌, ◌<◌, List, length, slice_get, Some}
use Rattle.std.specs.List.{AllByRecursion}
use Rattle.ccr_wire.specs.Message.{Frame}
use Rattle.ccr_wire.specs.declared.content.Content.TheVariants as contents
use Rattle.ccr_model.specs.Leaders.{Session, KeptRequest, Poll, session_of}
use Rattle.ccr_model.specs.Followers.{Follower, uuid_of}
use Rattle.ccr_model.specs.World.{most_followers}
use Rattle.ccr_model.specs.Past.{Line, Past, line_of}
use Rattle.ccr_law_stores.specs.TrueStores.{IsTrueSession}
use Rattle.ccr_law_messages.specs.Saying.{Setting, IsTrueMessage, IsGoodWork}

-- what messages are true of: the lines of the histories, and the sessions as they were opened with the histories in which they were
pub record Scene : Type 0 where
  pub lines : List ℕ → Line
  pub opened : List Session
  pub opened_in : ℕ → List ℕ

-- what a follower has from its beginning on: its lease and the history that it follows
pub record Own : Type 0 where
  pub lease : List ℕ
  pub history : List ℕ

abbrev pub own_of : Follower → Own
own_of s = record { lease = s.lease; history = s.history }

abbrev pub setting : Scene → ℕ → Own → Setting
setting scene f own = record {
  history = own.history;
  line = scene.lines own.history;
  opened = scene.opened;
  opened_in = scene.opened_in;
  uuid = uuid_of f;
  lease = own.lease;
}

-- the message is a true one of a follower that was made
pub record IsOfFollower (scene : Scene) (followers : List Follower) (m : Frame) : Type 0 where
  pub number : ℕ
  pub follower : Follower
  pub there : slice_get followers number ≡ Some follower
  pub truth : IsTrueMessage (setting scene number (own_of follower)) follower.work m

-- the read that a poll stands for, and the request that is kept
abbrev pub frame_of_poll : Poll → Frame
frame_of_poll p = record { follower = p.follower; request = p.request; content = contents.ReadRequest p.history p.from p.max_ops p.max_bytes p.timeout }

abbrev pub frame_of_kept : KeptRequest → Frame
frame_of_kept k = record { follower = k.follower; request = k.request; content = contents.LeaseAdd k.id }

abbrev pub AreOfFollowers : Scene → List Follower → List Frame → Type 0
AreOfFollowers scene followers flight = AllByRecursion (IsOfFollower scene followers) flight

abbrev pub ArePolls : Scene → List Follower → List Poll → Type 0
ArePolls scene followers polls = AllByRecursion (λ (p : Poll). IsOfFollower scene followers (frame_of_poll p)) polls

abbrev pub AreKept : Scene → List Follower → List KeptRequest → Type 0
AreKept scene followers kept = AllByRecursion (λ (k : KeptRequest). IsOfFollower scene followers (frame_of_kept k)) kept

pub record IsGoodFollower (scene : Scene) (f : ℕ) (s : Follower) : Type 0 where
  pub some : 1 ≤ s.params.max_read_request_operation_count
  pub work : IsGoodWork (setting scene f (own_of s)) s.work

abbrev pub AreGoodFollowers : Scene → List Follower → Type 0
AreGoodFollowers scene followers = (f : ℕ) (s : Follower) → slice_get followers f ≡ Some s → IsGoodFollower scene f s

-- all messages, and all works
pub record Tells (scene : Scene) (followers : List Follower) (flight : List Frame) (polls : List Poll) (kept : List KeptRequest) : Type 0 where
  pub flight_ok : AreOfFollowers scene followers flight
  pub polls_ok : ArePolls scene followers polls
  pub kept_ok : AreKept scene followers kept
  pub works : AreGoodFollowers scene followers
  pub few : length followers ≤ most_followers

-- ---- sessions

-- an open session is as it was opened, but for its last activity
pub record IsOpen (opened : List Session) (next : ℕ) (s : Session) : Type 0 where
  pub old : s.number < next
  pub first : Session
  pub found : session_of opened s.number ≡ Some first
  pub same_count : first.count ≡ s.count
  pub same_files : first.files ≡ s.files

-- the files of a session serve for the line of the history in which it was opened, up to its count
abbrev pub Serves : (List ℕ → Line) → (ℕ → List ℕ) → Session → Type 0
Serves lines opened_in s = IsTrueSession (lines (opened_in s.number)) s

-- the sessions that were opened, whose files serve, and those that are open
pub record AreSessions (lines : List ℕ → Line) (opened_in : ℕ → List ℕ) (opened : List Session) (next : ℕ) (sessions : List Session) : Type 0 where
  pub hold : AllByRecursion (Serves lines opened_in) opened
  pub old : AllByRecursion (λ (s : Session). s.number < next) opened
  pub still : AllByRecursion (IsOpen opened next) sessions

-- ---- at a place

abbrev pub scene_of : Past → Scene
scene_of p = record { lines = line_of p; opened = p.opened; opened_in = p.opened_in }

abbrev pub TellsTruly : Past → Type 0
TellsTruly p = Tells (scene_of p) p.state.followers p.state.flight p.state.leader.polls p.state.leader.kept

abbrev pub HasTrueSessions : Past → Type 0
HasTrueSessions p = AreSessions (line_of p) p.opened_in p.opened p.state.leader.next_session p.state.leader.sessions

-- what holds of the messages in flight, the polls, the kept requests, the sessions and the works
pub record HasTrueFrames (p : Past) : Type 0 where
  pub sessions : HasTrueSessions p
  pub messages : TellsTruly p
