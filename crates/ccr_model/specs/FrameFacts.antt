-- What holds of the messages in flight, of the polls and of the sessions at every place of a legal journal.
use Rattle.std.specs.Prelude.{◌≡◌, ◌⊎◌, ℕ, ◌≤◌, ◌<◌, true, List, length, take, flat_map, count_by, ◌==◌, slice_get, Option, Some, None, is_some, IfSome}
use Rattle.std.specs.Option.{option_map, option_and_then}
use Rattle.std.specs.List.{AllByRecursion}
use Rattle.ccr_op.specs.Operation.{Operation}
use Rattle.ccr_segment.specs.Index.{ops_in}
use Rattle.ccr_segment.specs.Segment.{spelling as segment_of_ops}
use Rattle.ccr_wire.specs.Message.{Frame}
use Rattle.ccr_wire.specs.declared.content.Content.{Content}
use Rattle.ccr_wire.specs.declared.content.Content.TheVariants as contents
use Rattle.ccr_model.specs.Answers.{IsIn, SameView}
use Rattle.ccr_model.specs.Tasks.{Task, Read, read_sent, bytes_of}
use Rattle.ccr_model.specs.Restores.{Restore, Stage, leasing, opening, fetching, Fetch, ChunkAsked, Chunk, ask_sent}
use Rattle.ccr_model.specs.Leaders.{Session, KeptRequest, Poll, session_of}
use Rattle.ccr_model.specs.LeaderFrames.{sizes_of, chunk_of}
use Rattle.ccr_model.specs.Followers.{Follower, Work, restoring, replicating, uuid_of}
use Rattle.ccr_model.specs.World.{State, follower_of}
use Rattle.ccr_model.specs.Past.{Line, Past, line_of}

-- the operation is the line's of its number, and committed
pub record IsCommitted (line : Line) (op : Operation) : Type 0 where
  pub below : op.seq < line.cut
  pub same : slice_get line.ops op.seq ≡ Some op

-- the follower whose UUID this is
abbrev pub named_follower : List Follower → List ℕ → Option Follower
named_follower followers uuid = option_and_then (slice_get followers) (follower_of followers uuid)

-- the UUID is that of a follower that was made
abbrev pub IsNamed : State → List ℕ → Type 0
IsNamed s uuid = is_some (named_follower s.followers uuid) ≡ true

-- the UUID under which a work sends
abbrev pub uuid_of_work : Work → List ℕ
uuid_of_work (restoring r) = r.follower
uuid_of_work (replicating t) = t.follower

-- a follower's UUID names it alone, and its work sends under it
pub record IsNamedAlone (s : State) (f : ℕ) (own : Follower) : Type 0 where
  pub alone : follower_of s.followers (uuid_of f) ≡ Some f
  pub work : uuid_of_work own.work ≡ uuid_of f

-- ---- request numbers

abbrev pub next_request_of : Work → ℕ
next_request_of (restoring r) = r.next_request
next_request_of (replicating t) = t.next_request

-- the number was drawn: it is below the next request number of its follower
abbrev pub IsDrawn : State → List ℕ → ℕ → Type 0
IsDrawn s uuid request = IfSome (named_follower s.followers uuid) (λ f. request < next_request_of f.work)

-- ---- reads

-- a read in the sent state, with its task
pub record Reading : Type 0 where
  pub task : Task
  pub read : Read

abbrev pub reading_in : Work → ℕ → Option Reading
reading_in (restoring r) request = None
reading_in (replicating t) request = option_map {T = Read} {U = Reading} (λ read. record { task = t; read = read }) (read_sent t request)

-- the read of a follower that was sent under this request number
abbrev pub reading_of : State → List ℕ → ℕ → Option Reading
reading_of s uuid request = option_and_then (λ f. reading_in f.work request) (named_follower s.followers uuid)

-- a request asks what the read asks
pub record AsksAsRead (history : List ℕ) (from max_ops max_bytes : ℕ) (o : Reading) : Type 0 where
  pub same_history : history ≡ o.task.history
  pub begins : from ≡ o.read.from
  pub number : max_ops ≡ o.read.asked
  pub size : max_bytes ≡ o.task.params.max_read_request_size

-- a reply brings what the read asked: from its number on, at most as many operations, and at most as many bytes unless it is one operation
pub record BringsAsAsked (from : ℕ) (ops : List Operation) (o : Reading) : Type 0 where
  pub begins : from ≡ o.read.from
  pub number : length ops ≤ o.read.asked
  pub size : (bytes_of ops ≤ o.task.params.max_read_request_size) ⊎ (length ops ≡ 1)

-- a reply brings at most so many operations, and at most so many bytes unless it is one operation; other messages are no replies
abbrev pub BringsWithin : ℕ → ℕ → Content → Type 0
BringsWithin max_ops max_bytes (contents.ReadReply from global ops) = (length ops ≤ max_ops) × ((bytes_of ops ≤ max_bytes) ⊎ (length ops ≡ 1))
BringsWithin max_ops max_bytes _ = Unit {0}

abbrev pub BringWithin : ℕ → ℕ → List Frame → Type 0
BringWithin max_ops max_bytes sent = AllByRecursion (λ (m : Frame). BringsWithin max_ops max_bytes m.content) sent

-- what is sent for a request for operations brings no more than it asks for, and what is sent for any other message brings none
abbrev pub BringAsAsked : Content → List Frame → Type 0
BringAsAsked (contents.ReadRequest history from max_ops max_bytes timeout) sent = BringWithin max_ops max_bytes sent
BringAsAsked _ sent = BringWithin 0 0 sent

-- ---- sessions

-- all operations in a session's files
abbrev pub ops_of_session : Session → List Operation
ops_of_session session = flat_map {X = List ℕ} {A = Operation} ops_in session.files

-- the files of a session are segments of committed operations below its count, none in two of them, and show the documents of all these
pub record HoldsHistory (line : Line) (session : Session) : Type 0 where
  pub count : session.count ≤ line.cut
  pub segments : AllByRecursion (λ (file : List ℕ). segment_of_ops (ops_in file) ≡ file) session.files
  pub ours : AllByRecursion (λ (op : Operation). IsCommitted line op × (op.seq < session.count)) (ops_of_session session)
  pub once : (n : ℕ) → count_by (λ op. op.seq == n) (ops_of_session session) ≤ 1
  pub view : SameView (IsIn (ops_of_session session)) (IsIn (take session.count line.ops))

-- what is said of a session is what it was opened with
pub record IsAsOpened (p : Past) (number : ℕ) (history : List ℕ) (count : ℕ) (sizes : List ℕ) : Type 0 where
  pub session : Session
  pub opened : session_of p.opened number ≡ Some session
  pub same_count : count ≡ session.count
  pub same_history : history ≡ p.opened_in number
  pub same_sizes : sizes ≡ sizes_of session

-- an open session is as it was opened, but for its last activity
pub record IsOpenAsOpened (opened : List Session) (s : Session) : Type 0 where
  pub first : Session
  pub found : session_of opened s.number ≡ Some first
  pub same_count : first.count ≡ s.count
  pub same_files : first.files ≡ s.files

-- a part of a file, from an offset within it on, of the session as it was opened
pub record IsPlaceIn (p : Past) (number file offset : ℕ) : Type 0 where
  pub session : Session
  pub opened : session_of p.opened number ≡ Some session
  pub bytes : List ℕ
  pub is_file : slice_get session.files file ≡ Some bytes
  pub within : offset < length bytes

-- these bytes stand there
pub record IsPartOf (p : Past) (number file offset : ℕ) (part : List ℕ) : Type 0 where
  pub session : Session
  pub opened : session_of p.opened number ≡ Some session
  pub bytes : chunk_of session file offset (length part) ≡ part

-- ---- the bootstrap

-- a request for a part of a file in the sent state, with its bootstrap
pub record Fetching : Type 0 where
  pub restore : Restore
  pub fetch : Fetch
  pub ask : ChunkAsked

abbrev pub fetching_at : Restore → Stage → ℕ → Option Fetching
fetching_at r (leasing a) request = None
fetching_at r (opening a) request = None
fetching_at r (fetching f) request =
    option_map {T = ChunkAsked} {U = Fetching} (λ a. record { restore = r; fetch = f; ask = a }) (ask_sent f request)

abbrev pub fetching_in : Work → ℕ → Option Fetching
fetching_in (restoring r) request = fetching_at r r.stage request
fetching_in (replicating t) request = None

-- the request for a part that a follower sent under this request number
abbrev pub fetching_of : State → List ℕ → ℕ → Option Fetching
fetching_of s uuid request = option_and_then (λ f. fetching_in f.work request) (named_follower s.followers uuid)

-- the place of a part is the one that was asked for
pub record IsAskedPlace (session file offset : ℕ) (o : Fetching) : Type 0 where
  pub same_session : session ≡ o.fetch.session
  pub same_file : file ≡ o.ask.file
  pub same_offset : offset ≡ o.ask.offset

-- the part is all that was asked for, as far as the file has it
abbrev pub IsWholePart : Past → ℕ → ℕ → ℕ → List ℕ → Fetching → Type 0
IsWholePart p session file offset part o =
    IsAskedPlace session file offset o × IfSome (session_of p.opened session) (λ opened. part ≡ chunk_of opened file offset o.restore.chunk_size)

-- a bootstrap that fetches has the session as it was opened, in the history that it follows, and the parts that it has are that session's
pub record IsTrueFetch (p : Past) (history : List ℕ) (f : Fetch) : Type 0 where
  pub same_history : f.history ≡ history
  pub session : IsAsOpened p f.session f.history f.count f.sizes
  pub chunks : AllByRecursion (λ (c : Chunk). IsPartOf p f.session c.file c.offset c.bytes) f.chunks

abbrev pub IsTrueStage : Past → List ℕ → Stage → Type 0
IsTrueStage p history (leasing a) = Unit {0}
IsTrueStage p history (opening a) = Unit {0}
IsTrueStage p history (fetching f) = IsTrueFetch p history f

-- the bootstrap and the task are of the history that the follower follows
abbrev pub IsTrueWork : Past → List ℕ → Work → Type 0
IsTrueWork p history (restoring r) = (r.history ≡ history) × IsTrueStage p history r.stage
IsTrueWork p history (replicating t) = t.history ≡ history

-- the operations are committed in the history of the follower that has this UUID
abbrev pub AreCommittedFor : Past → List ℕ → List Operation → Type 0
AreCommittedFor p uuid ops = IfSome (named_follower p.state.followers uuid) (λ f. AllByRecursion (IsCommitted (line_of p f.history)) ops)

-- ---- messages

-- what a message says agrees with what is outstanding, with what is committed, and with the sessions as they were opened
abbrev pub IsTrueContent : Past → List ℕ → ℕ → Content → Type 0
IsTrueContent p uuid request (contents.ReadRequest history from max_ops max_bytes timeout) =
    IfSome (reading_of p.state uuid request) (AsksAsRead history from max_ops max_bytes)
IsTrueContent p uuid request (contents.ReadReply from global ops) =
    AreCommittedFor p uuid ops × IfSome (reading_of p.state uuid request) (BringsAsAsked from ops)
IsTrueContent p uuid request (contents.SessionOpened session history count sizes) = IsAsOpened p session history count sizes
IsTrueContent p uuid request (contents.ChunkRequest session file offset size) =
    IsPlaceIn p session file offset
    × IfSome (fetching_of p.state uuid request) (λ o. IsAskedPlace session file offset o × (size ≡ o.restore.chunk_size))
IsTrueContent p uuid request (contents.ChunkReply session file offset part) =
    IsPartOf p session file offset part × IfSome (fetching_of p.state uuid request) (IsWholePart p session file offset part)
IsTrueContent p uuid request (contents.ReadMissing from floor) = Unit {0}
IsTrueContent p uuid request (contents.ReadHistory history) = Unit {0}
IsTrueContent p uuid request (contents.LeaseAdd id) = Unit {0}
IsTrueContent p uuid request (contents.LeaseAdded number) = Unit {0}
IsTrueContent p uuid request (contents.LeaseRenew id number) = Unit {0}
IsTrueContent p uuid request (contents.LeaseRemove id) = Unit {0}
IsTrueContent p uuid request (contents.LeaseAnswer outcome number) = Unit {0}
IsTrueContent p uuid request contents.SessionOpen = Unit {0}
IsTrueContent p uuid request (contents.SessionGone session) = Unit {0}
IsTrueContent p uuid request (contents.NotReady copy) = Unit {0}

-- a request for operations asks for one at least
abbrev pub AsksForSome : Content → Type 0
AsksForSome (contents.ReadRequest history from max_ops max_bytes timeout) = 1 ≤ max_ops
AsksForSome _ = Unit {0}

pub record IsTrueFrame (p : Past) (m : Frame) : Type 0 where
  pub named : IsNamed p.state m.follower
  pub some : AsksForSome m.content
  pub drawn : IsDrawn p.state m.follower m.request
  pub content : IsTrueContent p m.follower m.request m.content

pub record IsTruePoll (p : Past) (poll : Poll) : Type 0 where
  pub named : IsNamed p.state poll.follower
  pub some : 1 ≤ poll.max_ops
  pub drawn : IsDrawn p.state poll.follower poll.request
  pub asks : IfSome (reading_of p.state poll.follower poll.request) (AsksAsRead poll.history poll.from poll.max_ops poll.max_bytes)

pub record AreTrueFrames (p : Past) : Type 0 where
  pub flight : AllByRecursion (IsTrueFrame p) p.state.flight
  pub polls : AllByRecursion (IsTruePoll p) p.state.leader.polls
  pub kept : AllByRecursion (λ (k : KeptRequest). IsDrawn p.state k.follower k.request) p.state.leader.kept
  pub kept_named : AllByRecursion (λ (k : KeptRequest). IsNamed p.state k.follower) p.state.leader.kept
  pub sessions : AllByRecursion (λ (session : Session). HoldsHistory (line_of p (p.opened_in session.number)) session) p.opened
  pub still : AllByRecursion (IsOpenAsOpened p.opened) p.state.leader.sessions
  pub names : (f : ℕ) (own : Follower) → slice_get p.state.followers f ≡ Some own → IsNamedAlone p.state f own
  pub works : AllByRecursion (λ (f : Follower). IsTrueWork p f.history f.work) p.state.followers
