-- What is true of a message of one follower, and of a follower's work, in a form that passes from each place to the next.
use Rattle.std.specs.Prelude.{◌≡◌, ◌⊎◌, ℕ, ◌≤◌, ◌<◌, List, length, slice_get, Some, IfSome}
use Rattle.std.specs.List.{AllByRecursion}
use Rattle.ccr_op.specs.Operation.{Operation}
use Rattle.ccr_wire.specs.Message.{Frame, IsRun}
use Rattle.ccr_wire.specs.declared.content.Content.{Content}
use Rattle.ccr_wire.specs.declared.content.Content.TheVariants as contents
use Rattle.ccr_model.specs.Tasks.{Task, Read, bytes_of}
use Rattle.ccr_model.specs.Restores.{Restore, Stage, leasing, opening, fetching, Fetch, ChunkAsked, Chunk}
use Rattle.ccr_model.specs.Leaders.{Session, session_of}
use Rattle.ccr_model.specs.LeaderFrames.{sizes_of, chunk_of}
use Rattle.ccr_model.specs.Followers.{Work, restoring, replicating}
use Rattle.ccr_model.specs.Past.{Line}
use Rattle.ccr_model.specs.FrameFacts.{IsCommitted, next_request_of}
use Rattle.ccr_law_messages.specs.Asking.{Ask, ask_in, Part, part_in, ReadsApart, AsksApart}

-- what a message is true of: the history that the follower follows and its line, the sessions as they were opened with the histories in which
-- they were, and the follower's UUID and lease
pub record Setting : Type 0 where
  pub history : List ℕ
  pub line : Line
  pub opened : List Session
  pub opened_in : ℕ → List ℕ
  pub uuid : List ℕ
  pub lease : List ℕ

-- ---- sessions

-- what is said of a session is what it was opened with
pub record IsAsItOpened (e : Setting) (number : ℕ) (history : List ℕ) (count : ℕ) (sizes : List ℕ) : Type 0 where
  pub session : Session
  pub opened : session_of e.opened number ≡ Some session
  pub same_count : count ≡ session.count
  pub same_history : history ≡ e.opened_in number
  pub same_sizes : sizes ≡ sizes_of session

-- a part of a file of the session, from an offset within the file on
pub record IsPlaceOf (e : Setting) (number file offset : ℕ) : Type 0 where
  pub session : Session
  pub opened : session_of e.opened number ≡ Some session
  pub bytes : List ℕ
  pub is_file : slice_get session.files file ≡ Some bytes
  pub within : offset < length bytes

-- these bytes stand there
pub record HasBytes (e : Setting) (number file offset : ℕ) (part : List ℕ) : Type 0 where
  pub session : Session
  pub opened : session_of e.opened number ≡ Some session
  pub bytes : chunk_of session file offset (length part) ≡ part

-- the part that was asked for, as far as the session's file has it
pub record IsWhole (session : Session) (number file offset : ℕ) (bytes : List ℕ) (a : Part) : Type 0 where
  pub same_session : number ≡ a.session
  pub same_file : file ≡ a.file
  pub same_offset : offset ≡ a.offset
  pub all : bytes ≡ chunk_of session file offset a.size

-- bytes of a file that come: where they are still asked for, they are all of the part
pub record IsTruePart (e : Setting) (w : Work) (request number file offset : ℕ) (part : List ℕ) : Type 0 where
  pub session : Session
  pub opened : session_of e.opened number ≡ Some session
  pub bytes : chunk_of session file offset (length part) ≡ part
  pub whole : IfSome (part_in w request) (IsWhole session number file offset part)

-- ---- messages

-- a reply brings what was asked: from the number on, at most so many operations, and at most so many bytes unless it is one operation
pub record Brings (from : ℕ) (ops : List Operation) (a : Ask) : Type 0 where
  pub begins : from ≡ a.from
  pub number : length ops ≤ a.number
  pub size : (bytes_of ops ≤ a.size) ⊎ (length ops ≡ 1)

-- a request for operations: it is of the follower's history, asks for one at least, and asks as the read does that was sent under its number
pub record IsTrueRequest (e : Setting) (w : Work) (request : ℕ) (history : List ℕ) (from max_ops max_bytes : ℕ) : Type 0 where
  pub same_history : history ≡ e.history
  pub some : 1 ≤ max_ops
  pub asks : IfSome (ask_in w request) (λ a. a ≡ record { history = history; from = from; number = max_ops; size = max_bytes })

-- the operations that come are committed and have consecutive numbers
pub record IsTrueAnswer (e : Setting) (w : Work) (request from : ℕ) (ops : List Operation) : Type 0 where
  pub committed : AllByRecursion (IsCommitted e.line) ops
  pub run : IsRun from ops
  pub brings : IfSome (ask_in w request) (Brings from ops)

abbrev pub IsTrueSaid : Setting → Work → ℕ → Content → Type 0
IsTrueSaid e w request (contents.ReadRequest history from max_ops max_bytes timeout) = IsTrueRequest e w request history from max_ops max_bytes
IsTrueSaid e w request (contents.ReadReply from global ops) = IsTrueAnswer e w request from ops
IsTrueSaid e w request (contents.SessionOpened session history count sizes) = IsAsItOpened e session history count sizes
IsTrueSaid e w request (contents.ChunkRequest session file offset size) =
    IsPlaceOf e session file offset × IfSome (part_in w request) (λ a. a ≡ record { session = session; file = file; offset = offset; size = size })
IsTrueSaid e w request (contents.ChunkReply session file offset part) = IsTruePart e w request session file offset part
IsTrueSaid e w request (contents.LeaseAdd id) = id ≡ e.lease
IsTrueSaid e w request (contents.LeaseRenew id number) = id ≡ e.lease
IsTrueSaid e w request (contents.LeaseRemove id) = id ≡ e.lease
IsTrueSaid e w request (contents.ReadMissing from floor) = Unit {0}
IsTrueSaid e w request (contents.ReadHistory history) = Unit {0}
IsTrueSaid e w request (contents.LeaseAdded number) = Unit {0}
IsTrueSaid e w request (contents.LeaseAnswer outcome number) = Unit {0}
IsTrueSaid e w request contents.SessionOpen = Unit {0}
IsTrueSaid e w request (contents.SessionGone session) = Unit {0}
IsTrueSaid e w request (contents.NotReady copy) = Unit {0}

-- a message to or from the follower: its number was drawn
pub record IsTrueMessage (e : Setting) (w : Work) (m : Frame) : Type 0 where
  pub named : m.follower ≡ e.uuid
  pub drawn : m.request < next_request_of w
  pub said : IsTrueSaid e w m.request m.content

-- ---- the follower's work

pub record AreGoodReads (next : ℕ) (reads : List Read) : Type 0 where
  pub drawn : AllByRecursion (λ (r : Read). r.request < next) reads
  pub some : AllByRecursion (λ (r : Read). 1 ≤ r.asked) reads
  pub apart : ReadsApart reads

pub record IsGoodTask (e : Setting) (t : Task) : Type 0 where
  pub named : t.follower ≡ e.uuid
  pub same_history : t.history ≡ e.history
  pub some : 1 ≤ t.params.max_read_request_operation_count
  pub reads : AreGoodReads t.next_request t.reads

pub record AreGoodAsks (e : Setting) (session next : ℕ) (asks : List ChunkAsked) : Type 0 where
  pub drawn : AllByRecursion (λ (a : ChunkAsked). a.request < next) asks
  pub places : AllByRecursion (λ (a : ChunkAsked). IsPlaceOf e session a.file a.offset) asks
  pub apart : AsksApart asks

pub record IsGoodFetch (e : Setting) (next : ℕ) (f : Fetch) : Type 0 where
  pub own : f.history ≡ e.history
  pub session : IsAsItOpened e f.session f.history f.count f.sizes
  pub chunks : AllByRecursion (λ (c : Chunk). HasBytes e f.session c.file c.offset c.bytes) f.chunks
  pub asks : AreGoodAsks e f.session next f.asks

abbrev pub IsGoodStage : Setting → ℕ → Stage → Type 0
IsGoodStage e next (leasing a) = Unit {0}
IsGoodStage e next (opening a) = Unit {0}
IsGoodStage e next (fetching f) = IsGoodFetch e next f

pub record IsGoodRestore (e : Setting) (r : Restore) : Type 0 where
  pub named : r.follower ≡ e.uuid
  pub same_lease : r.lease ≡ e.lease
  pub same_history : r.history ≡ e.history
  pub stage : IsGoodStage e r.next_request r.stage

abbrev pub IsGoodWork : Setting → Work → Type 0
IsGoodWork e (restoring r) = IsGoodRestore e r
IsGoodWork e (replicating t) = IsGoodTask e t
