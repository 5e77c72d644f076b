-- What a message says, and which messages can be spelled in bytes.
use Rattle.std.specs.Prelude.{◌≡◌, ℕ, ◌+◌, ◌<◌, ◌≤◌, ◌^◌, List, [], ◌∷◌, length}
use Rattle.std.specs.List.{AllByRecursion}
use Rattle.ccr_op.specs.Ids.{IsIdText}
use Rattle.ccr_op.specs.Operation.{Operation, HasSpelling as OpHasSpelling}
use Rattle.ccr_wire.specs.declared.kind.FrameKind.{FrameKind}
use Rattle.ccr_wire.specs.declared.kind.FrameKind.TheVariants as kinds
use Rattle.ccr_wire.specs.declared.kind.LeaseResult.{LeaseResult}
use Rattle.ccr_wire.specs.declared.kind.LeaseResult.TheVariants as results
use Rattle.ccr_wire.specs.declared.content.Content.{Content}
use Rattle.ccr_wire.specs.declared.content.Content.TheVariants.{ReadRequest, ReadReply, ReadMissing, ReadHistory, LeaseAdd, LeaseAdded, LeaseRenew, LeaseRemove, LeaseAnswer, SessionOpen, SessionOpened, ChunkRequest, ChunkReply, SessionGone, NotReady}

-- a message: between which follower and the leader it goes, for which of its requests, and what it says
pub record Frame : Type 0 where
  pub follower : List ℕ
  pub request : ℕ
  pub content : Content

abbrev pub kind_of_content : Content → FrameKind
kind_of_content (ReadRequest history from max_ops max_bytes timeout) = kinds.ReadRequest
kind_of_content (ReadReply from global ops) = kinds.ReadReply
kind_of_content (ReadMissing from floor) = kinds.ReadMissing
kind_of_content (ReadHistory history) = kinds.ReadHistory
kind_of_content (LeaseAdd id) = kinds.LeaseAdd
kind_of_content (LeaseAdded number) = kinds.LeaseAdded
kind_of_content (LeaseRenew id number) = kinds.LeaseRenew
kind_of_content (LeaseRemove id) = kinds.LeaseRemove
kind_of_content (LeaseAnswer outcome number) = kinds.LeaseAnswer
kind_of_content SessionOpen = kinds.SessionOpen
kind_of_content (SessionOpened session history count sizes) = kinds.SessionOpened
kind_of_content (ChunkRequest session file offset size) = kinds.ChunkRequest
kind_of_content (ChunkReply session file offset bytes) = kinds.ChunkReply
kind_of_content (SessionGone session) = kinds.SessionGone
kind_of_content (NotReady copy) = kinds.NotReady

-- the operations have the numbers from, from + 1 and so on
abbrev pub IsRun : ℕ → List Operation → Type 0
IsRun from [] = Unit {0}
IsRun from (op ∷ ops) = (op.seq ≡ from) × IsRun (from + 1) ops

-- a request for a lease that was not found tells no number
abbrev pub NumberFits : LeaseResult → ℕ → Type 0
NumberFits results.NotFound number = number ≡ 0
NumberFits results.Ok number = Unit {0}
NumberFits results.Exists number = Unit {0}
NumberFits results.LowNumber number = Unit {0}

-- what is asked of a message's parts together, and of its lists and sizes
abbrev pub ContentFits : Content → Type 0
ContentFits (ReadReply from global ops) = (length ops < 2 ^ 32) × IsRun from ops
ContentFits (LeaseAnswer outcome number) = NumberFits outcome number
ContentFits (SessionOpened session history count sizes) = length sizes < 2 ^ 32
ContentFits (ChunkRequest session file offset size) = (1 ≤ size) × (size ≤ 16777216)
ContentFits (ChunkReply session file offset bytes) = (1 ≤ length bytes) × (length bytes ≤ 16777216)
ContentFits (ReadRequest history from max_ops max_bytes timeout) = Unit {0}
ContentFits (ReadMissing from floor) = Unit {0}
ContentFits (ReadHistory history) = Unit {0}
ContentFits (LeaseAdd id) = Unit {0}
ContentFits (LeaseAdded number) = Unit {0}
ContentFits (LeaseRenew id number) = Unit {0}
ContentFits (LeaseRemove id) = Unit {0}
ContentFits SessionOpen = Unit {0}
ContentFits (SessionGone session) = Unit {0}
ContentFits (NotReady copy) = Unit {0}

abbrev pub IsUuid : List ℕ → Type 0
IsUuid bytes = length bytes ≡ 16

abbrev pub IsU64 : ℕ → Type 0
IsU64 n = n < 2 ^ 64

abbrev pub IsU32 : ℕ → Type 0
IsU32 n = n < 2 ^ 32

-- what the types of the fields say of their values
abbrev pub FieldsFit : Content → Type 0
FieldsFit (ReadRequest history from max_ops max_bytes timeout) = IsUuid history × IsU64 from × IsU64 max_ops × IsU64 max_bytes × IsU64 timeout
FieldsFit (ReadReply from global ops) = IsU64 from × IsU64 global × AllByRecursion OpHasSpelling ops
FieldsFit (ReadMissing from floor) = IsU64 from × IsU64 floor
FieldsFit (ReadHistory history) = IsUuid history
FieldsFit (LeaseAdd id) = IsIdText id
FieldsFit (LeaseAdded number) = IsU64 number
FieldsFit (LeaseRenew id number) = IsIdText id × IsU64 number
FieldsFit (LeaseRemove id) = IsIdText id
FieldsFit (LeaseAnswer outcome number) = IsU64 number
FieldsFit SessionOpen = Unit {0}
FieldsFit (SessionOpened session history count sizes) = IsU64 session × IsUuid history × IsU64 count × AllByRecursion IsU64 sizes
FieldsFit (ChunkRequest session file offset size) = IsU64 session × IsU32 file × IsU64 offset
FieldsFit (ChunkReply session file offset bytes) = IsU64 session × IsU32 file × IsU64 offset
FieldsFit (SessionGone session) = IsU64 session
FieldsFit (NotReady copy) = IsU32 copy

-- the message can be spelled in bytes
pub record HasSpelling (m : Frame) : Type 0 where
  pub follower : IsUuid m.follower
  pub request : IsU64 m.request
  pub fields : FieldsFit m.content
  pub content : ContentFits m.content
