-- The one spelling of each message in bytes. All numbers are big-endian.
use Rattle.std.specs.Prelude.{ℕ, List, [], ◌∷◌, ◌++◌, length}
use Rattle.std.specs.List.{flat_map}
use Rattle.std.specs.Int.{w16, w32, w64, to_be_bytes}
use Rattle.ccr_op.specs.Fields.{counted}
use Rattle.ccr_op.specs.Spelling.{spelling as op_spelling}
use Rattle.ccr_wire.specs.Kinds.{byte_of, result_byte}
use Rattle.ccr_wire.specs.Message.{Frame, kind_of_content}
use Rattle.ccr_wire.specs.declared.content.Content.{Content}
use Rattle.ccr_wire.specs.declared.content.Content.TheVariants.{ReadRequest, ReadReply, ReadMissing, ReadHistory, LeaseAdd, LeaseAdded, LeaseRenew, LeaseRemove, LeaseAnswer, SessionOpen, SessionOpened, ChunkRequest, ChunkReply, SessionGone, NotReady}

abbrev pub u32 : ℕ → List ℕ
u32 n = to_be_bytes w32 n

abbrev pub u64 : ℕ → List ℕ
u64 n = to_be_bytes w64 n

-- the fields of each kind
abbrev pub fields_of : Content → List ℕ
fields_of (ReadRequest history from max_ops max_bytes timeout) = history ++ (u64 from ++ (u64 max_ops ++ (u64 max_bytes ++ u64 timeout)))
fields_of (ReadReply from global ops) = u64 from ++ (u64 global ++ (u32 (length ops) ++ flat_map op_spelling ops))
fields_of (ReadMissing from floor) = u64 from ++ u64 floor
fields_of (ReadHistory history) = history
fields_of (LeaseAdd id) = counted w16 id
fields_of (LeaseAdded number) = u64 number
fields_of (LeaseRenew id number) = counted w16 id ++ u64 number
fields_of (LeaseRemove id) = counted w16 id
fields_of (LeaseAnswer outcome number) = result_byte outcome ∷ u64 number
fields_of SessionOpen = []
fields_of (SessionOpened session history count sizes) = u64 session ++ (history ++ (u64 count ++ (u32 (length sizes) ++ flat_map u64 sizes)))
fields_of (ChunkRequest session file offset size) = u64 session ++ (u32 file ++ (u64 offset ++ u32 size))
fields_of (ChunkReply session file offset bytes) = u64 session ++ (u32 file ++ (u64 offset ++ counted w32 bytes))
fields_of (SessionGone session) = u64 session
fields_of (NotReady copy) = u32 copy

abbrev pub spelling : Frame → List ℕ
spelling m = byte_of (kind_of_content m.content) ∷ (m.follower ++ (u64 m.request ++ fields_of m.content))
