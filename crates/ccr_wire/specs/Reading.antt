-- Reading a message from bytes: its value, or the first field that cannot be read.
use Rattle.std.specs.Prelude.{◌≡◌, ℕ, zero, suc, ◌+◌, List, [], ◌∷◌, length, Result, Ok, Err, ◌==◌, if◌then◌else◌}
use Rattle.std.specs.Option.{ok_or}
use Rattle.std.specs.Int.{w16, w32, w64}
use Rattle.ccr_op.specs.declared.bad_op.BadOp.{BadOp}
use Rattle.ccr_op.specs.declared.bad_op.BadOp.TheVariants as op_faults
use Rattle.ccr_op.specs.Ids.{most_id_bytes}
use Rattle.ccr_op.specs.Operation.{Operation}
use Rattle.ccr_op.specs.Reading.{operation_at}
use Rattle.ccr_op.specs.Fields.{◌>>=◌, byte_at, number_at, bounded_at, bytes_at, bounded_text_at}
use Rattle.ccr_wire.specs.declared.bad_frame.BadFrame.{BadFrame}
use Rattle.ccr_wire.specs.declared.bad_frame.BadFrame.TheVariants as faults
use Rattle.ccr_wire.specs.declared.kind.FrameKind.{FrameKind}
use Rattle.ccr_wire.specs.declared.kind.FrameKind.TheVariants as kinds
use Rattle.ccr_wire.specs.declared.kind.LeaseResult.{LeaseResult}
use Rattle.ccr_wire.specs.declared.kind.LeaseResult.TheVariants as results
use Rattle.ccr_wire.specs.declared.content.Content.{Content}
use Rattle.ccr_wire.specs.declared.content.Content.TheVariants.{ReadRequest, ReadReply, ReadMissing, ReadHistory, LeaseAdd, LeaseAdded, LeaseRenew, LeaseRemove, LeaseAnswer, SessionOpen, SessionOpened, ChunkRequest, ChunkReply, SessionGone, NotReady}
use Rattle.ccr_wire.specs.Kinds.{kind_of, result_of}
use Rattle.ccr_wire.specs.Message.{Frame}

-- ---- single fields

abbrev pub u32_at : List ℕ → Result (ℕ × List ℕ) BadFrame
u32_at bytes = number_at faults.Short w32 bytes

abbrev pub u64_at : List ℕ → Result (ℕ × List ℕ) BadFrame
u64_at bytes = number_at faults.Short w64 bytes

abbrev pub uuid_at : List ℕ → Result (List ℕ × List ℕ) BadFrame
uuid_at bytes = bytes_at faults.Short 16 bytes

abbrev pub id_at : List ℕ → Result (List ℕ × List ℕ) BadFrame
id_at bytes = bounded_text_at faults.Short faults.Length faults.Field w16 1 most_id_bytes bytes

-- the size of a part of a file
abbrev pub size_at : List ℕ → Result (ℕ × List ℕ) BadFrame
size_at bytes = bounded_at faults.Short faults.Length w32 1 16777216 bytes

-- a part of a file behind its length
unfoldable pub chunk_at : List ℕ → Result (List ℕ × List ℕ) BadFrame
chunk_at bytes = do
  size ← size_at bytes
  bytes_at faults.Short size.0 size.1

unfoldable pub kind_at : List ℕ → Result (FrameKind × List ℕ) BadFrame
kind_at bytes = do
  byte ← byte_at faults.Short bytes
  kind ← ok_or (kind_of byte.0) faults.Kind
  Ok (kind, byte.1)

unfoldable pub result_at : List ℕ → Result (LeaseResult × List ℕ) BadFrame
result_at bytes = do
  byte ← byte_at faults.Short bytes
  outcome ← ok_or (result_of byte.0) faults.Field
  Ok (outcome, byte.1)

-- the number of an answer, which is 0 where no lease was found
unfoldable pub answered_at : LeaseResult → List ℕ → Result (ℕ × List ℕ) BadFrame
answered_at results.NotFound bytes = do
  number ← u64_at bytes
  if number.0 == 0 then Ok number else Err faults.Field
answered_at results.Ok bytes = u64_at bytes
answered_at results.Exists bytes = u64_at bytes
answered_at results.LowNumber bytes = u64_at bytes

-- ---- lists

-- an operation with this number: one that ends early is Short, any other that cannot be read, or with another number, is Field
abbrev pub as_field : ℕ → Result (Operation × List ℕ) BadOp → Result (Operation × List ℕ) BadFrame
as_field seq (Ok x) = if x.0.seq == seq then Ok x else Err faults.Field
as_field seq (Err op_faults.Short) = Err faults.Short
as_field seq (Err op_faults.Kind) = Err faults.Field
as_field seq (Err op_faults.Length) = Err faults.Field
as_field seq (Err op_faults.Utf8) = Err faults.Field
as_field seq (Err op_faults.Memory) = Err faults.Field

unfoldable pub op_at : ℕ → List ℕ → Result (Operation × List ℕ) BadFrame
op_at seq bytes = as_field seq (operation_at bytes)

-- so many operations, numbered from, from + 1 and so on
unfoldable pub ops_at : ℕ → ℕ → List ℕ → Result (List Operation × List ℕ) BadFrame
ops_at from zero bytes = Ok ([], bytes)
ops_at from (suc n) bytes = do
  first ← op_at from bytes
  others ← ops_at (from + 1) n first.1
  Ok (first.0 ∷ others.0, others.1)

-- so many sizes
unfoldable pub sizes_at : ℕ → List ℕ → Result (List ℕ × List ℕ) BadFrame
sizes_at zero bytes = Ok ([], bytes)
sizes_at (suc n) bytes = do
  first ← u64_at bytes
  others ← sizes_at n first.1
  Ok (first.0 ∷ others.0, others.1)

-- ---- the fields of each kind

unfoldable pub content_at : FrameKind → List ℕ → Result (Content × List ℕ) BadFrame
content_at kinds.ReadRequest bytes = do
  history ← uuid_at bytes
  from ← u64_at history.1
  max_ops ← u64_at from.1
  max_bytes ← u64_at max_ops.1
  timeout ← u64_at max_bytes.1
  Ok (ReadRequest history.0 from.0 max_ops.0 max_bytes.0 timeout.0, timeout.1)
content_at kinds.ReadReply bytes = do
  from ← u64_at bytes
  global ← u64_at from.1
  number ← u32_at global.1
  ops ← ops_at from.0 number.0 number.1
  Ok (ReadReply from.0 global.0 ops.0, ops.1)
content_at kinds.ReadMissing bytes = do
  from ← u64_at bytes
  floor ← u64_at from.1
  Ok (ReadMissing from.0 floor.0, floor.1)
content_at kinds.ReadHistory bytes = do
  history ← uuid_at bytes
  Ok (ReadHistory history.0, history.1)
content_at kinds.LeaseAdd bytes = do
  id ← id_at bytes
  Ok (LeaseAdd id.0, id.1)
content_at kinds.LeaseAdded bytes = do
  number ← u64_at bytes
  Ok (LeaseAdded number.0, number.1)
content_at kinds.LeaseRenew bytes = do
  id ← id_at bytes
  number ← u64_at id.1
  Ok (LeaseRenew id.0 number.0, number.1)
content_at kinds.LeaseRemove bytes = do
  id ← id_at bytes
  Ok (LeaseRemove id.0, id.1)
content_at kinds.LeaseAnswer bytes = do
  outcome ← result_at bytes
  number ← answered_at outcome.0 outcome.1
  Ok (LeaseAnswer outcome.0 number.0, number.1)
content_at kinds.SessionOpen bytes = Ok (SessionOpen, bytes)
content_at kinds.SessionOpened bytes = do
  session ← u64_at bytes
  history ← uuid_at session.1
  count ← u64_at history.1
  files ← u32_at count.1
  sizes ← sizes_at files.0 files.1
  Ok (SessionOpened session.0 history.0 count.0 sizes.0, sizes.1)
content_at kinds.ChunkRequest bytes = do
  session ← u64_at bytes
  file ← u32_at session.1
  offset ← u64_at file.1
  size ← size_at offset.1
  Ok (ChunkRequest session.0 file.0 offset.0 size.0, size.1)
content_at kinds.ChunkReply bytes = do
  session ← u64_at bytes
  file ← u32_at session.1
  offset ← u64_at file.1
  chunk ← chunk_at offset.1
  Ok (ChunkReply session.0 file.0 offset.0 chunk.0, chunk.1)
content_at kinds.SessionGone bytes = do
  session ← u64_at bytes
  Ok (SessionGone session.0, session.1)
content_at kinds.NotReady bytes = do
  copy ← u32_at bytes
  Ok (NotReady copy.0, copy.1)

-- the message at the front of bytes
unfoldable pub message_at : List ℕ → Result (Frame × List ℕ) BadFrame
message_at bytes = do
  kind ← kind_at bytes
  follower ← uuid_at kind.1
  request ← u64_at follower.1
  content ← content_at kind.0 request.1
  Ok (record { follower = follower.0; request = request.0; content = content.0 }, content.1)

-- the message that all of the bytes spell
unfoldable pub message_of : List ℕ → Result Frame BadFrame
message_of bytes = do
  m ← message_at bytes
  if length m.1 == 0 then Ok m.0 else Err faults.Trailing

-- what a call answered, seen by view, is what reading gives, unless memory ran out
abbrev pub Fails : {Y : Type 0} → BadFrame → Result Y BadFrame → Type 0
Fails faults.Memory read = Unit {0}
Fails faults.Short read = read ≡ Err faults.Short
Fails faults.Kind read = read ≡ Err faults.Kind
Fails faults.Length read = read ≡ Err faults.Length
Fails faults.Field read = read ≡ Err faults.Field
Fails faults.Trailing read = read ≡ Err faults.Trailing

abbrev pub Gives : {X Y : Type 0} → (X → Y) → Result X BadFrame → Result Y BadFrame → Type 0
Gives view (Ok x) read = read ≡ Ok (view x)
Gives view (Err e) read = Fails e read
