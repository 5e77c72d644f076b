-- Reading a segment from bytes: its operations, or the first field that cannot be read.
use Rattle.std.specs.Prelude.{◌≡◌, ℕ, zero, suc, ◌+◌, Bool, false, not, ◌&&◌, ◌||◌, List, [], ◌∷◌, length, nat_lt, Result, Ok, Err, ◌==◌, if◌then◌else◌}
use Rattle.std.specs.Int.{w32}
use Rattle.ccr_op.specs.declared.bad_op.BadOp.{BadOp}
use Rattle.ccr_op.specs.declared.bad_op.BadOp.TheVariants as op_faults
use Rattle.ccr_op.specs.Operation.{Operation}
use Rattle.ccr_op.specs.Reading.{operation_at}
use Rattle.ccr_op.specs.Fields.{◌>>=◌, byte_at, number_at}
use Rattle.ccr_segment.specs.Segment.{version_of}
use Rattle.ccr_segment.specs.declared.bad_segment.BadSegment.{BadSegment}
use Rattle.ccr_segment.specs.declared.bad_segment.BadSegment.TheVariants as faults

-- a byte that must be this one
unfoldable pub expected_at : ℕ → BadSegment → List ℕ → Result (List ℕ) BadSegment
expected_at byte fault bytes = do
  first ← byte_at faults.Short bytes
  if first.0 == byte then Ok first.1 else Err fault

-- the version, which is 1 or 2
unfoldable pub version_at : List ℕ → Result (ℕ × List ℕ) BadSegment
version_at bytes = do
  version ← byte_at faults.Short bytes
  if (version.0 == 1) || (version.0 == 2) then Ok version else Err faults.Version

-- the header: the version, and the number of operations that it states
unfoldable pub header_at : List ℕ → Result (ℕ × ℕ × List ℕ) BadSegment
header_at bytes = do
  first ← expected_at 67 faults.Magic bytes
  second ← expected_at 67 faults.Magic first
  third ← expected_at 82 faults.Magic second
  fourth ← expected_at 83 faults.Magic third
  version ← version_at fourth
  number ← number_at faults.Short w32 version.1
  Ok (version.0, number.0, number.1)

-- the bytes begin as an operation with a routing does
abbrev pub begins_routed : List ℕ → Bool
begins_routed [] = false
begins_routed (byte ∷ bytes) = (byte == 4) || (byte == 5)

-- an operation of a version, the first of which knows of no routing
abbrev pub operation_in : ℕ → List ℕ → Result (Operation × List ℕ) BadOp
operation_in version bytes = if (version == 1) && begins_routed bytes then Err op_faults.Kind else operation_at bytes

-- the fault of a segment that has an operation with this fault: one that ends early is Short, and one that cannot be read for another cause is Op
abbrev pub op_fault : BadOp → BadSegment
op_fault op_faults.Short = faults.Short
op_fault op_faults.Kind = faults.Op
op_fault op_faults.Length = faults.Op
op_fault op_faults.Utf8 = faults.Op
op_fault op_faults.Memory = faults.Memory

-- an operation whose number is too low is Order
abbrev pub in_order : ℕ → Result (Operation × List ℕ) BadOp → Result (Operation × List ℕ) BadSegment
in_order least (Ok x) = if nat_lt x.0.seq least then Err faults.Order else Ok x
in_order least (Err e) = Err (op_fault e)

unfoldable pub op_at : ℕ → ℕ → List ℕ → Result (Operation × List ℕ) BadSegment
op_at version least bytes = in_order least (operation_in version bytes)

-- so many operations in strictly ascending number
unfoldable pub ops_at : ℕ → ℕ → ℕ → List ℕ → Result (List Operation × List ℕ) BadSegment
ops_at version least zero bytes = Ok ([], bytes)
ops_at version least (suc n) bytes = do
  first ← op_at version least bytes
  others ← ops_at version (first.0.seq + 1) n first.1
  Ok (first.0 ∷ others.0, others.1)

-- so many operations, and then the end; in version 2 one of them has a routing
unfoldable pub rest_of : ℕ → ℕ → List ℕ → Result (List Operation) BadSegment
rest_of version number bytes = do
  ops ← ops_at version 0 number bytes
  if not (length ops.1 == 0) then Err faults.Trailing else (if version == version_of ops.0 then Ok ops.0 else Err faults.NoRouting)

-- the operations of the segment that all of the bytes spell
unfoldable pub segment_of : List ℕ → Result (List Operation) BadSegment
segment_of bytes = do
  header ← header_at bytes
  rest_of header.0 header.1 header.2

-- what a call answered, seen by view, is what reading gives, unless memory ran out
abbrev pub Fails : {Y : Type 0} → BadSegment → Result Y BadSegment → Type 0
Fails faults.Memory read = Unit {0}
Fails faults.Magic read = read ≡ Err faults.Magic
Fails faults.Version read = read ≡ Err faults.Version
Fails faults.Short read = read ≡ Err faults.Short
Fails faults.Order read = read ≡ Err faults.Order
Fails faults.Op read = read ≡ Err faults.Op
Fails faults.Trailing read = read ≡ Err faults.Trailing
Fails faults.NoRouting read = read ≡ Err faults.NoRouting

abbrev pub Gives : {X Y : Type 0} → (X → Y) → Result X BadSegment → Result Y BadSegment → Type 0
Gives view (Ok x) read = read ≡ Ok (view x)
Gives view (Err e) read = Fails e read
