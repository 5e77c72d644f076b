-- Reading an operation from the front of bytes: its value and the bytes after it, or the first field that cannot be read.
use Rattle.std.specs.Prelude.{◌≡◌, ℕ, List, length, Some, None, Result, Ok, Err, ◌==◌, if◌then◌else◌}
use Rattle.std.specs.Int.{w16, w32, w64}
use Rattle.ccr_op.specs.declared.operation.Kind.TheVariants.{Index, Delete, NoOp}
use Rattle.ccr_op.specs.declared.bad_op.BadOp.{BadOp}
use Rattle.ccr_op.specs.declared.bad_op.BadOp.TheVariants as faults
use Rattle.ccr_op.specs.Ids.{most_id_bytes}
use Rattle.ccr_op.specs.Operation.{Operation, least_source_bytes, most_source_bytes}
use Rattle.ccr_op.specs.Spelling.{spelling}
use Rattle.ccr_op.specs.Fields.{◌>>=◌, byte_at, number_at, bounded_text_at}

-- the text of an id or of a routing
abbrev pub id_at : List ℕ → Result (List ℕ × List ℕ) BadOp
id_at bytes = bounded_text_at faults.Short faults.Length faults.Utf8 w16 1 most_id_bytes bytes

-- the text of a source
abbrev pub source_at : List ℕ → Result (List ℕ × List ℕ) BadOp
source_at bytes = bounded_text_at faults.Short faults.Length faults.Utf8 w32 least_source_bytes most_source_bytes bytes

abbrev pub u64_at : List ℕ → Result (ℕ × List ℕ) BadOp
u64_at bytes = number_at faults.Short w64 bytes

-- each kind, behind its byte
unfoldable pub index_at : List ℕ → Result (Operation × List ℕ) BadOp
index_at bytes = do
  seq ← u64_at bytes
  term ← u64_at seq.1
  version ← u64_at term.1
  id ← id_at version.1
  body ← source_at id.1
  Ok (record { seq = seq.0; term = term.0; version = version.0; kind = Index id.0 None body.0 }, body.1)

unfoldable pub delete_at : List ℕ → Result (Operation × List ℕ) BadOp
delete_at bytes = do
  seq ← u64_at bytes
  term ← u64_at seq.1
  version ← u64_at term.1
  id ← id_at version.1
  Ok (record { seq = seq.0; term = term.0; version = version.0; kind = Delete id.0 None }, id.1)

unfoldable pub routed_index_at : List ℕ → Result (Operation × List ℕ) BadOp
routed_index_at bytes = do
  seq ← u64_at bytes
  term ← u64_at seq.1
  version ← u64_at term.1
  id ← id_at version.1
  routing ← id_at id.1
  body ← source_at routing.1
  Ok (record { seq = seq.0; term = term.0; version = version.0; kind = Index id.0 (Some routing.0) body.0 }, body.1)

unfoldable pub routed_delete_at : List ℕ → Result (Operation × List ℕ) BadOp
routed_delete_at bytes = do
  seq ← u64_at bytes
  term ← u64_at seq.1
  version ← u64_at term.1
  id ← id_at version.1
  routing ← id_at id.1
  Ok (record { seq = seq.0; term = term.0; version = version.0; kind = Delete id.0 (Some routing.0) }, routing.1)

unfoldable pub no_op_at : List ℕ → Result (Operation × List ℕ) BadOp
no_op_at bytes = do
  seq ← u64_at bytes
  term ← u64_at seq.1
  Ok (record { seq = seq.0; term = term.0; version = 0; kind = NoOp }, term.1)

unfoldable pub kind_at : ℕ → List ℕ → Result (Operation × List ℕ) BadOp
kind_at kind bytes =
    if kind == 1 then index_at bytes
    else (if kind == 2 then delete_at bytes
    else (if kind == 3 then no_op_at bytes
    else (if kind == 4 then routed_index_at bytes
    else (if kind == 5 then routed_delete_at bytes
    else Err faults.Kind))))

unfoldable pub operation_at : List ℕ → Result (Operation × List ℕ) BadOp
operation_at bytes = do
  kind ← byte_at faults.Short bytes
  kind_at kind.0 kind.1

-- what a call answered, seen by view, is what reading gives, unless memory ran out
abbrev pub Fails : {Y : Type 0} → BadOp → Result Y BadOp → Type 0
Fails faults.Memory read = Unit {0}
Fails faults.Short read = read ≡ Err faults.Short
Fails faults.Kind read = read ≡ Err faults.Kind
Fails faults.Length read = read ≡ Err faults.Length
Fails faults.Utf8 read = read ≡ Err faults.Utf8

abbrev pub Gives : {X Y : Type 0} → (X → Y) → Result X BadOp → Result Y BadOp → Type 0
Gives view (Ok x) read = read ≡ Ok (view x)
Gives view (Err e) read = Fails e read

-- what a call that takes no memory answered, seen by view
abbrev pub seen : {X Y : Type 0} → (X → Y) → Result X BadOp → Result Y BadOp
seen view (Ok x) = Ok (view x)
seen view (Err e) = Err e

-- of what reading gives, the number and the bytes after the operation
abbrev pub numbered : Result (Operation × List ℕ) BadOp → Result (ℕ × List ℕ) BadOp
numbered (Ok x) = Ok (x.0.seq, x.1)
numbered (Err e) = Err e

-- of what reading gives, the number and the length of the operation
abbrev pub measured : Result (Operation × List ℕ) BadOp → Result (ℕ × ℕ) BadOp
measured (Ok x) = Ok (x.0.seq, length (spelling x.0))
measured (Err e) = Err e
