use Rattle.std.specs.Prelude.{◌≡◌, ℕ, ◌≤◌, ◌<◌, ◌^◌, Bool, List, length, Option, Some, None, IfSome, is_some}
use Rattle.std.specs.Str.{IsUtf8}
use Rattle.ccr_op.specs.Ids.{IsIdText}
use Rattle.ccr_op.specs.declared.operation.Kind.{Kind}
use Rattle.ccr_op.specs.declared.operation.Kind.TheVariants.{Index, Delete, NoOp}

-- an operation of a history: its number, its term, its version, and what it does
pub record Operation : Type 0 where
  pub seq : ℕ
  pub term : ℕ
  pub version : ℕ
  pub kind : Kind

-- the least and the most bytes of a source
abbrev pub least_source_bytes : ℕ
least_source_bytes = 2

abbrev pub most_source_bytes : ℕ
most_source_bytes = 524288

-- a text that may be the source of an index operation: 2 to 524,288 bytes
pub record IsSourceText (bytes : List ℕ) : Type 0 where
  pub some : least_source_bytes ≤ length bytes
  pub few : length bytes ≤ most_source_bytes
  pub text : IsUtf8 bytes

-- the texts of a kind are within their bounds, and a no-op has version 0
abbrev pub KindFits : Kind → ℕ → Type 0
KindFits (Index id routing body) version = IsIdText id × IfSome routing IsIdText × IsSourceText body
KindFits (Delete id routing) version = IsIdText id × IfSome routing IsIdText
KindFits NoOp version = version ≡ 0

-- the operation can be spelled in bytes
pub record HasSpelling (op : Operation) : Type 0 where
  pub seq : op.seq < 2 ^ 64
  pub term : op.term < 2 ^ 64
  pub version : op.version < 2 ^ 64
  pub kind : KindFits op.kind op.version

-- the id that an operation is about
abbrev pub id_of : Kind → Option (List ℕ)
id_of (Index id routing body) = Some id
id_of (Delete id routing) = Some id
id_of NoOp = None

-- the text that was routed by in place of the id
abbrev pub routing_of : Kind → Option (List ℕ)
routing_of (Index id routing body) = routing
routing_of (Delete id routing) = routing
routing_of NoOp = None

abbrev pub is_routed : Operation → Bool
is_routed op = is_some (routing_of op.kind)
