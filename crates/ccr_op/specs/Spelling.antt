-- The one spelling of each operation in bytes.
use Rattle.std.specs.Prelude.{ℕ, List, [], ◌∷◌, ◌++◌, Option, Some, None}
use Rattle.std.specs.Int.{w16, w32, w64, to_be_bytes}
use Rattle.ccr_op.specs.declared.operation.Kind.{Kind}
use Rattle.ccr_op.specs.declared.operation.Kind.TheVariants.{Index, Delete, NoOp}
use Rattle.ccr_op.specs.Operation.{Operation}
use Rattle.ccr_op.specs.Fields.{counted}

-- the byte that tells the kind
abbrev pub kind_byte : Kind → ℕ
kind_byte (Index id None body) = 1
kind_byte (Delete id None) = 2
kind_byte NoOp = 3
kind_byte (Index id (Some routing) body) = 4
kind_byte (Delete id (Some routing)) = 5

-- the routing, where there is one
abbrev pub routed : Option (List ℕ) → List ℕ
routed None = []
routed (Some routing) = counted w16 routing

-- what a kind has behind the term: the version, the id, the routing and the source, as far as it has them
abbrev pub kind_fields : ℕ → Kind → List ℕ
kind_fields version (Index id routing body) = to_be_bytes w64 version ++ (counted w16 id ++ (routed routing ++ counted w32 body))
kind_fields version (Delete id routing) = to_be_bytes w64 version ++ (counted w16 id ++ routed routing)
kind_fields version NoOp = []

abbrev pub spelling : Operation → List ℕ
spelling op = kind_byte op.kind ∷ (to_be_bytes w64 op.seq ++ (to_be_bytes w64 op.term ++ kind_fields op.version op.kind))
