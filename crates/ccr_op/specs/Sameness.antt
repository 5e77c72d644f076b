-- When two operations, and two lists of them, are the same.
use Rattle.std.specs.Prelude.{ℕ, Option, Some, None, Bool, true, false, ◌&&◌, ◌==◌, List, [], ◌∷◌}
use Rattle.std.specs.Str.{bytes_eq}
use Rattle.ccr_op.specs.Operation.{Operation}
use Rattle.ccr_op.specs.declared.operation.Kind.{Kind}
use Rattle.ccr_op.specs.declared.operation.Kind.TheVariants.{Index, Delete, NoOp}

abbrev pub same_routing : Option (List ℕ) → Option (List ℕ) → Bool
same_routing None None = true
same_routing (Some a) (Some b) = bytes_eq a b
same_routing None (Some b) = false
same_routing (Some a) None = false

abbrev pub same_kind : Kind → Kind → Bool
same_kind (Index id routing body) (Index id' routing' body') = bytes_eq id id' && same_routing routing routing' && bytes_eq body body'
same_kind (Delete id routing) (Delete id' routing') = bytes_eq id id' && same_routing routing routing'
same_kind NoOp NoOp = true
same_kind (Index id routing body) (Delete id' routing') = false
same_kind (Index id routing body) NoOp = false
same_kind (Delete id routing) (Index id' routing' body') = false
same_kind (Delete id routing) NoOp = false
same_kind NoOp (Index id' routing' body') = false
same_kind NoOp (Delete id' routing') = false

abbrev pub same_operation : Operation → Operation → Bool
same_operation a b = (a.seq == b.seq) && (a.term == b.term) && (a.version == b.version) && same_kind a.kind b.kind

-- two lists have the same operations in the same order
abbrev pub same_operations : List Operation → List Operation → Bool
same_operations [] [] = true
same_operations (a ∷ xs) (b ∷ ys) = same_operation a b && same_operations xs ys
same_operations [] (b ∷ ys) = false
same_operations (a ∷ xs) [] = false
