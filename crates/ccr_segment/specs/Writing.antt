-- A segment that is being written.
use Rattle.std.specs.Prelude.{◌≡◌, ℕ, ◌≤◌, Bool, List, ◌∷◌, ◌++◌, length, drop}
use Rattle.std.specs.List.{flat_map, list_any}
use Rattle.std.specs.Int.{w32, to_be_bytes}
use Rattle.ccr_op.specs.Operation.{Operation, is_routed}
use Rattle.ccr_op.specs.Spelling.{spelling as op_spelling}
use Rattle.ccr_segment.specs.Index.{ops_in}
use Rattle.ccr_segment.specs.Segment.{HasSpelling, version_for}

-- the operations of the segment that these bytes are behind a header
abbrev pub ops_written : Bool → ℕ → List ℕ → List Operation
ops_written routed count body = ops_in (67 ∷ 67 ∷ 82 ∷ 83 ∷ version_for routed ∷ (to_be_bytes w32 count ++ body))

-- behind a header the bytes are those of so many operations, some of which have a routing or none has
pub record IsWriting (routed : Bool) (count : ℕ) (bytes : List ℕ) : Type 0 where
  pub header : 9 ≤ length bytes
  pub fits : HasSpelling (ops_written routed count (drop 9 bytes))
  pub counted : length (ops_written routed count (drop 9 bytes)) ≡ count
  pub routing : list_any is_routed (ops_written routed count (drop 9 bytes)) ≡ routed
  pub body : drop 9 bytes ≡ flat_map op_spelling (ops_written routed count (drop 9 bytes))
