-- The operations that a segment may hold, and its one spelling in bytes.
use Rattle.std.specs.Prelude.{ℕ, ◌+◌, ◌<◌, ◌≤◌, ◌^◌, Bool, List, [], ◌∷◌, ◌++◌, length, if◌then◌else◌}
use Rattle.std.specs.List.{flat_map, list_any, AllByRecursion}
use Rattle.std.specs.Int.{w32, to_be_bytes}
use Rattle.ccr_op.specs.Operation.{Operation, is_routed, HasSpelling as OpHasSpelling}
use Rattle.ccr_op.specs.Spelling.{spelling as op_spelling}

-- the numbers strictly ascend, from least at the earliest
abbrev pub AscendsFrom : ℕ → List Operation → Type 0
AscendsFrom least [] = Unit {0}
AscendsFrom least (op ∷ ops) = (least ≤ op.seq) × AscendsFrom (op.seq + 1) ops

-- the operations can be the contents of a segment
pub record HasSpelling (ops : List Operation) : Type 0 where
  pub count : length ops < 2 ^ 32
  pub order : AscendsFrom 0 ops
  pub each : AllByRecursion OpHasSpelling ops

-- the version is 2 exactly where an operation has a routing
abbrev pub version_for : Bool → ℕ
version_for routed = if routed then 2 else 1

abbrev pub version_of : List Operation → ℕ
version_of ops = version_for (list_any is_routed ops)

-- `CCRS`, the version, the number of operations, and the operations
abbrev pub spelling : List Operation → List ℕ
spelling ops = 67 ∷ 67 ∷ 82 ∷ 83 ∷ version_of ops ∷ (to_be_bytes w32 (length ops) ++ flat_map op_spelling ops)
