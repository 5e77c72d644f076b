-- What a read from a number on brings.
use Rattle.std.specs.Prelude.{ℕ, nat_lt, List, if◌then◌else◌}
use Rattle.ccr_op.specs.Operation.{Operation}
use Rattle.ccr_model.specs.Operations.{cut_of, run_from}
use Rattle.ccr_changes.specs.declared.answer.Cut.{Cut}
use Rattle.ccr_changes.specs.declared.answer.Cut.TheVariants.{Ops, Wait, Missing}

-- a read below the floor misses what was given up, one at or above the global count has to wait, and each other one brings the longest run within its bounds
abbrev pub cut_from : (held : List Operation) (floor global from max_ops max_bytes : ℕ) → Cut
cut_from held floor global from max_ops max_bytes =
    if nat_lt from floor then Missing from floor
    else if nat_lt from global then Ops (cut_of max_ops max_bytes (run_from held from global)) global
    else Wait global
