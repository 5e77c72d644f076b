-- What a copy was given: operations by their numbers, whether it still holds them or not.
use Rattle.std.specs.Prelude.{ℕ, ◌==◌, nat_lt, if◌then◌else◌, List, map, slice_get, Option, Some, None, ◌≡◌}
use Rattle.std.specs.List.{range_with_len}
use Rattle.ccr_op.specs.Operation.{Operation}
use Rattle.ccr_op.specs.declared.operation.Kind.TheVariants.{NoOp}
use Rattle.ccr_model.specs.Operations.{before_none, has_number}

-- Operations are told by their numbers, and what the copies were given by the copies' numbers and then by those.

abbrev pub no_ops : ℕ → Option Operation
no_ops n = None

abbrev pub none_given : ℕ → ℕ → Option Operation
none_given copy = no_ops

-- an operation is among those that were given
abbrev pub IsAmong : (ℕ → Option Operation) → Operation → Type 0
IsAmong ops op = ops op.seq ≡ Some op

-- a copy has these operations from now on
abbrev pub gave : (ℕ → ℕ → Option Operation) → ℕ → (ℕ → Option Operation) → ℕ → ℕ → Option Operation
gave given copy ops other = if other == copy then ops else given other

abbrev pub or_else : Option Operation → Option Operation → Option Operation
or_else None later = later
or_else (Some op) later = Some op

-- the operations with one more, unless one of its number is there
abbrev pub gaining : (ℕ → Option Operation) → ℕ → Option Operation → ℕ → Option Operation
gaining ops seq op n = or_else (ops n) (if n == seq then op else None)

-- the operations with the line's of each number in the batch
abbrev pub gaining_batch : (ℕ → Option Operation) → List Operation → List Operation → ℕ → Option Operation
gaining_batch ops batch line n = or_else (ops n) (if has_number batch n then slice_get line n else None)

-- the operations, and no-ops of a term in the gaps below a bound
abbrev pub plugged : (ℕ → Option Operation) → ℕ → ℕ → ℕ → Option Operation
plugged ops term bound n =
    or_else (ops n) (if nat_lt n bound then Some record { seq = n; term = term; version = 0; kind = NoOp } else None)

-- the operations below the mark, and the other's from there on
abbrev pub joined_at : ℕ → (ℕ → Option Operation) → (ℕ → Option Operation) → ℕ → Option Operation
joined_at mark ops other n = if nat_lt n mark then ops n else other n

-- the line's operations below a count
abbrev pub front_of : ℕ → List Operation → ℕ → Option Operation
front_of count line n = if nat_lt n count then slice_get line n else None

-- so many operations from a number on, as a list
abbrev pub listed : (ℕ → Option Operation) → ℕ → ℕ → List Operation
listed ops from size = before_none (map {A = ℕ} {B = Option Operation} ops (range_with_len from size))
