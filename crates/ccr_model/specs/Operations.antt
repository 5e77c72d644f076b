-- Lists of operations: what they hold, the live documents, and the runs that are cut from them.
use Rattle.std.specs.Prelude.{ℕ, ◌-◌, Bool, true, false, ◌||◌, ◌==◌, nat_lt, if◌then◌else◌, List, [], ◌∷◌, length, take, map, find, Option, Some, None, option_and_then, sum_by, ◌≡◌, ◌⊎◌, ◌≤◌, ◌<◌}
use Rattle.std.specs.Option.{option_map_or}
use Rattle.std.specs.List.{list_any, fold, range_with_len}
use Rattle.std.specs.Str.{bytes_eq}
use Rattle.ccr_op.specs.Operation.{Operation, id_of}
use Rattle.ccr_op.specs.Spelling.{spelling}
use Rattle.ccr_op.specs.declared.operation.Kind.TheVariants.{Index, Delete, NoOp}

-- the list has no element
abbrev pub is_empty : {X : Type 0} → List X → Bool
is_empty [] = true
is_empty (x ∷ xs) = false

-- how many bytes an operation takes
abbrev pub size_of : Operation → ℕ
size_of op = length (spelling op)

-- the operation of a number
abbrev pub op_at : ℕ → List Operation → Option Operation
op_at n ops = find (λ op. op.seq == n) ops

-- some operation has this number
abbrev pub has_number : List Operation → ℕ → Bool
has_number ops n = list_any (λ op. op.seq == n) ops

-- the operation stands before those of greater number
abbrev pub with_op : Operation → List Operation → List Operation
with_op op [] = op ∷ []
with_op op (x ∷ xs) = if nat_lt op.seq x.seq then op ∷ x ∷ xs else x ∷ with_op op xs

-- the list with more operations, each in its place
abbrev pub with_ops : List Operation → List Operation → List Operation
with_ops more ops = fold {A = Operation} {B = List Operation} (λ rest op. with_op op rest) ops more

-- the operations in ascending number
abbrev pub ascending : List Operation → List Operation
ascending ops = with_ops ops []

-- the operation is about this id
abbrev pub is_about : List ℕ → Operation → Bool
is_about id op = option_map_or (λ own. bytes_eq own id) (id_of op.kind) false

-- of two operations, the one of greater number
abbrev pub later : Option Operation → Option Operation → Option Operation
later None b = b
later (Some a) None = Some a
later (Some a) (Some b) = if nat_lt a.seq b.seq then Some b else Some a

-- of the operations about this id, the one of greatest number
abbrev pub greatest_about : List Operation → List ℕ → Option Operation
greatest_about [] id = None
greatest_about (op ∷ ops) id = later (if is_about id op then Some op else None) (greatest_about ops id)

-- the operation, where it puts a document in place
abbrev pub only_index : Operation → Option Operation
only_index op = elim op.kind as (λ _. Option Operation) [ Index id routing body ↦ Some op | Delete id routing ↦ None | NoOp ↦ None ]

-- the operation that put the live document of this id in place
abbrev pub live : List Operation → List ℕ → Option Operation
live ops id = option_and_then only_index (greatest_about ops id)

-- what stands before the first that isn't there
abbrev pub before_none : List (Option Operation) → List Operation
before_none [] = []
before_none (None ∷ found) = []
before_none (Some op ∷ found) = op ∷ before_none found

-- the operations of the numbers from this one on, one after the other, below the count
abbrev pub run_from : List Operation → ℕ → ℕ → List Operation
run_from ops from count = before_none (map {A = ℕ} {B = Option Operation} (λ n. op_at n ops) (range_with_len from (count - from)))

-- the longest front with at most so many operations and at most so many bytes
abbrev pub front_within : ℕ → ℕ → List Operation → List Operation
front_within max_ops max_bytes [] = []
front_within max_ops max_bytes (op ∷ ops) =
    if (max_ops == 0) || nat_lt max_bytes (size_of op) then []
    else op ∷ front_within (max_ops - 1) (max_bytes - size_of op) ops

-- that front, or the first operation alone where not even it is within the bounds
abbrev pub cut_of : ℕ → ℕ → List Operation → List Operation
cut_of max_ops max_bytes ops =
    let front = front_within max_ops max_bytes ops in
    if is_empty front then take 1 ops else front

-- the list is within both bounds
pub record IsWithin (max_ops max_bytes : ℕ) (ops : List Operation) : Type 0 where
  pub count : length ops ≤ max_ops
  pub bytes : sum_by size_of ops ≤ max_bytes

-- what a cut has to be: a front of the list, within the bounds or of one operation, and no longer front is within them
pub record IsCut (max_ops max_bytes : ℕ) (ops cut : List Operation) : Type 0 where
  pub front : cut ≡ take (length cut) ops
  pub bounds : IsWithin max_ops max_bytes cut ⊎ (length cut ≡ 1)
  pub longest : (n : ℕ) → length cut < n → n ≤ length ops → ¬ IsWithin max_ops max_bytes (take n ops)
  pub some : (1 ≤ length cut) ⊎ (ops ≡ [])
