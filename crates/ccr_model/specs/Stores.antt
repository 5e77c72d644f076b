-- What a copy holds: closed parts, and one part that still takes operations. Each part ascends by number.
use Rattle.std.specs.Prelude.{ℕ, Bool, true, not, ◌&&◌, ◌||◌, ◌==◌, nat_lt, min, if◌then◌else◌, List, [], ◌∷◌, ◌++◌, length, map, filter, drop, flat_map, take_while, Option, Some, None}
use Rattle.std.specs.List.{list_any, enumerate_from}
use Rattle.ccr_op.specs.Operation.{Operation}
use Rattle.ccr_op.specs.declared.operation.Kind.TheVariants.{Index, Delete, NoOp}
use Rattle.ccr_lease.specs.declared.retention.Lease.{Lease}
use Rattle.ccr_model.specs.Operations.{is_empty, is_about, with_op, with_ops, ascending}

pub record Store : Type 0 where
  pub parts : List (List Operation)
  pub open_part : List Operation

abbrev pub empty_store : Store
empty_store = record { parts = []; open_part = [] }

-- all that is held
abbrev pub held : Store → List Operation
held s = flat_map {X = List Operation} {A = Operation} (λ part. part) s.parts ++ s.open_part

-- an operation comes into the part that takes operations
abbrev pub stored : Operation → Store → Store
stored op s = record s { open_part = with_op op s.open_part }

abbrev pub stored_if_some : Option Operation → Store → Store
stored_if_some None s = s
stored_if_some (Some op) s = stored op s

abbrev pub stored_all : List Operation → Store → Store
stored_all ops s = record s { open_part = with_ops ops s.open_part }

-- the closed part of these operations, where there are any
abbrev pub one_part : List Operation → List (List Operation)
one_part ops = if is_empty ops then [] else ops ∷ []

-- a flush closes the part that takes operations, where it holds one
abbrev pub flushed : Store → Store
flushed s = record { parts = s.parts ++ one_part s.open_part; open_part = [] }

-- each part without the operations that fail the test; a closed part that this empties goes
abbrev pub sifted : (Operation → Bool) → Store → Store
sifted test s = record { parts = flat_map {X = List Operation} {A = List Operation} (λ part. one_part (filter test part)) s.parts; open_part = filter test s.open_part }

-- the operations below a number, as a list for each part that holds any; the open part comes last
abbrev pub files_below : ℕ → Store → List (List Operation)
files_below count s = (sifted (λ op. nat_lt op.seq count) s).parts ++ one_part (filter (λ op. nat_lt op.seq count) s.open_part)

-- ---- merges

-- a greater operation about this id is held below the count
abbrev pub is_passed : List ℕ → Operation → ℕ → List Operation → Bool
is_passed id op count ops = list_any (λ x. is_about id x && nat_lt op.seq x.seq && nat_lt x.seq count) ops

-- no smaller operation about this id is held
abbrev pub is_least : List ℕ → Operation → List Operation → Bool
is_least id op ops = not (list_any (λ x. is_about id x && nat_lt x.seq op.seq) ops)

-- an operation may go where it is below the bound and what is held makes it needless
abbrev pub is_droppable : ℕ → ℕ → List Operation → Operation → Bool
is_droppable bound count ops op =
    nat_lt op.seq bound
    && (elim op.kind as (λ _. Bool) [
      | Index id routing body ↦ is_passed id op count ops
      | Delete id routing ↦ is_passed id op count ops || is_least id op ops
      | NoOp ↦ true
    ])

abbrev pub without_number : ℕ → List Operation → List Operation
without_number n ops = filter (λ op. not (op.seq == n)) ops

-- the numbers that go, of the picked operations in ascending number: what went before counts as not held
abbrev pub dropped : ℕ → ℕ → List Operation → List Operation → List ℕ
dropped bound count ops [] = []
dropped bound count ops (op ∷ picked) =
    if is_droppable bound count ops op
    then op.seq ∷ dropped bound count (without_number op.seq ops) picked
    else dropped bound count ops picked

-- a place is among the picks; picks that repeat or lie outside the list change nothing
abbrev pub is_picked : {X : Type 0} → List ℕ → ℕ × X → Bool
is_picked picks at = list_any (λ place. place == at.0) picks

-- the operations of the picked parts, in ascending number
abbrev pub picked_ops : List ℕ → List (List Operation) → List Operation
picked_ops picks parts = ascending (flat_map {X = ℕ × List Operation} {A = Operation} (λ at. at.1) (filter (is_picked picks) (enumerate_from 0 parts)))

abbrev pub merge_drops : List ℕ → ℕ → ℕ → Store → List ℕ
merge_drops picks bound count s = dropped bound count (held s) (picked_ops picks s.parts)

abbrev pub is_among : List ℕ → ℕ → Bool
is_among numbers n = list_any (λ m. m == n) numbers

abbrev pub parts_at : List (ℕ × List Operation) → List (List Operation)
parts_at placed = map {A = ℕ × List Operation} {B = List Operation} (λ at. at.1) placed

-- the parts, where those at the picked places are one at the least of these, without some numbers; an empty one goes
abbrev pub joined : List ℕ → List ℕ → List (List Operation) → List (List Operation)
joined picks drops parts =
    let placed = enumerate_from 0 parts in
    let front = take_while (λ at. not (is_picked picks at)) placed in
    let rest = filter (λ at. not (is_picked picks at)) (drop (length front) placed) in
    parts_at front ++ one_part (filter (λ op. not (is_among drops op.seq)) (picked_ops picks parts)) ++ parts_at rest

abbrev pub merged : List ℕ → ℕ → ℕ → Store → Store
merged picks bound count s = record s { parts = joined picks (merge_drops picks bound count s) s.parts }

-- the least of n and the leases' retaining numbers
abbrev pub capped : List Lease → ℕ → ℕ
capped [] n = n
capped (lease ∷ leases) n = min lease.number (capped leases n)
