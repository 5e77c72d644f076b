-- How far floors rise, and what a merge drops and joins.
use Rattle.std.specs.Prelude.{◌≡◌, ℕ, true, false, List, [], ◌∷◌, map}
use Rattle.ccr_op.specs.Operation.{Operation}
use Rattle.ccr_model.specs.Stores.{is_droppable, merge_drops, picked_ops, joined, capped}
use Rattle.ccr_model.specs.Copies.{Copy}
use Rattle.ccr_model.specs.CopyRows.{candidate, risen_floor, merge_bound}
use Rattle.ccr_model_values.specs.Words.{op, numbers, index_of, delete_of, below, lease, copy}

-- an operation goes below the bound alone: an index where a greater one about its id is held below the count, a delete there as well, or where
-- no smaller one about its id is held, and a no-op
pub record AreDropped : Type 0 where
  pub passed : is_droppable 9 4 (index_of 1 97 ∷ index_of 3 97 ∷ []) (index_of 1 97) ≡ true
  pub passed_by_delete : is_droppable 9 4 (index_of 1 97 ∷ delete_of 3 97 ∷ []) (index_of 1 97) ≡ true
  pub passed_at_count : is_droppable 9 3 (index_of 1 97 ∷ index_of 3 97 ∷ []) (index_of 1 97) ≡ false
  pub another_id : is_droppable 9 4 (index_of 1 97 ∷ index_of 3 98 ∷ []) (index_of 1 97) ≡ false
  pub smaller : is_droppable 9 4 (index_of 1 97 ∷ index_of 3 97 ∷ []) (index_of 3 97) ≡ false
  pub delete_alone : is_droppable 9 4 (index_of 1 98 ∷ delete_of 2 97 ∷ []) (delete_of 2 97) ≡ true
  pub delete_behind : is_droppable 9 4 (index_of 1 97 ∷ delete_of 2 97 ∷ []) (delete_of 2 97) ≡ false
  pub delete_between : is_droppable 9 4 (index_of 1 97 ∷ delete_of 2 97 ∷ index_of 3 97 ∷ []) (delete_of 2 97) ≡ true
  pub none : is_droppable 2 4 [] (op 1) ≡ true
  pub at_bound : is_droppable 1 4 [] (op 1) ≡ false

-- what went before in the same merge counts as not held: the delete goes once the index below it has gone
pub record GoInOrder : Type 0 where
  pub both : merge_drops (0 ∷ []) 9 9 (record { parts = (index_of 1 97 ∷ delete_of 2 97 ∷ []) ∷ []; open_part = index_of 3 97 ∷ [] }) ≡ 1 ∷ 2 ∷ []
  pub across : merge_drops (0 ∷ 1 ∷ []) 9 3 (record { parts = (delete_of 2 97 ∷ []) ∷ (index_of 1 97 ∷ []) ∷ []; open_part = [] }) ≡ 1 ∷ 2 ∷ []

abbrev pub four_parts : List (List Operation)
four_parts = (op 0 ∷ []) ∷ (op 5 ∷ []) ∷ (op 2 ∷ []) ∷ (op 1 ∷ []) ∷ []

abbrev pub joined_numbers : List ℕ → List ℕ → List (List ℕ)
joined_numbers picks drops = map {A = List Operation} {B = List ℕ} numbers (joined picks drops four_parts)

-- the picked parts become one at the least picked place, in ascending number; where nothing is left of them none stands there
pub record AreJoined : Type 0 where
  pub order : numbers (picked_ops (1 ∷ 3 ∷ []) four_parts) ≡ 1 ∷ 5 ∷ []
  pub place : joined_numbers (3 ∷ 1 ∷ []) [] ≡ (0 ∷ []) ∷ (1 ∷ 5 ∷ []) ∷ (2 ∷ []) ∷ []
  pub repeated : joined_numbers (3 ∷ 3 ∷ 9 ∷ 1 ∷ []) (5 ∷ []) ≡ (0 ∷ []) ∷ (1 ∷ []) ∷ (2 ∷ []) ∷ []
  pub emptied : joined_numbers (1 ∷ 3 ∷ []) (1 ∷ 5 ∷ []) ≡ (0 ∷ []) ∷ (2 ∷ []) ∷ []

-- a copy with 9 numbers that knows of 7 operations on all and has committed 6; two of the operations are kept beyond
abbrev pub flushed_copy : ℕ → Copy
flushed_copy floor = copy 4 (below 9) [] 7 floor 6 []

abbrev pub leased_copy : ℕ → Copy
leased_copy floor = copy 4 (below 9) [] 7 floor 6 (lease 97 4 0 ∷ lease 98 3 0 ∷ lease 99 4 0 ∷ [])

-- a floor rises to the least of the lease numbers, of the known global count less the retention setting, and of the commit count
pub record FloorsRise : Type 0 where
  pub least_lease : capped (lease 97 5 0 ∷ lease 98 3 0 ∷ lease 99 4 0 ∷ []) 9 ≡ 3
  pub retention : candidate 2 (flushed_copy 0) ≡ 5
  pub commit : candidate 0 (flushed_copy 0) ≡ 6
  pub leased : candidate 2 (leased_copy 0) ≡ 3
  pub higher : risen_floor 2 (flushed_copy 6) ≡ 6
  pub bound : merge_bound 2 (flushed_copy 6) ≡ 6
  pub leased_bound : merge_bound 2 (leased_copy 6) ≡ 3
