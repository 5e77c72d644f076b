-- Where operations stand in a list, in a store and in the files of a session.
use Rattle.std.specs.Prelude.{◌≡◌, ℕ, List, [], ◌∷◌, map}
use Rattle.ccr_op.specs.Operation.{Operation}
use Rattle.ccr_model.specs.Operations.{with_op, with_ops, ascending}
use Rattle.ccr_model.specs.Stores.{Store, stored_all, files_below}
use Rattle.ccr_model_values.specs.Words.{op, numbers}

-- operations that come stand in ascending number, in whatever order they come
pub record StandInOrder : Type 0 where
  pub between : numbers (with_op (op 2) (op 1 ∷ op 3 ∷ [])) ≡ 1 ∷ 2 ∷ 3 ∷ []
  pub before : numbers (with_op (op 0) (op 1 ∷ op 3 ∷ [])) ≡ 0 ∷ 1 ∷ 3 ∷ []
  pub behind : numbers (with_op (op 4) (op 1 ∷ op 3 ∷ [])) ≡ 1 ∷ 3 ∷ 4 ∷ []
  pub several : numbers (with_ops (op 4 ∷ op 2 ∷ []) (op 1 ∷ op 3 ∷ [])) ≡ 1 ∷ 2 ∷ 3 ∷ 4 ∷ []
  pub all : numbers (ascending (op 3 ∷ op 1 ∷ op 2 ∷ [])) ≡ 1 ∷ 2 ∷ 3 ∷ []

-- two closed parts with numbers below 5, one with none, and an open part with one below and one above
abbrev pub store : Store
store = record { parts = (op 0 ∷ op 1 ∷ []) ∷ (op 2 ∷ op 5 ∷ []) ∷ (op 7 ∷ []) ∷ []; open_part = op 3 ∷ op 6 ∷ [] }

abbrev pub files_of : ℕ → List (List ℕ)
files_of count = map {A = List Operation} {B = List ℕ} numbers (files_below count store)

-- a session has a file for each part that holds operations below its count, with just these; the open part comes last
pub record HaveFiles : Type 0 where
  pub some : files_of 5 ≡ (0 ∷ 1 ∷ []) ∷ (2 ∷ []) ∷ (3 ∷ []) ∷ []
  pub closed : files_of 3 ≡ (0 ∷ 1 ∷ []) ∷ (2 ∷ []) ∷ []
  pub every : files_of 8 ≡ (0 ∷ 1 ∷ []) ∷ (2 ∷ 5 ∷ []) ∷ (7 ∷ []) ∷ (3 ∷ 6 ∷ []) ∷ []
  pub none : files_of 0 ≡ []

-- operations that a copy takes come into its open part, and its closed parts stay
pub record ComeIntoOpenPart : Type 0 where
  pub open_part : numbers (stored_all (op 8 ∷ op 4 ∷ []) store).open_part ≡ 3 ∷ 4 ∷ 6 ∷ 8 ∷ []
  pub parts : map {A = List Operation} {B = List ℕ} numbers (stored_all (op 8 ∷ op 4 ∷ []) store).parts ≡ (0 ∷ 1 ∷ []) ∷ (2 ∷ 5 ∷ []) ∷ (7 ∷ []) ∷ []
