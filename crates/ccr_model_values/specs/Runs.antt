-- The runs that are cut from a list, and sets of numbers.
use Rattle.std.specs.Prelude.{◌≡◌, List, [], ◌∷◌}
use Rattle.ccr_op.specs.Operation.{Operation}
use Rattle.ccr_tracker.specs.Numbers.{filled_below, kept_below, marked}
use Rattle.ccr_model.specs.Operations.{size_of, run_from, cut_of}
use Rattle.ccr_model_values.specs.Words.{op, numbers, below, gapped}

abbrev pub three : List Operation
three = op 1 ∷ op 2 ∷ op 3 ∷ []

-- a no-op takes 17 bytes: 8 of its number, 8 of its term and 1 of its kind. A cut is the longest front within both bounds, and both may be
-- reached; where not even one operation is within them it is that one.
pub record AreCut : Type 0 where
  pub size : size_of (op 1) ≡ 17
  pub reached : numbers (cut_of 5 34 three) ≡ 1 ∷ 2 ∷ []
  pub one_byte_less : numbers (cut_of 5 33 three) ≡ 1 ∷ []
  pub too_large : numbers (cut_of 5 16 three) ≡ 1 ∷ []
  pub count : numbers (cut_of 2 1000 three) ≡ 1 ∷ 2 ∷ []
  pub all : numbers (cut_of 5 51 three) ≡ 1 ∷ 2 ∷ 3 ∷ []

-- a run goes from its first number to below the count, and ends where a number is lacking
pub record AreRuns : Type 0 where
  pub hole : numbers (run_from (op 0 ∷ op 1 ∷ op 3 ∷ []) 0 4) ≡ 0 ∷ 1 ∷ []
  pub count : numbers (run_from three 2 3) ≡ 2 ∷ []
  pub nothing : numbers (run_from three 0 4) ≡ []

-- numbers that join those above a gap close it; those at or above a bound go, and those below it stay, also above a gap
pub record AreNumbers : Type 0 where
  pub filled : filled_below (gapped 1 (3 ∷ 4 ∷ 6 ∷ [])) 3 ≡ gapped 5 (6 ∷ [])
  pub closed : marked (gapped 1 (2 ∷ 4 ∷ [])) 1 ≡ gapped 3 (4 ∷ [])
  pub left : kept_below (gapped 2 (4 ∷ 6 ∷ [])) 5 ≡ gapped 2 (4 ∷ [])
  pub lower : kept_below (gapped 2 (4 ∷ 6 ∷ [])) 1 ≡ below 1
