-- What is due weighs the same wherever it is.
use Rattle.std.proofs.Common.{◌≡◌, ℕ, Bool, true, refl}
use Rattle.ccr_model.specs.Requests.{Progress, on_its_way, waiting, held_back, is_due}
use Rattle.ccr_law_settling.specs.Measure.{weight_of_progress}

-- it weighs 4
pub due_weighs : (may : Bool) (now : ℕ) (p : Progress) → is_due now p ≡ true → weight_of_progress may now p ≡ 4
due_weighs may now on_its_way is = cc
due_weighs may now (waiting until) is = rw is refl
due_weighs may now held_back is = cc
