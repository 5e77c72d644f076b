-- What a crew was lent comes back.
use Rattle.std.proofs.Common.{◌≡◌, ℕ, List, subst, sym}
use Rattle.ccr_workers.specs.Lists.{Each}
use Rattle.ccr_workers.specs.Lending.{Went}
use Rattle.ccr_workers.proofs.Growing.{went_even}
use Rattle.ccr_workers.proofs.Lists.{each_then}
use Rattle.ccr_cells.specs.Opened.{chosen_in}
use Rattle.ccr_cells.specs.Views.{Pass}

pub all_back : (n m : ℕ) (ps qs rs : List Pass) → Each (Went chosen_in n 0) ps qs → Each (Went chosen_in 0 m) qs rs → n ≡ m → Each (Went chosen_in 0 0) ps rs
all_back n m ps qs rs lent back same =
    each_then (Went chosen_in n 0) (Went chosen_in 0 n) (Went chosen_in 0 0) (λ p q r one two. went_even chosen_in n p q r one two) ps qs rs lent
    (subst (λ (k : ℕ). Each (Went chosen_in 0 k) qs rs) (sym same) back)
