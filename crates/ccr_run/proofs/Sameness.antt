-- hits that are the same
use Rattle.std.proofs.Common.{◌≡◌, ◌≢◌, suc, false, List, [], ◌∷◌, length, refl, ap}
use Rattle.std.proofs.lemmas.Bool.{and_right}
use Rattle.ccr_query.specs.declared.answers.Hit.{Hit}
use Rattle.ccr_run.specs.Samples.{same_hit, same_hits}

-- so many hits are not the same as another number of them
pub same_hits-differ : (xs ys : List Hit) → length xs ≢ length ys → same_hits xs ys ≡ false
same_hits-differ [] [] differ = absurd (differ refl)
same_hits-differ [] (y ∷ ys) differ = refl
same_hits-differ (x ∷ xs) [] differ = refl
same_hits-differ (x ∷ xs) (y ∷ ys) differ = and_right (same_hit x y) (same_hits xs ys) (same_hits-differ xs ys (λ e. differ (ap suc e)))
