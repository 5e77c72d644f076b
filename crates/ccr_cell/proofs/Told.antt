-- What follows for a caller from what an act tells.
use Rattle.std.proofs.Common.{◌≡◌, ℕ, zero, suc, List, [], ◌∷◌, ◌++◌, length, Some, slice_get, refl, ap, sym, ◌∙◌}
use mathlib.Core.List.{IsPrefix}
use Rattle.ccr_cell.specs.declared.view.View.{View}
use Rattle.ccr_cell.specs.Told.{Acted}
use Rattle.ccr_cell.proofs.Fronts.{prefix_trans}

-- what stands in a beginning stands in the whole, at the same place
pub prefix_get : {A : Type 0} (xs ys : List A) (k : ℕ) (x : A) → IsPrefix xs ys → slice_get xs k ≡ Some x → slice_get ys k ≡ Some x
prefix_get [] ys k x p h = absurd cc
prefix_get (y ∷ xs) [] k x p h = absurd (cc (p.1))
prefix_get (y ∷ xs) (z ∷ ys) zero x p h = cc (p.1, h)
prefix_get (y ∷ xs) (z ∷ ys) (suc k) x p h = prefix_get xs ys k x (p.0, cc (p.1)) h

last_get : {A : Type 0} (xs : List A) (x : A) → slice_get (xs ++ x ∷ []) (length xs) ≡ Some x
last_get [] x = refl
last_get (y ∷ xs) x = last_get xs x

module _ {S E : Type 0} {may : S → List E → Type 0} {entry : E} {place : ℕ} {v w : View S E} where
  -- the entry stands at the place that was told
  pub acted_stands : Acted may entry place v w → slice_get w.seen place ≡ Some entry
  acted_stands a = ap (λ (l : List E). slice_get l place) a.seen ∙ (ap (λ (k : ℕ). slice_get (a.front ++ entry ∷ []) k) a.here ∙ last_get a.front entry)

  -- the pass has then seen all that it had seen, and more
  pub acted_grows : Acted may entry place v w → IsPrefix v.seen w.seen
  acted_grows a = prefix_trans v.seen a.front w.seen a.begins (entry ∷ [], sym a.seen)
