-- Whether each copy is whole, replica by replica.
use Rattle.std.specs.List.{list_all}
use Rattle.std.proofs.Common.{◌≡◌, ℕ, zero, suc, ◌+◌, ◌≤◌, Bool, true, false, ◌&&◌, Option, Some, None, List, [], ◌∷◌, length, map, drop, slice_get, refl, sym, ap, ◌∙◌, add-one, arith}
use Rattle.ccr_model.specs.Copies.{Copy, Replica}
use Rattle.ccr_model.specs.Settled.{is_whole}

abbrev pub copies_of : List Replica → List Copy
copies_of replicas = map {A = Replica} {B = Copy} (λ r. r.copy) replicas

abbrev whole : ℕ → List Replica → Bool
whole count replicas = list_all (is_whole count) (copies_of replicas)

at-place : (count place : ℕ) (rs : List Replica) (r : Replica) → Some r ≡ slice_get rs place → whole count (drop place rs) ≡ (is_whole count r.copy && whole count (drop (suc place) rs))
at-place count zero [] r is = absurd (cc)
at-place count (suc n) [] r is = absurd (cc)
at-place count zero (x ∷ rs) r is = let same : r ≡ x = cc in ap (λ (y : Replica). is_whole count y.copy && whole count rs) (sym same)
at-place count (suc n) (x ∷ rs) r is = at-place count n rs r is

-- a replica that is whole leaves the rest
pub whole-rest : (count place : ℕ) (rs : List Replica) (r : Replica) → Some r ≡ slice_get rs place → is_whole count r.copy ≡ true
    → list_all (is_whole count) (copies_of (drop (place + 1) rs)) ≡ list_all (is_whole count) (copies_of (drop place rs))
whole-rest count place rs r is holds = rw add-one (sym (at-place count place rs r is ∙ ap (λ (b : Bool). b && whole count (drop (suc place) rs)) holds))

-- one that isn't decides
pub whole-not : (count place : ℕ) (rs : List Replica) (r : Replica) → Some r ≡ slice_get rs place → is_whole count r.copy ≡ false
    → list_all (is_whole count) (copies_of (drop place rs)) ≡ false
whole-not count place rs r is fails = at-place count place rs r is ∙ ap (λ (b : Bool). b && whole count (drop (suc place) rs)) fails

-- none is left
pub whole-none : (count place : ℕ) (rs : List Replica) → None ≡ slice_get rs place → list_all (is_whole count) (copies_of (drop place rs)) ≡ true
whole-none count zero [] is = refl
whole-none count (suc n) [] is = refl
whole-none count zero (x ∷ rs) is = absurd (cc)
whole-none count (suc n) (x ∷ rs) is = whole-none count n rs is

pub whole-end : (count place : ℕ) (rs : List Replica) → length rs ≤ place → list_all (is_whole count) (copies_of (drop place rs)) ≡ true
whole-end count zero [] le = refl
whole-end count (suc n) [] le = refl
whole-end count zero (x ∷ rs) le = absurd (omega arith)
whole-end count (suc n) (x ∷ rs) le = whole-end count n rs (omega arith)

pub ruleset wholes = (whole-rest, whole-not, whole-none, whole-end)
