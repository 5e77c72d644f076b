-- Requests wait for the leases of a list: one that none is due leaves all waiting, and one that goes takes its requests with it.
use Rattle.std.specs.Prelude.{filter, ◌||◌}
use Rattle.std.specs.List.{AllByRecursion, list_any}
use Rattle.std.specs.Str.{bytes_eq}
use Rattle.std.proofs.Common.{◌≡◌, ℕ, Bool, not, true, false, if◌then◌else◌, List, [], ◌∷◌, ◌++◌, refl, sym, ◌∙◌, ap, subst}
use Rattle.std.proofs.lemmas.Slice.Eq.{bytes_eq-Decides}
use Rattle.ccr_leader.specs.Waited.{has_id, HasEach}

-- an id that is put behind the others is there
pub has-added : (ids : List (List ℕ)) (id : List ℕ) → has_id (ids ++ id ∷ []) id ≡ true
has-added [] id = ap (λ b. b || false) ((bytes_eq-Decides id id).1 refl)
has-added (x ∷ ids) id = elim (bytes_eq x id) as (λ b. (b || has_id (ids ++ id ∷ []) id) ≡ true) [ true ↦ refl | false ↦ has-added ids id ]

-- where no id of the list passes the test, one that it has does not
none-passes : (p : List ℕ → Bool) (ids : List (List ℕ)) (id : List ℕ) → has_id ids id ≡ true → list_any p ids ≡ false → p id ≡ false
none-passes p [] id has none = absurd (cc)
none-passes p (x ∷ ids) id has none =
    elim (p x) as (λ b. p x ≡ b → (b || list_any p ids) ≡ false → p id ≡ false) [
      | true ↦ λ is none. absurd (cc)
      | false ↦ λ is none.
          elim (bytes_eq x id) as (λ b. bytes_eq x id ≡ b → (b || has_id ids id) ≡ true → p id ≡ false) [
            | true ↦ λ same has. subst (λ y. p y ≡ false) ((bytes_eq-Decides x id).0 same) is
            | false ↦ λ same has. none-passes p ids id has none
          ] refl has
    ] refl none

module _ {K : Type 0} (id_of : K → List ℕ) where
  -- none of them passes the test either
  pub none-of-them : (p : List ℕ → Bool) (ids : List (List ℕ)) (ks : List K) → HasEach id_of ids ks → list_any p ids ≡ false → AllByRecursion (λ (k : K). p (id_of k) ≡ false) ks
  none-of-them p ids [] has none = tt
  none-of-them p ids (k ∷ ks) has none = (none-passes p ids (id_of k) has.0 none, none-of-them p ids ks has.1 none)

  -- a longer list has them too
  pub has-more : (ids more : List (List ℕ)) (ks : List K) → ((id : List ℕ) → has_id ids id ≡ true → has_id more id ≡ true) → HasEach id_of ids ks → HasEach id_of more ks
  has-more ids more [] longer has = tt
  has-more ids more (k ∷ ks) longer has = (longer (id_of k) has.0, has-more ids more ks longer has.1)

  pub has-last : (ids : List (List ℕ)) (ks : List K) (k : K) → HasEach id_of ids ks → has_id ids (id_of k) ≡ true → HasEach id_of ids (ks ++ k ∷ [])
  has-last ids [] k has last = (last, tt)
  has-last ids (x ∷ ks) k has last = (has.0, has-last ids ks k has.1 last)

-- an id that passes the test stays in the list of those that do
id-stays : (p : List ℕ → Bool) (ids : List (List ℕ)) (id : List ℕ) → has_id ids id ≡ true → p id ≡ true → has_id (filter p ids) id ≡ true
id-stays p [] id has passes = absurd (cc)
id-stays p (x ∷ ids) id has passes =
    elim (bytes_eq x id) as (λ b. bytes_eq x id ≡ b → (b || has_id ids id) ≡ true → has_id (filter p (x ∷ ids)) id ≡ true) [
      | true ↦ λ same has.
          let at : p x ≡ true = subst (λ y. p y ≡ true) (sym ((bytes_eq-Decides x id).0 same)) passes in
          elim (p x) as (λ b. b ≡ true → has_id (if b then x ∷ filter p ids else filter p ids) id ≡ true) [
            | true ↦ λ is. ap (λ b. b || has_id (filter p ids) id) same
            | false ↦ λ is. absurd (cc)
          ] at
      | false ↦ λ same has.
          let rest : has_id (filter p ids) id ≡ true = id-stays p ids id has passes in
          elim (p x) as (λ b. has_id (if b then x ∷ filter p ids else filter p ids) id ≡ true) [
            | true ↦ ap (λ b. b || has_id (filter p ids) id) same ∙ rest
            | false ↦ rest
          ]
    ] refl has

-- those that stay find their ids among the ids that stay
pub each-stays : {K : Type 0} (id_of : K → List ℕ) (p : List ℕ → Bool) (ids : List (List ℕ)) (ks : List K) → HasEach id_of ids ks → HasEach id_of (filter p ids) (filter (λ k. p (id_of k)) ks)
each-stays {K} id_of p ids [] has = tt
each-stays {K} id_of p ids (k ∷ ks) has =
    elim (p (id_of k)) as (λ b. p (id_of k) ≡ b → HasEach id_of (filter p ids) (if b then k ∷ filter (λ x. p (id_of x)) ks else filter (λ x. p (id_of x)) ks)) [
      | true ↦ λ passes. (id-stays p ids (id_of k) has.0 passes, each-stays id_of p ids ks has.1)
      | false ↦ λ passes. each-stays id_of p ids ks has.1
    ] refl
