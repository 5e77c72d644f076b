-- Sums over lists, and lists of which one element changes.
use Rattle.std.proofs.Common.{◌≡◌, ◌≢◌, ℕ, zero, suc, ◌+◌, ◌≤◌, List, [], ◌∷◌, ◌++◌, set, refl, sym, ap, subst, ⊎_elim, arith}
use Rattle.std.proofs.lemmas.Bool.Decides.{nat_tests}
use mathlib.Core.Option.{some, some-injective, some-ne-none}
use lib.ListN.{get_elem?}
use Rattle.atomic_table.proofs.Lists.{at_set, at_snoc}
use Rattle.ccr_cell.specs.Counts.{times, total, once_between}

pub times_append : (p : ℕ) (xs ys : List ℕ) → times p (xs ++ ys) ≡ times p xs + times p ys
times_append p [] ys = omega arith
times_append p (x ∷ xs) ys = omega (arith, times_append p xs ys)

pub once_more : (first n p : ℕ) → first ≤ n → once_between first n p + times p (n ∷ []) ≡ once_between first (n + 1) p
once_more first n p le = grind (arith, nat_tests)

pub once_none : (n p : ℕ) → 0 ≡ once_between n n p
once_none n p = grind (arith, nat_tests)

module _ {V : Type 0} (f : V → ℕ) where
  pub total_set : (vs : List V) (i : ℕ) (v w : V) → get_elem? vs i ≡ some v → total f (set vs i w) + f v ≡ total f vs + f w
  total_set [] i v w at = absurd (some-ne-none v (sym at))
  total_set (x ∷ xs) zero v w at = let e : f x ≡ f v = ap f (some-injective x v at) in omega arith
  total_set (x ∷ xs) (suc i) v w at = let r = total_set xs i v w at in omega arith

  pub total_snoc : (vs : List V) (w : V) → total f (vs ++ w ∷ []) ≡ total f vs + f w
  total_snoc [] w = omega arith
  total_snoc (x ∷ xs) w = let r = total_snoc xs w in omega arith

  pub total_has : (vs : List V) (i : ℕ) (v : V) → get_elem? vs i ≡ some v → f v ≤ total f vs
  total_has [] i v at = absurd (some-ne-none v (sym at))
  total_has (x ∷ xs) zero v at = let e : f x ≡ f v = ap f (some-injective x v at) in omega arith
  total_has (x ∷ xs) (suc i) v at = let r = total_has xs i v at in omega arith

  -- where one element has the whole total, each other has 0
  pub total_rest : (vs : List V) (i : ℕ) (v : V) → get_elem? vs i ≡ some v → total f vs ≤ f v → (j : ℕ) (u : V) → get_elem? vs j ≡ some u → j ≢ i → f u ≡ 0
  total_rest [] i v at all j u there ne = absurd (some-ne-none v (sym at))
  total_rest (x ∷ xs) zero v at all zero u there ne = absurd (ne refl)
  total_rest (x ∷ xs) zero v at all (suc j) u there ne = let e : f x ≡ f v = ap f (some-injective x v at) in let r = total_has xs j u there in omega arith
  total_rest (x ∷ xs) (suc i) v at all zero u there ne = let e : f x ≡ f u = ap f (some-injective x u there) in let r = total_has xs i v at in omega arith
  total_rest (x ∷ xs) (suc i) v at all (suc j) u there ne = let r = total_has xs i v at in total_rest xs i v at (omega arith) j u there (λ e. ne (ap suc e))

  pub total_none : (vs : List V) → ((j : ℕ) (u : V) → get_elem? vs j ≡ some u → f u ≡ 0) → total f vs ≡ 0
  total_none [] none = refl
  total_none (x ∷ xs) none = let a : f x ≡ 0 = none 0 x refl in let r = total_none xs (λ j u there. none (suc j) u there) in omega arith

  -- where each other element has 0, the total is what the one has
  pub total_only : (vs : List V) (i : ℕ) (v : V) → get_elem? vs i ≡ some v → ((j : ℕ) (u : V) → get_elem? vs j ≡ some u → j ≢ i → f u ≡ 0) → total f vs ≡ f v
  total_only [] i v at none = absurd (some-ne-none v (sym at))
  total_only (x ∷ xs) zero v at none =
      let e : f x ≡ f v = ap f (some-injective x v at) in
      let r = total_none xs (λ j u there. none (suc j) u there (λ h. omega arith)) in omega arith
  total_only (x ∷ xs) (suc i) v at none =
      let a : f x ≡ 0 = none 0 x refl (λ h. omega arith) in
      let r = total_only xs i v at (λ j u there ne. none (suc j) u there (λ h. ne (omega arith))) in omega arith

module _ {V : Type 0} where
  pub set_at : (vs : List V) (i : ℕ) (v w : V) → get_elem? vs i ≡ some v → get_elem? (set vs i w) i ≡ some w
  set_at [] i v w at = absurd (some-ne-none v (sym at))
  set_at (x ∷ xs) zero v w at = refl
  set_at (x ∷ xs) (suc i) v w at = set_at xs i v w at

  -- what holds of the new element and of each other one holds of all
  pub each_set : (Q : ℕ → V → Type 0) (vs : List V) (i : ℕ) (w : V) → Q i w → ((j : ℕ) (u : V) → j ≢ i → get_elem? vs j ≡ some u → Q j u)
      → (j : ℕ) (u : V) → get_elem? (set vs i w) j ≡ some u → Q j u
  each_set Q vs i w here others j u at =
      ⊎_elim (λ (t : (j ≡ i) × (w ≡ u)). subst (λ (x : V). Q j x) t.1 (subst (λ (k : ℕ). Q k w) (sym t.0) here)) (λ (t : (j ≢ i) × (get_elem? vs j ≡ some u)). others j u t.0 t.1) (at_set vs i j w u at)

  pub each_snoc : (Q : V → Type 0) (vs : List V) (w : V) → Q w → ((j : ℕ) (u : V) → get_elem? vs j ≡ some u → Q u) → (j : ℕ) (u : V) → get_elem? (vs ++ w ∷ []) j ≡ some u → Q u
  each_snoc Q vs w last others j u at = ⊎_elim (λ (t : get_elem? vs j ≡ some u). others j u t) (λ (t : w ≡ u). subst Q t last) (at_snoc vs w u j at)
