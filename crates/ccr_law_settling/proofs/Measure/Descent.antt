-- Five numbers, compared from the first on, have no endless descent.
use Rattle.std.proofs.Common.{◌≡◌, ◌⊎◌, inl, inr, ℕ, zero, suc, ◌+◌, ◌<◌, ◌≤◌, nat_lt, true, false, refl, sym, subst, arith}
use Rattle.std.proofs.lemmas.Bool.Decides.{nat_tests}
use Rattle.ccr_law_settling.specs.Measure.{Five, IsLess, IsBelow}

-- what holds of each element where it holds of all that are below it
abbrev Descends : {X : Type 0} → (X → X → Type 0) → Type 1
Descends {X} R = (P : X → Type 0) → ((x : X) → ((y : X) → R y x → P y) → P x) → (x : X) → P x

abbrev Less : ℕ → ℕ → Type 0
Less a b = a < b

numbers_below : (P : ℕ → Type 0) → ((x : ℕ) → ((y : ℕ) → y < x → P y) → P x) → (bound : ℕ) → (y : ℕ) → y < bound → P y
numbers_below P step zero y lt = absurd (omega arith)
numbers_below P step (suc bound) y lt = step y (λ z less. numbers_below P step bound z (omega arith))

numbers : Descends Less
numbers P step x = step x (numbers_below P step x)

-- pairs, where the second counts once the first is no greater
abbrev First : {X : Type 0} → (X → X → Type 0) → ℕ × X → ℕ × X → Type 0
First R a b = IsLess a.0 b.0 (R a.1 b.1)

pub split : (a b : ℕ) → a ≤ b → (a < b) ⊎ (a ≡ b)
split a b le =
    (elim (nat_lt a b) as (λ c. nat_lt a b ≡ c → (a < b) ⊎ (a ≡ b)) [
      | true ↦ λ is. inl (grind (arith, nat_tests))
      | false ↦ λ isnt. inr (grind (arith, nat_tests))
    ]) refl

pairs : {X : Type 0} (R : X → X → Type 0) → Descends R → Descends (First R)
pairs {X} R descends P step pair =
    numbers (λ n. (x : X) → P (n, x))
    (λ n less. descends (λ x. P (n, x)) (λ x below. step (n, x) (λ y lower. at n x less below y lower)))
    pair.0 pair.1
  where
    at : (n : ℕ) (x : X) → ((m : ℕ) → m < n → (y : X) → P (m, y)) → ((y : X) → R y x → P (n, y)) → (y : ℕ × X) → First R y (n, x) → P y
    at n x less below y lower = elim lower as (λ _. P y) [
      | inl lt ↦ less y.0 lt y.1
      | inr rest ↦ elim (split y.0 n rest.0) as (λ _. P y) [
        | inl lt ↦ less y.0 lt y.1
        | inr same ↦ subst (λ m. P (m, y.1)) (sym same) (below y.1 rest.1)
      ]
    ]

-- the induction over five numbers
pub five_descend : (P : Five → Type 0) → ((x : Five) → ((y : Five) → IsBelow y x → P y) → P x) → (x : Five) → P x
five_descend P step x =
    pairs (First (First (First Less))) (pairs (First (First Less)) (pairs (First Less) (pairs Less numbers)))
    (λ p. P (record { ranks = p.0; lacking = p.1.0; idle = p.1.1.0; underway = p.1.1.1.0; leases = p.1.1.1.1 }))
    (λ p below. step (record { ranks = p.0; lacking = p.1.0; idle = p.1.1.0; underway = p.1.1.1.0; leases = p.1.1.1.1 })
    (λ y lower. below (y.ranks, (y.lacking, (y.idle, (y.underway, y.leases)))) lower))
    (x.ranks, (x.lacking, (x.idle, (x.underway, x.leases))))

pub no_descent : (five : ℕ → Five) → ((n : ℕ) → IsBelow (five (n + 1)) (five n)) → ⊥
no_descent five down =
    five_descend (λ x. (n : ℕ) → five n ≡ x → ⊥)
    (λ x below n e. below (five (n + 1)) (subst (IsBelow (five (n + 1))) e (down n)) (n + 1) refl)
    (five 0) 0 refl
