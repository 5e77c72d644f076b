-- How many elements pass a test that another one implies.
use Rattle.std.proofs.Common.{◌≡◌, inl, inr, ◌+◌, ◌≤◌, Bool, true, false, if◌then◌else◌, List, [], ◌∷◌, length, filter, refl, sym, subst, arith}
use Rattle.ccr_model.specs.Answers.{IsIn}

pub fewer : {X : Type 0} (p q : X → Bool) → ((x : X) → p x ≡ true → q x ≡ true) → (xs : List X) → length (filter p xs) ≤ length (filter q xs)
fewer p q step [] = omega arith
fewer {X = X} p q step (x ∷ xs) = cases (p x) (q x) (step x) (fewer p q step xs)
  where
    cases : (a b : Bool) → (a ≡ true → b ≡ true) → length (filter p xs) ≤ length (filter q xs)
        → length (if a then x ∷ filter p xs else filter p xs) ≤ length (if b then x ∷ filter q xs else filter q xs)
    cases true true step rest = omega arith
    cases true false step rest = let e : false ≡ true = step refl in absurd (cc)
    cases false true step rest = omega arith
    cases false false step rest = rest

pub one_fewer : {X : Type 0} (p q : X → Bool) → ((x : X) → p x ≡ true → q x ≡ true) → (xs : List X) (y : X) → IsIn xs y → q y ≡ true → p y ≡ false
    → length (filter p xs) + 1 ≤ length (filter q xs)
one_fewer p q step [] y at is isnt = absurd at
one_fewer {X = X} p q step (x ∷ xs) y (inl same) is isnt =
    cases (p x) (q x) (subst (λ z. p z ≡ false) (sym same) isnt) (subst (λ z. q z ≡ true) (sym same) is) (fewer p q step xs)
  where
    cases : (a b : Bool) → a ≡ false → b ≡ true → length (filter p xs) ≤ length (filter q xs)
        → length (if a then x ∷ filter p xs else filter p xs) + 1 ≤ length (if b then x ∷ filter q xs else filter q xs)
    cases true b a_isnt b_is rest = absurd (cc)
    cases false false a_isnt b_is rest = absurd (cc)
    cases false true a_isnt b_is rest = omega arith
one_fewer {X = X} p q step (x ∷ xs) y (inr there) is isnt = cases (p x) (q x) (step x) (one_fewer p q step xs y there is isnt)
  where
    cases : (a b : Bool) → (a ≡ true → b ≡ true) → length (filter p xs) + 1 ≤ length (filter q xs)
        → length (if a then x ∷ filter p xs else filter p xs) + 1 ≤ length (if b then x ∷ filter q xs else filter q xs)
    cases true true step rest = omega arith
    cases true false step rest = let e : false ≡ true = step refl in absurd (cc)
    cases false true step rest = omega arith
    cases false false step rest = rest
