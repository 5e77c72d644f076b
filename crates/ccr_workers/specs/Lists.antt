-- Two lists whose elements belong together.
use Rattle.std.specs.Prelude.{◌≡◌, ℕ, zero, suc, List, [], ◌∷◌}

-- the lists are as long, and it is true of the elements at each place
abbrev pub Each : {A B : Type 0} → (A → B → Type 0) → List A → List B → Type 0
Each R [] [] = Unit {0}
Each R [] (y ∷ ys) = ⊥
Each R (x ∷ xs) [] = ⊥
Each R (x ∷ xs) (y ∷ ys) = R x y × Each R xs ys

-- the second list is no longer, and it is true of its elements and those at the same places of the first
abbrev pub Fronts : {A B : Type 0} → (A → B → Type 0) → List A → List B → Type 0
Fronts R xs [] = Unit {0}
Fronts R [] (y ∷ ys) = ⊥
Fronts R (x ∷ xs) (y ∷ ys) = R x y × Fronts R xs ys

-- it is true of those below a place, and those from it on are the same
abbrev pub UpTo : {A : Type 0} → (A → A → Type 0) → ℕ → List A → List A → Type 0
UpTo R n [] [] = Unit {0}
UpTo R n [] (y ∷ ys) = ⊥
UpTo R n (x ∷ xs) [] = ⊥
UpTo R zero (x ∷ xs) (y ∷ ys) = (y ≡ x) × UpTo R zero xs ys
UpTo R (suc n) (x ∷ xs) (y ∷ ys) = R x y × UpTo R n xs ys
