-- Worlds change one after another.
use Rattle.std.specs.Prelude.{slice_set}
use Rattle.std.proofs.Common.{◌≡◌, ℕ, zero, suc, ◌+◌, ◌<◌, List, [], ◌∷◌, length, map, refl, ap, sym, subst, ◌∙◌, arith, get_or, add-one}
use Rattle.ccr_deeds.specs.Logs.{Log}
use Rattle.ccr_deeds.specs.Settles.{EachWorld, IsSettled, MayBeSettled}
use Rattle.ccr_worlds.specs.Fated.{Fate, Standing, Fated, AreFated}
use Rattle.ccr_worlds.proofs.Quiet.{settled_may, same_may}

-- the same is true of each and its successor
abbrev pub Each : {X : Type 0} → (X → X → Type 0) → List X → List X → Type 0
Each R [] [] = Unit {0}
Each R [] (y ∷ ys) = ⊥
Each R (x ∷ xs) [] = ⊥
Each R (x ∷ xs) (y ∷ ys) = R x y × Each R xs ys

-- it is true of those below a place, and those from it on are as before
abbrev pub UpTo : {X : Type 0} → (X → X → Type 0) → ℕ → List X → List X → Type 0
UpTo R n [] [] = Unit {0}
UpTo R n [] (y ∷ ys) = ⊥
UpTo R n (x ∷ xs) [] = ⊥
UpTo R zero (x ∷ xs) (y ∷ ys) = (y ≡ x) × UpTo R zero xs ys
UpTo R (suc n) (x ∷ xs) (y ∷ ys) = R x y × UpTo R n xs ys

pub none_yet : {X : Type 0} (R : X → X → Type 0) (xs : List X) → UpTo R zero xs xs
none_yet R [] = tt
none_yet R (x ∷ xs) = (refl, none_yet R xs)

one_more : {X : Type 0} (R : X → X → Type 0) (n : ℕ) (xs ys : List X) (d y z : X) → n < length ys → y ≡ get_or ys n d → R y z → UpTo R n xs ys → UpTo R (suc n) xs (slice_set ys n z)
one_more R n [] [] d y z within is turn up = absurd (omega arith)
one_more R n [] (v ∷ ys) d y z within is turn up = absurd up
one_more R n (x ∷ xs) [] d y z within is turn up = absurd up
one_more R zero (x ∷ xs) (v ∷ ys) d y z within is turn up = (subst (λ w. R w z) (is ∙ up.0) turn, up.1)
one_more R (suc n) (x ∷ xs) (v ∷ ys) d y z within is turn up = (up.0, one_more R n xs ys d y z (omega arith) is turn up.1)

pub one_more_done : {X : Type 0} (R : X → X → Type 0) (n : ℕ) (xs ys : List X) (d y z : X) → n < length ys → y ≡ get_or ys n d → R y z → UpTo R n xs ys → UpTo R (n + 1) xs (slice_set ys n z)
one_more_done R n xs ys d y z within is turn up = rw add-one (one_more R n xs ys d y z within is turn up)

pub all_done : {X : Type 0} (R : X → X → Type 0) (n : ℕ) (xs ys : List X) → n ≡ length ys → UpTo R n xs ys → Each R xs ys
all_done R n [] [] end up = tt
all_done R n [] (y ∷ ys) end up = up
all_done R n (x ∷ xs) [] end up = up
all_done R zero (x ∷ xs) (y ∷ ys) end up = absurd (omega arith)
all_done R (suc n) (x ∷ xs) (y ∷ ys) end up = (up.0, all_done R n xs ys (omega arith) up.1)

-- the one at the place changed in another way, and the change may be that of those before it, or none
same_rest : {X : Type 0} (R S : X → X → Type 0) (xs ys : List X) → ((x : X) → S x x) → UpTo R zero xs ys → Each S xs ys
same_rest R S [] [] none up = tt
same_rest R S [] (y ∷ ys) none up = up
same_rest R S (x ∷ xs) [] none up = up
same_rest R S (x ∷ xs) (y ∷ ys) none up = (subst (λ w. S x w) (sym up.0) (none x), same_rest R S xs ys none up.1)

pub stopped_at : {X : Type 0} (R S : X → X → Type 0) (n : ℕ) (xs ys : List X) (d y z : X) → n < length ys → y ≡ get_or ys n d → S y z → ((x w : X) → R x w → S x w) → ((x : X) → S x x)
    → UpTo R n xs ys → Each S xs (slice_set ys n z)
stopped_at R S n [] [] d y z within is turn weaker none up = absurd (omega arith)
stopped_at R S n [] (v ∷ ys) d y z within is turn weaker none up = absurd up
stopped_at R S n (x ∷ xs) [] d y z within is turn weaker none up = absurd up
stopped_at R S zero (x ∷ xs) (v ∷ ys) d y z within is turn weaker none up = (subst (λ w. S w z) (is ∙ up.0) turn, same_rest R S xs ys none up.1)
stopped_at R S (suc n) (x ∷ xs) (v ∷ ys) d y z within is turn weaker none up = (weaker x v up.0, stopped_at R S n xs ys d y z (omega arith) is turn weaker none up.1)

-- ---- a world's turn: what its log became, and that the policy handed in for it goes on being that

abbrev pub KeepsFated : Standing → Standing → Type 0
KeepsFated s t = (first : Fate) → Fated first s → Fated first t

abbrev pub Turn : {X : Type 0} → (X → Standing) → (Log → Log → Type 0) → X → X → Type 0
Turn standing R x y = R (standing x).log (standing y).log × KeepsFated (standing x) (standing y)

pub turn_weaker : {X : Type 0} (standing : X → Standing) (x y : X) → Turn standing IsSettled x y → Turn standing MayBeSettled x y
turn_weaker standing x y turn = (settled_may (standing x).log (standing y).log turn.0, turn.1)

pub no_turn : {X : Type 0} (standing : X → Standing) (x : X) → Turn standing MayBeSettled x x
no_turn standing x = (same_may (standing x).log, λ first f. f)

pub each_log : {X : Type 0} (standing : X → Standing) (log : X → Log) → ((x : X) → (standing x).log ≡ log x) → (R : Log → Log → Type 0) (xs ys : List X)
    → Each (Turn standing R) xs ys → EachWorld R (map log xs) (map log ys)
each_log standing log same R [] [] each = tt
each_log standing log same R [] (y ∷ ys) each = each
each_log standing log same R (x ∷ xs) [] each = each
each_log standing log same R (x ∷ xs) (y ∷ ys) each =
    (subst (λ l. R l (log y)) (same x) (subst (λ l. R (standing x).log l) (same y) each.0.0), each_log standing log same R xs ys each.1)

pub each_fated : {X : Type 0} (standing : X → Standing) (R : Log → Log → Type 0) (xs ys : List X) → Each (Turn standing R) xs ys → (fates : ℕ → Fate) (n : ℕ) (left : List Fate)
    → AreFated fates n (map standing xs) left → AreFated fates n (map standing ys) left
each_fated standing R [] [] each fates n left are = are
each_fated standing R [] (y ∷ ys) each fates n left are = absurd each
each_fated standing R (x ∷ xs) [] each fates n left are = absurd each
each_fated standing R (x ∷ xs) (y ∷ ys) each fates n left are = (each.0.1 (fates n) are.0, each_fated standing R xs ys each.1 fates (n + 1) left are.1)
