-- Members of lists: of filtered ones, of fronts, and places.
use Rattle.std.specs.List.{cons_option}
use Rattle.std.proofs.Common.{◌≡◌, inl, inr, ℕ, zero, suc, ◌<◌, Bool, true, false, Option, Some, None, List, [], ◌∷◌, take, filter, filter_map, slice_get, refl, sym, ap, subst, arith}
use Rattle.ccr_model.specs.Answers.{IsIn}
use Rattle.ccr_law_base.proofs.Cases.{on_if}
use Rattle.ccr_law_base.proofs.Lists.{some_equal}

-- ---- filters

pub in_filter : {X : Type 0} (test : X → Bool) (xs : List X) (y : X) → IsIn (filter test xs) y → IsIn xs y × (test y ≡ true)
in_filter test [] y at = absurd at
in_filter test (x ∷ xs) y at =
    on_if (λ (found : List _). IsIn found y → IsIn (x ∷ xs) y × (test y ≡ true)) (test x) (x ∷ filter test xs) (filter test xs)
    (λ is here. elim here [ inl same ↦ (inl same, subst (λ z. test z ≡ true) same is) | inr rest ↦ let ih = in_filter test xs y rest in (inr ih.0, ih.1) ])
    (λ isnt here. let ih = in_filter test xs y here in (inr ih.0, ih.1)) at

pub filter_in : {X : Type 0} (test : X → Bool) (xs : List X) (y : X) → IsIn xs y → test y ≡ true → IsIn (filter test xs) y
filter_in test [] y at passes = absurd at
filter_in test (x ∷ xs) y (inl same) passes =
    on_if (λ (found : List _). IsIn found y) (test x) (x ∷ filter test xs) (filter test xs)
    (λ is. inl same) (λ isnt. absurd (differ (subst (λ z. test z ≡ true) (sym same) passes) isnt))
  where
    differ : test x ≡ true → test x ≡ false → ⊥
    differ is isnt = cc
filter_in test (x ∷ xs) y (inr rest) passes =
    on_if (λ (found : List _). IsIn found y) (test x) (x ∷ filter test xs) (filter test xs)
    (λ is. inr (filter_in test xs y rest passes)) (λ isnt. filter_in test xs y rest passes)

-- ---- what a partial map gives

-- what a member of the list gives
pub record Gives {X Y : Type 0} (f : X → Option Y) (xs : List X) (y : Y) : Type 0 where
  pub from : X
  pub is_in : IsIn xs from
  pub gives : f from ≡ Some y

gives_more : {X Y : Type 0} (f : X → Option Y) (x : X) (xs : List X) (y : Y) → Gives f xs y → Gives f (x ∷ xs) y
gives_more f x xs y g = record { from = g.from; is_in = inr g.is_in; gives = g.gives }

pub in_filter_map : {X Y : Type 0} (f : X → Option Y) (xs : List X) (y : Y) → IsIn (filter_map f xs) y → Gives f xs y
in_filter_map f [] y at = absurd at
in_filter_map {X = X} {Y = Y} f (x ∷ xs) y at = here (in_filter_map f xs y) (f x) refl at
  where
    here : (IsIn (filter_map f xs) y → Gives f xs y) → (o : Option Y) → f x ≡ o → IsIn (cons_option o (filter_map f xs)) y → Gives f (x ∷ xs) y
    here rest None e at = gives_more f x xs y (rest at)
    here rest (Some z) e (inl same) = record { from = x; is_in = inl refl; gives = subst (λ (w : Y). f x ≡ Some w) same e }
    here rest (Some z) e (inr at) = gives_more f x xs y (rest at)

pub filter_map_in : {X Y : Type 0} (f : X → Option Y) (xs : List X) (x : X) (y : Y) → IsIn xs x → f x ≡ Some y → IsIn (filter_map f xs) y
filter_map_in f [] x y at gives = absurd at
filter_map_in f (z ∷ xs) x y (inl same) gives =
    let e : f z ≡ Some y = subst (λ w. f w ≡ Some y) (sym same) gives in rw e (inl refl)
filter_map_in {X = X} {Y = Y} f (z ∷ xs) x y (inr rest) gives = more (f z) (filter_map_in f xs x y rest gives)
  where
    more : (o : Option Y) → IsIn (filter_map f xs) y → IsIn (cons_option o (filter_map f xs)) y
    more None at = at
    more (Some w) at = inr at

-- ---- places

pub IsIn-take : {X : Type 0} (xs : List X) (c n : ℕ) (x : X) → slice_get xs n ≡ Some x → n < c → IsIn (take c xs) x
IsIn-take [] c n x at lt = absurd (cc)
IsIn-take (y ∷ xs) zero n x at lt = absurd (omega arith)
IsIn-take (y ∷ xs) (suc c) zero x at lt = inl (some_equal y x at)
IsIn-take (y ∷ xs) (suc c) (suc n) x at lt = inr (IsIn-take xs c n x at (omega arith))

-- a member of a front stands at a place below its end
pub place_in_front : {X : Type 0} (xs : List X) (c : ℕ) (x : X) → IsIn (take c xs) x → (n : ℕ) × (n < c) × (slice_get xs n ≡ Some x)
place_in_front [] zero x at = absurd at
place_in_front [] (suc c) x at = absurd at
place_in_front (y ∷ xs) zero x at = absurd at
place_in_front (y ∷ xs) (suc c) x (inl same) = (zero, omega arith, ap (λ z. Some z) same)
place_in_front (y ∷ xs) (suc c) x (inr rest) = let p = place_in_front xs c x rest in (suc p.0, omega arith, p.2)
