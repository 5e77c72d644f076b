-- What a test finds in a list where one more element stands in it, one leaves it, or one is changed.
use Rattle.std.specs.Prelude.{find, slice_get, slice_set, ◌⊎◌, IfSome}
use Rattle.std.specs.List.{AllByRecursion}
use Rattle.std.proofs.Common.{◌≡◌, ℕ, zero, suc, ◌+◌, Bool, true, false, cond, Option, Some, None, List, [], ◌∷◌, ◌++◌, length, refl, sym, ◌∙◌, ap, subst, arith, inl, inr}
use Rattle.ccr_law_messages.specs.Asking.{IsNoMore}
use Rattle.ccr_law_base.proofs.Cases.{on_if}

pub find-skips : {X : Type 0} (test : X → Bool) (x : X) (xs : List X) → test x ≡ false → find test (x ∷ xs) ≡ find test xs
find-skips test x xs fails = ap (λ (b : Bool). cond b (Some x) (find test xs)) fails

pub find-takes : {X : Type 0} (test : X → Bool) (x : X) (xs : List X) → test x ≡ true → find test (x ∷ xs) ≡ Some x
find-takes test x xs passes = ap (λ (b : Bool). cond b (Some x) (find test xs)) passes

pub find-none : {X : Type 0} (test : X → Bool) (xs : List X) → AllByRecursion (λ x. test x ≡ false) xs → find test xs ≡ None
find-none test [] all = refl
find-none test (x ∷ xs) all = find-skips test x xs all.0 ∙ find-none test xs all.1

pub find-back : {X : Type 0} (test : X → Bool) (xs ys : List X) → AllByRecursion (λ x. test x ≡ false) xs → find test (xs ++ ys) ≡ find test ys
find-back test [] ys all = refl
find-back test (x ∷ xs) ys all = find-skips test x (xs ++ ys) all.0 ∙ find-back test xs ys all.1

pub find-push-other : {X : Type 0} (test : X → Bool) (xs : List X) (x : X) → test x ≡ false → find test (xs ++ x ∷ []) ≡ find test xs
find-push-other test [] x fails = find-skips test x [] fails
find-push-other test (z ∷ xs) x fails = ap (λ (o : Option _). cond (test z) (Some z) o) (find-push-other test xs x fails)

-- ---- no more than was found

pub no_more-trans : {X : Type 0} (a b c : Option X) → IsNoMore a b → IsNoMore b c → IsNoMore a c
no_more-trans a b c (inl e) (inl h) = inl (h ∙ e)
no_more-trans a b c (inr e) (inl h) = inr (h ∙ e)
no_more-trans a b c first (inr h) = inr h

pub no_more-same : {X : Type 0} (a : Option X) → IsNoMore a a
no_more-same a = inl refl

pub no_more-if : {X : Type 0} (P : X → Type 0) (a b : Option X) → IsNoMore a b → IfSome a P → IfSome b P
no_more-if P a b (inl e) holds = subst (λ (o : Option _). IfSome o P) (sym e) holds
no_more-if P a b (inr e) holds = subst (λ (o : Option _). IfSome o P) (sym e) tt

pub no_more-cons : {X : Type 0} (test : X → Bool) (x : X) (xs ys : List X) → IsNoMore (find test xs) (find test ys) → IsNoMore (find test (x ∷ xs)) (find test (x ∷ ys))
no_more-cons test x xs ys less =
    (elim (test x) as (λ (b : Bool). IsNoMore (cond b (Some x) (find test xs)) (cond b (Some x) (find test ys))) [ true ↦ inl refl | false ↦ less ])

-- an element leaves that was the only one to pass, or didn't pass
pub no_more-leaves : {X : Type 0} (test : X → Bool) (x : X) (xs : List X) → (test x ≡ true → find test xs ≡ None) → IsNoMore (find test (x ∷ xs)) (find test xs)
no_more-leaves test x xs alone =
    on_if (λ (o : Option _). IsNoMore o (find test xs)) (test x) (Some x) (find test xs) (λ is. inr (alone is)) (λ isnt. inl refl)

-- it is changed into one that doesn't pass
pub no_more-changes : {X : Type 0} (test : X → Bool) (x y : X) (xs : List X) → test y ≡ false → (test x ≡ true → find test xs ≡ None) → IsNoMore (find test (x ∷ xs)) (find test (y ∷ xs))
no_more-changes test x y xs fails alone =
    subst (λ (o : Option _). IsNoMore (find test (x ∷ xs)) o) (sym (find-skips test y xs fails)) (no_more-leaves test x xs alone)

pub if-found : {X : Type 0} (P : X → Type 0) (o : Option X) (x : X) → o ≡ Some x → P x → IfSome o P
if-found P o x found holds = subst (λ (z : Option _). IfSome z P) (sym found) holds

pub if-weaker : {X : Type 0} (P Q : X → Type 0) → ((x : X) → P x → Q x) → (o : Option X) → IfSome o P → IfSome o Q
if-weaker P Q step None holds = tt
if-weaker P Q step (Some x) holds = step x holds

pub found-if : {X : Type 0} (P : X → Type 0) (o : Option X) (x : X) → o ≡ Some x → IfSome o P → P x
found-if P o x found holds = subst (λ (z : Option _). IfSome z P) found holds

-- ---- places in a list

pub length-set : {X : Type 0} (xs : List X) (i : ℕ) (y : X) → length (slice_set xs i y) ≡ length xs
length-set [] zero y = refl
length-set [] (suc i) y = refl
length-set (z ∷ xs) zero y = refl
length-set (z ∷ xs) (suc i) y = let rest : length (slice_set xs i y) ≡ length xs = length-set xs i y in omega arith

-- what stands at a place of the longer list stood there, or is the new one, which stands at the end
pub push-at : {X : Type 0} (xs : List X) (i : ℕ) (x y : X) → slice_get (xs ++ y ∷ []) i ≡ Some x → (slice_get xs i ≡ Some x) ⊎ ((y ≡ x) × (i ≡ length xs))
push-at [] zero x y at = inr ((let e : y ≡ x = cc in e), refl)
push-at [] (suc i) x y at = absurd cc
push-at (z ∷ xs) zero x y at = inl at
push-at (z ∷ xs) (suc i) x y at = (elim (push-at xs i x y at) as (λ _. (slice_get xs i ≡ Some x) ⊎ ((y ≡ x) × (suc i ≡ suc (length xs)))) [
  | inl old ↦ inl old
  | inr new ↦ inr (new.0, ap suc new.1)
])

pub push-new : {X : Type 0} (xs : List X) (y : X) → slice_get (xs ++ y ∷ []) (length xs) ≡ Some y
push-new [] y = refl
push-new (z ∷ xs) y = push-new xs y

pub length-push : {X : Type 0} (xs : List X) (y : X) → length (xs ++ y ∷ []) ≡ length xs + 1
length-push [] y = refl
length-push (z ∷ xs) y = let rest : length (xs ++ y ∷ []) ≡ length xs + 1 = length-push xs y in omega arith
