-- Two lists in one strict order that have the same members are the same.
use Rattle.std.specs.Cmp.{IsTotalOrder}
use Rattle.std.specs.Ordering.{ordering_reverse}
use Rattle.std.proofs.Common.{◌≡◌, ◌⊎◌, inl, inr, Ordering, Less, Equal, Greater, List, [], ◌∷◌, refl, sym, ◌∙◌, ap, subst}
use Rattle.ccr_model.specs.Answers.{IsIn}
use Rattle.ccr_law_base.proofs.Lists.{All-in}
use Rattle.ccr_law_stores.proofs.Insertions.{Pairwise}

pub never_itself : {X : Type 0} (R : X → X → Ordering) → IsTotalOrder R → (x : X) → ¬ (R x x ≡ Less)
never_itself R total x is = turned (R x x) is (total.antisymm x x)
  where
    turned : (o : Ordering) → o ≡ Less → o ≡ ordering_reverse o → ⊥
    turned Less is by = cc
    turned Equal is by = cc
    turned Greater is by = cc

never_both : {X : Type 0} (R : X → X → Ordering) → IsTotalOrder R → (x y : X) → R x y ≡ Less → ¬ (R y x ≡ Less)
never_both R total x y first second = never_itself R total x (total.trans x y x first second)

abbrev pub InOrder : {X : Type 0} → (X → X → Ordering) → List X → Type 0
InOrder R xs = Pairwise (λ x y. R x y ≡ Less) xs

pub same_lists : {X : Type 0} (R : X → X → Ordering) → IsTotalOrder R → (xs ys : List X) → InOrder R xs → InOrder R ys
    → ((z : X) → IsIn xs z → IsIn ys z) → ((z : X) → IsIn ys z → IsIn xs z) → xs ≡ ys
same_lists R total [] [] first second to from = refl
same_lists R total [] (y ∷ ys) first second to from = absurd (from y (inl refl))
same_lists R total (x ∷ xs) [] first second to from = absurd (to x (inl refl))
same_lists {X = X} R total (x ∷ xs) (y ∷ ys) first second to from =
    let same : x ≡ y = heads (to x (inl refl)) (from y (inl refl)) in
    let rest : xs ≡ ys = same_lists R total xs ys first.1 second.1 (λ z at. left same z at (to z (inr at))) (λ z at. right same z at (from z (inr at))) in
    ap (λ w. w ∷ xs) same ∙ ap (λ ws. y ∷ ws) rest
  where
    heads : ((y ≡ x) ⊎ IsIn ys x) → ((x ≡ y) ⊎ IsIn xs y) → x ≡ y
    heads (inl same) other = sym same
    heads (inr there) (inl same) = same
    heads (inr there) (inr here) = absurd (never_both R total x y (All-in (λ z. R x z ≡ Less) xs y first.0 here) (All-in (λ z. R y z ≡ Less) ys x second.0 there))

    left : x ≡ y → (z : X) → IsIn xs z → ((y ≡ z) ⊎ IsIn ys z) → IsIn ys z
    left same z at (inl head) = absurd (never_itself R total x (subst (λ w. R x w ≡ Less) (sym (same ∙ head)) (All-in (λ w. R x w ≡ Less) xs z first.0 at)))
    left same z at (inr there) = there

    right : x ≡ y → (z : X) → IsIn ys z → ((x ≡ z) ⊎ IsIn xs z) → IsIn xs z
    right same z at (inl head) = absurd (never_itself R total y (subst (λ w. R y w ≡ Less) (sym (sym same ∙ head)) (All-in (λ w. R y w ≡ Less) ys z second.0 at)))
    right same z at (inr there) = there
