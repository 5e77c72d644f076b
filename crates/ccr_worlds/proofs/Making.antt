-- A world more, with the next of the policies.
use Rattle.std.specs.Prelude.{MatchOption, Option, Some, None, option_to_list}
use Rattle.std.proofs.Common.{◌≡◌, ℕ, zero, suc, ◌+◌, ◌-◌, List, [], ◌∷◌, ◌++◌, map, reverse, take, drop, length, refl, ap, sym, subst, ◌∙◌, arith}
use Rattle.std.proofs.lemmas.List.{append-nil, reverse-append, reverse-reverse}
use Rattle.ccr_model.specs.Leaders.{Start}
use Rattle.ccr_model.specs.Policies.{picks_of}
use Rattle.ccr_deeds.specs.Logs.{Log, new_log}
use Rattle.ccr_worlds.specs.Fated.{Fate, Standing, AreLeft, AreFated}
use Rattle.ccr_worlds.proofs.Fates.{fated_made}

map-push : {X Y : Type 0} (f : X → Y) (xs : List X) (x : X) → map f (xs ++ x ∷ []) ≡ map f xs ++ f x ∷ []
map-push f [] x = refl
map-push f (y ∷ xs) x = ap (λ ys. f y ∷ ys) (map-push f xs x)

-- where no policy was left, none is
take_none : {B : Type 0} (bs : List B) → take (0 - 1) bs ≡ []
take_none [] = refl
take_none (b ∷ bs) = refl

pub none_left : {B : Type 0} (n m : ℕ) (left rest : List B) (policy : Option B) (Q : B → Type 0) → MatchOption policy ((n ≡ 0) × (m ≡ 0)) Q → rest ≡ take (n - 1) left
    → policy ≡ None → rest ≡ []
none_left n m left rest None Q gone is none = is ∙ ap (λ k. take (k - 1) left) gone.0 ∙ take_none left
none_left n m left rest (Some b) Q gone is none = absurd cc

reverse-push : {B : Type 0} (rest : List B) (policy : Option B) → reverse (rest ++ option_to_list policy) ≡ option_to_list policy ++ reverse rest
reverse-push rest None = ap reverse (append-nil rest)
reverse-push rest (Some b) = reverse-append rest (b ∷ [])

pub made : {X B : Type 0} (standing : X → Standing) (fate : B → Fate) (fates : ℕ → Fate) (ws new : List X) (w : X) (left rest : List B) (policy : Option B) (start : Start) → new ≡ ws ++ w ∷ []
    → (standing w).log ≡ new_log start → (standing w).fate ≡ picks_of fate policy → left ≡ rest ++ option_to_list policy → (policy ≡ None → rest ≡ [])
    → AreFated fates 0 (map standing ws) (map fate (reverse left)) → AreFated fates 0 (map standing new) (map fate (reverse rest))
made standing fate fates ws new w left rest policy start grew begun picks popped none are =
    let turned : reverse left ≡ option_to_list policy ++ reverse rest = ap reverse popped ∙ reverse-push rest policy in
    subst (λ ss. AreFated fates 0 ss (map fate (reverse rest))) (sym (ap (map standing) grew ∙ map-push standing ws w))
    (fated_made fate fates 0 (map standing ws) (standing w) start policy (reverse rest) begun picks (λ e. ap reverse (none e))
    (subst (λ bs. AreFated fates 0 (map standing ws) (map fate bs)) turned are))

-- before the first world
pub none_made : {X B : Type 0} (standing : X → Standing) (fate : B → Fate) (fates : ℕ → Fate) (ws : List X) (policies left : List B) → ws ≡ [] → left ≡ reverse policies
    → AreLeft fates 0 (map fate policies) → AreFated fates 0 (map standing ws) (map fate (reverse left))
none_made standing fate fates [] policies left none turned are = subst (λ bs. AreLeft fates 0 (map fate bs)) (sym (ap reverse turned ∙ reverse-reverse policies)) are
none_made standing fate fates (w ∷ ws) policies left none turned are = absurd cc

-- the worlds that were lent as a slice are all of them
pub whole_again : {X : Type 0} (n : ℕ) (new rest : List X) → n ≡ length new → take n (new ++ rest) ≡ new
whole_again zero [] [] e = refl
whole_again zero [] (x ∷ rest) e = refl
whole_again zero (y ∷ new) rest e = absurd (omega arith)
whole_again (suc n) [] rest e = absurd (omega arith)
whole_again (suc n) (y ∷ new) rest e = ap (λ xs. y ∷ xs) (whole_again n new rest (omega arith))

pub lent_fated : {X : Type 0} (standing : X → Standing) (fates : ℕ → Fate) (left : List Fate) (items old new : List X) (n : ℕ) → old ≡ items → n ≡ length new
    → (AreFated fates 0 (map standing old) left → AreFated fates 0 (map standing new) left) → AreFated fates 0 (map standing items) left
    → AreFated fates 0 (map standing (take n (new ++ drop (length new) items))) left
lent_fated standing fates left items old new n is all keeps are =
    subst (λ ws. AreFated fates 0 (map standing ws) left) (sym (whole_again n new (drop (length new) items) all)) (keeps (subst (λ ws. AreFated fates 0 (map standing ws) left) (sym is) are))
