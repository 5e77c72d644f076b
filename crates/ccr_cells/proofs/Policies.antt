-- A world more takes the next of the policies that are left.
use Rattle.std.specs.Prelude.{Option, Some, None, option_to_list}
use Rattle.std.proofs.Common.{◌≡◌, ℕ, ◌+◌, List, [], ◌∷◌, ◌++◌, map, reverse, refl, ap, sym, subst, ◌∙◌, arith}
use Rattle.std.proofs.lemmas.List.{append-nil, reverse-append, reverse-reverse}
use Rattle.ccr_policy.specs.declared.PartSize.{PartSize}
use Rattle.ccr_model.specs.Policies.{picks_of}
use Rattle.ccr_worlds.specs.Fated.{Fate, AreLeft}

reverse-push : {B : Type 0} (rest : List B) (policy : Option B) → reverse (rest ++ option_to_list policy) ≡ option_to_list policy ++ reverse rest
reverse-push rest None = ap reverse (append-nil rest)
reverse-push rest (Some b) = reverse-append rest (b ∷ [])

-- the next policy picks as the one of its place, and those behind it are left for the places behind
next_at : {B : Type 0} (fate : B → Fate) (fates : ℕ → Fate) (n : ℕ) (policy : Option B) (rest : List B) → (policy ≡ None → rest ≡ [])
    → AreLeft fates n (map fate (option_to_list policy ++ rest)) → ((seen : List (List PartSize)) → picks_of fate policy seen ≡ fates n seen) × AreLeft fates (n + 1) (map fate rest)
next_at {B = B} fate fates n None rest none are =
    let gone : rest ≡ [] = none refl in
    let left : AreLeft fates n [] = subst (λ (bs : List B). AreLeft fates n (map fate bs)) gone are in (
      λ seen. sym (left n (omega arith) seen),
      subst (λ (bs : List B). AreLeft fates (n + 1) (map fate bs)) (sym gone) (λ m le. left m (omega arith)),
    )
next_at fate fates n (Some b) rest none are = (are.0, are.1)

pub next_left : {B : Type 0} (fate : B → Fate) (fates : ℕ → Fate) (n : ℕ) (left rest : List B) (policy : Option B) → left ≡ rest ++ option_to_list policy → (policy ≡ None → rest ≡ [])
    → AreLeft fates n (map fate (reverse left))
    → ((seen : List (List PartSize)) → picks_of fate policy seen ≡ fates n seen) × AreLeft fates (n + 1) (map fate (reverse rest))
next_left {B = B} fate fates n left rest policy popped none are =
    next_at fate fates n policy (reverse rest) (λ e. ap reverse (none e))
    (subst (λ (bs : List B). AreLeft fates n (map fate bs)) (ap reverse popped ∙ reverse-push rest policy) are)

-- before the first world
pub none_made : {B : Type 0} (fate : B → Fate) (fates : ℕ → Fate) (n : ℕ) (policies left : List B) → n ≡ 0 → left ≡ reverse policies → AreLeft fates 0 (map fate policies)
    → AreLeft fates n (map fate (reverse left))
none_made {B = B} fate fates n policies left none turned are =
    subst (λ (k : ℕ). AreLeft fates k (map fate (reverse left))) (sym none)
    (subst (λ (bs : List B). AreLeft fates 0 (map fate bs)) (sym (ap reverse turned ∙ reverse-reverse policies)) are)
