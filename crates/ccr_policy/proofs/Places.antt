-- One more place.
use Rattle.std.proofs.Common.{◌≡◌, ℕ, zero, suc, ◌+◌, List, [], ◌∷◌, ◌++◌, sym, ◌∙◌, ap, arith}
use Rattle.std.specs.List.{range_with_len}

range-more : (a n : ℕ) → range_with_len a (suc n) ≡ range_with_len a n ++ (a + n) ∷ []
range-more a zero = let e : a ≡ a + 0 = omega arith in ap (λ k. k ∷ []) e
range-more a (suc n) =
    let e : (a + 1) + n ≡ a + suc n = omega arith in
    ap (λ ks. a ∷ ks) (range-more (a + 1) n ∙ ap (λ k. range_with_len (a + 1) n ++ k ∷ []) e)

pub places_turn : (n : ℕ) (before after : List ℕ) → before ≡ range_with_len 0 n → after ≡ before ++ n ∷ [] → after ≡ range_with_len 0 (n + 1)
places_turn n before after is pushed =
    let here : n ≡ 0 + n = omega arith in
    let next : suc n ≡ n + 1 = omega arith in
    pushed ∙ (ap (λ ks. ks ++ n ∷ []) is ∙ (ap (λ k. range_with_len 0 n ++ k ∷ []) here ∙ (sym (range-more 0 n) ∙ ap (range_with_len 0) next)))
