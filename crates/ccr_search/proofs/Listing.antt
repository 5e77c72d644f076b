-- Lists that are written with commas between.
use Rattle.std.proofs.Common.{◌≡◌, ℕ, zero, suc, ◌+◌, ◌<◌, nat_lt, true, List, [], ◌∷◌, ◌++◌, length, slice_index_or, take, map, refl, ap, sym, ◌∙◌, append_assoc, arith, rules, tests}
use Rattle.std.proofs.lemmas.List.{map_more}
use Rattle.std.specs.List.{join_with_byte}
use Rattle.serde_json.specs.Written.{comma_if}

-- a piece goes after a row that is not empty
join-push : (c : ℕ) (xs : List (List ℕ)) (y : List ℕ) → 0 < length xs → join_with_byte c (xs ++ y ∷ []) ≡ join_with_byte c xs ++ (c ∷ y)
join-push c [] y some = absurd (omega arith)
join-push c (x ∷ []) y some = refl
join-push c (x ∷ z ∷ xs) y some =
    ap (λ r. x ++ (c ∷ r)) (join-push c (z ∷ xs) y (omega arith)) ∙ sym (append_assoc x (c ∷ join_with_byte c (z ∷ xs)) (c ∷ y))

-- the next piece of a row, with a comma where something stands before
pub listed_next : {X : Type 0} (f : X → List ℕ) (xs : List X) (i : ℕ) (d : X) → i < length xs
    → join_with_byte 44 (map f (take (i + 1) xs)) ≡ join_with_byte 44 (map f (take i xs)) ++ (comma_if (nat_lt 0 i) ++ f (slice_index_or xs i d))
listed_next f [] i d within = absurd (omega arith)
listed_next f (x ∷ xs) zero d within = refl
listed_next f (x ∷ xs) (suc i) d within =
    let later : nat_lt 0 (suc i) ≡ true = search (rules, tests) in
    let some : 0 < length (map f (take (suc i) (x ∷ xs))) = omega arith in
    rw later (ap (join_with_byte 44) (map_more f (x ∷ xs) (suc i) d within) ∙ join-push 44 (map f (take (suc i) (x ∷ xs))) (f (slice_index_or (x ∷ xs) (suc i) d)) some)
