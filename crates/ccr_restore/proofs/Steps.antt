-- What is left of a list.
use Rattle.std.proofs.Common.{◌≡◌, ℕ, zero, suc, ◌+◌, ◌-◌, ◌<◌, ◌≤◌, Bool, true, false, List, [], ◌∷◌, ◌++◌, length, take, drop, get_or, refl, sym, ◌∙◌, ap, arith}
use Rattle.std.proofs.lemmas.List.{at_drop_more, length-drop}

pub drop_none : {X : Type 0} (xs : List X) → drop zero xs ≡ xs
drop_none [] = refl
drop_none (x ∷ xs) = refl

-- the head and the tail of what is left
pub drop_tail : {X : Type 0} (xs : List X) (n : ℕ) (x : X) (rest : List X) → drop n xs ≡ x ∷ rest → drop (n + 1) xs ≡ rest
drop_tail [] zero x rest is = cc
drop_tail [] (suc n) x rest is = cc
drop_tail (y ∷ ys) zero x rest is = drop_one ∙ tail_is
  where
    drop_one : drop (zero + 1) (y ∷ ys) ≡ ys
    drop_one = drop_none ys

    tail_is : ys ≡ rest
    tail_is = cc
drop_tail (y ∷ ys) (suc n) x rest is = let one : suc n + 1 ≡ suc (n + 1) = omega arith in ap (λ (k : ℕ). drop k (y ∷ ys)) one ∙ drop_tail ys n x rest is

pub drop_within : {X : Type 0} (xs : List X) (n : ℕ) (x : X) (rest : List X) → drop n xs ≡ x ∷ rest → n < length xs
drop_within xs n x rest is =
    let long : length xs - n ≡ suc (length rest) = sym (length-drop n xs) ∙ ap length is in
    omega arith

pub drop_past : {X : Type 0} (xs : List X) (n : ℕ) → drop n xs ≡ [] → length xs ≤ n
drop_past xs n is =
    let none : length xs - n ≡ 0 = sym (length-drop n xs) ∙ ap length is in
    omega arith
