-- Lemmas on lists: sums and counts, and what holds of each element.
use Rattle.std.specs.List.{filter, sum_by, count_by}
use Rattle.std.proofs.Common.{◌≡◌, ℕ, ◌+◌, ◌≤◌, ◌==◌, Bool, false, cond, List, [], ◌∷◌, ◌++◌, length, refl, ap, arith}
use Rattle.std.proofs.lemmas.List.Sums.{sum_by-cons, sum_by-append}
use Rattle.std.proofs.lemmas.Bool.Decides.{nat_tests}
use Rattle.ccr_law_base.proofs.Cases.{on_if}
use Rattle.ccr_law_base.proofs.Tests.{itself}

-- one, where it is true
abbrev pub one_if : Bool → ℕ
one_if b = cond b 1 0

pub sum-filter-le : {X : Type 0} (f : X → ℕ) (test : X → Bool) (xs : List X) → sum_by f (filter test xs) ≤ sum_by f xs
sum-filter-le f test [] = omega arith
sum-filter-le {X} f test (x ∷ xs) =
    let whole : sum_by f (x ∷ xs) ≡ f x + sum_by f xs = sum_by-cons f x xs in
    let part : sum_by f (x ∷ filter test xs) ≡ f x + sum_by f (filter test xs) = sum_by-cons f x (filter test xs) in
    let rest : sum_by f (filter test xs) ≤ sum_by f xs = sum-filter-le f test xs in
    on_if (λ (ys : List X). sum_by f ys ≤ sum_by f (x ∷ xs)) (test x) (x ∷ filter test xs) (filter test xs) (λ is. omega arith) (λ isnt. omega arith)

pub length-sum : {X : Type 0} (xs : List X) → length xs ≡ sum_by (λ x. 1) xs
length-sum [] = refl
length-sum {X} (x ∷ xs) =
    let whole : sum_by {X = X} (λ x. 1) (x ∷ xs) ≡ 1 + sum_by (λ x. 1) xs = sum_by-cons (λ x. 1) x xs in
    let rest : length xs ≡ sum_by (λ x. 1) xs = length-sum xs in
    omega arith

-- what one element adds to a count
pub count-cons : {X : Type 0} (p : X → Bool) (x : X) (xs : List X) → count_by p (x ∷ xs) ≡ one_if (p x) + count_by p xs
count-cons p x xs = sum_by-cons (λ x. one_if (p x)) x xs

pub count-append : {X : Type 0} (p : X → Bool) (xs ys : List X) → count_by p (xs ++ ys) ≡ count_by p xs + count_by p ys
count-append p xs ys = sum_by-append (λ x. one_if (p x)) xs ys

pub count-one : {X : Type 0} (p : X → Bool) (x : X) → count_by p (x ∷ []) ≡ one_if (p x)
count-one p x = let whole : count_by p (x ∷ []) ≡ one_if (p x) + count_by p [] = count-cons p x [] in omega arith

-- ---- numbers that stand once

-- no two of them have a number in common
abbrev pub AreApart : {X : Type 0} → (X → ℕ) → List X → Type 0
AreApart number xs = (k : ℕ) → count_by (λ x. number x == k) xs ≤ 1

pub apart-rest : {X : Type 0} (number : X → ℕ) (x : X) (xs : List X) → AreApart number (x ∷ xs) → AreApart number xs
apart-rest {X} number x xs apart = λ k.
    let all : count_by {X = X} (λ y. number y == k) (x ∷ xs) ≡ one_if (number x == k) + count_by {X = X} (λ y. number y == k) xs = count-cons {X = X} (λ y. number y == k) x xs in
    let most : count_by {X = X} (λ y. number y == k) (x ∷ xs) ≤ 1 = apart k in
    omega arith

-- one that is there counts for its number
pub count-among : {X : Type 0} (number : X → ℕ) (before after : List X) (x : X) → 1 ≤ count_by (λ y. number y == number x) (before ++ x ∷ after)
count-among {X} number before after x =
    let split : count_by {X = X} (λ y. number y == number x) (before ++ x ∷ after) ≡ count_by {X = X} (λ y. number y == number x) before + count_by {X = X} (λ y. number y == number x) (x ∷ after) = count-append {X = X} (λ y. number y == number x) before (x ∷ after) in
    let here : count_by {X = X} (λ y. number y == number x) (x ∷ after) ≡ one_if (number x == number x) + count_by {X = X} (λ y. number y == number x) after = count-cons {X = X} (λ y. number y == number x) x after in
    let one : one_if (number x == number x) ≡ 1 = ap one_if (itself (number x)) in
    omega arith

-- so one before them has another number
pub apart-other : {X : Type 0} (number : X → ℕ) (x y : X) (before after : List X) → AreApart number (x ∷ before ++ y ∷ after) → (number x == number y) ≡ false
apart-other {X} number x y before after apart =
    let all : count_by {X = X} (λ z. number z == number y) (x ∷ before ++ y ∷ after) ≡ one_if (number x == number y) + count_by {X = X} (λ z. number z == number y) (before ++ y ∷ after) = count-cons {X = X} (λ z. number z == number y) x (before ++ y ∷ after) in
    let most : count_by {X = X} (λ z. number z == number y) (x ∷ before ++ y ∷ after) ≤ 1 = apart (number y) in
    let there : 1 ≤ count_by {X = X} (λ z. number z == number y) (before ++ y ∷ after) = count-among number before after y in
    let none : one_if (number x == number y) ≡ 0 = omega arith in
    grind (arith, nat_tests)
