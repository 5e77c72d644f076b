-- How many of a list pass a test, over its changes.
use Rattle.std.proofs.Common.{◌≡◌, ℕ, ◌<◌, ◌≤◌, ◌+◌, zero, suc, Bool, true, false, cond, if◌then◌else◌, List, [], ◌∷◌, ◌++◌, length, get_or, set, length-append, filter, find, Some, None, refl, sym, ◌∙◌, ap, arith}
use Rattle.std.specs.List.{position_from, remove, list_any}
use Rattle.std.proofs.lemmas.Bool.{lt-ltb}
use Rattle.std.proofs.lemmas.List.{append-nil}
use Rattle.std.specs.Prelude.{nat_lt, ◌||◌}

abbrev pub one_if : Bool → ℕ
one_if b = if b then 1 else 0

pub none_if : (b : Bool) → one_if b ≡ 0 → b ≡ false
none_if true none = absurd (cc)
none_if false none = refl

pub weaker : (b c : Bool) → (b ≡ true → c ≡ true) → one_if b ≤ one_if c
weaker true c step = let one : one_if c ≡ 1 = ap one_if (step refl) in omega arith
weaker false c step = omega arith

pub count-more : {X : Type 0} (p : X → Bool) (x : X) (xs : List X) → length (filter p (x ∷ xs)) ≡ one_if (p x) + length (filter p xs)
count-more p x xs = elim (p x) as (λ b. length (if b then x ∷ filter p xs else filter p xs) ≡ one_if b + length (filter p xs)) [ true ↦ omega arith | false ↦ omega arith ]

pub count-push : {X : Type 0} (p : X → Bool) (y : X) (xs : List X) → length (filter p (xs ++ y ∷ [])) ≡ length (filter p xs) + one_if (p y)
count-push p y [] = let e = count-more p y [] in omega (arith, e)
count-push p y (x ∷ xs) =
    let rest = count-push p y xs in
    let old = count-more p x xs in
    let new = count-more p x (xs ++ y ∷ []) in
    omega (arith, rest, old, new)

pub count-set : {X : Type 0} (p : X → Bool) (y d : X) (xs : List X) (i : ℕ) → i < length xs → length (filter p (set xs i y)) + one_if (p (get_or xs i d)) ≡ length (filter p xs) + one_if (p y)
count-set p y d [] i within = absurd (omega arith)
count-set p y d (x ∷ xs) zero within = omega (arith, count-more p y xs, count-more p x xs)
count-set p y d (x ∷ xs) (suc i) within = omega (arith, count-set p y d xs i (omega arith), count-more p x xs, count-more p x (set xs i y))

pub count-remove : {X : Type 0} (p : X → Bool) (d : X) (xs : List X) (i : ℕ) → i < length xs → length (filter p (remove xs i)) + one_if (p (get_or xs i d)) ≡ length (filter p xs)
count-remove p d [] i within = absurd (omega arith)
count-remove p d (x ∷ xs) zero within = omega (arith, count-more p x xs)
count-remove p d (x ∷ xs) (suc i) within = omega (arith, count-remove p d xs i (omega arith), count-more p x xs, count-more p x (remove xs i))

-- what passes at a place counts
pub count-some : {X : Type 0} (p : X → Bool) (d : X) (xs : List X) (i : ℕ) → i < length xs → p (get_or xs i d) ≡ true → 1 ≤ length (filter p xs)
count-some p d [] i within is = absurd (omega arith)
count-some p d (x ∷ xs) zero within is = let one : one_if (p x) ≡ 1 = ap one_if is in omega (arith, count-more p x xs)
count-some p d (x ∷ xs) (suc i) within is = omega (arith, count-some p d xs i (omega arith) is, count-more p x xs)

-- the only one that passes is the first one
pub position-only : {X : Type 0} (p : X → Bool) (d : X) (k : ℕ) (xs : List X) (i : ℕ) → i < length xs → p (get_or xs i d) ≡ true → length (filter p xs) ≤ 1 → position_from p k xs ≡ Some (k + i)
position-only p d k [] i within is few = absurd (omega arith)
position-only p d k (x ∷ xs) zero within is few =
    let e : k + 0 ≡ k = omega arith in
    ap (λ (b : Bool). cond b (Some k) (position_from p (k + 1) xs)) is ∙ ap (λ (n : ℕ). Some n) (sym e)
position-only p d k (x ∷ xs) (suc i) within is few =
    let e : k + 1 + i ≡ k + suc i = omega arith in
    let more : length (filter p (x ∷ xs)) ≡ one_if (p x) + length (filter p xs) = count-more p x xs in
    let some : 1 ≤ length (filter p xs) = count-some p d xs i (omega arith) is in
    let few_left : length (filter p xs) ≤ 1 = omega arith in
    let none : one_if (p x) ≡ 0 = omega arith in
    let rest = position-only p d (k + 1) xs i (omega arith) is few_left in
    ap (λ (b : Bool). cond b (Some k) (position_from p (k + 1) xs)) (none_if (p x) none) ∙ (rest ∙ ap (λ (n : ℕ). Some n) e)

pub find-only : {X : Type 0} (p : X → Bool) (d : X) (xs : List X) (i : ℕ) → i < length xs → p (get_or xs i d) ≡ true → length (filter p xs) ≤ 1 → find p xs ≡ Some (get_or xs i d)
find-only p d [] i within is few = absurd (omega arith)
find-only p d (x ∷ xs) zero within is few = ap (λ (b : Bool). cond b (Some x) (find p xs)) is
find-only p d (x ∷ xs) (suc i) within is few =
    let more : length (filter p (x ∷ xs)) ≡ one_if (p x) + length (filter p xs) = count-more p x xs in
    let some : 1 ≤ length (filter p xs) = count-some p d xs i (omega arith) is in
    let few_left : length (filter p xs) ≤ 1 = omega arith in
    let none : one_if (p x) ≡ 0 = omega arith in
    let rest = find-only p d xs i (omega arith) is few_left in
    ap (λ (b : Bool). cond b (Some x) (find p xs)) (none_if (p x) none) ∙ rest

pub find-nothing : {X : Type 0} (p : X → Bool) (xs : List X) → length (filter p xs) ≡ 0 → find p xs ≡ None
find-nothing p [] none = refl
find-nothing p (x ∷ xs) none =
    let more : length (filter p (x ∷ xs)) ≡ one_if (p x) + length (filter p xs) = count-more p x xs in
    let zero_if : one_if (p x) ≡ 0 = omega arith in
    let rest : length (filter p xs) ≡ 0 = omega arith in
    ap (λ (b : Bool). cond b (Some x) (find p xs)) (none_if (p x) zero_if) ∙ find-nothing p xs rest

pub any-counted : {X : Type 0} (p : X → Bool) (xs : List X) → list_any p xs ≡ nat_lt 0 (length (filter p xs))
any-counted p [] = refl
any-counted p (x ∷ xs) =
    elim (p x) as (λ b. (b || list_any p xs) ≡ nat_lt 0 (length (if b then x ∷ filter p xs else filter p xs))) [
      | true ↦ sym (lt-ltb 0 (suc (length (filter p xs))) (omega arith))
      | false ↦ any-counted p xs
    ]

pub none-at-all : {X : Type 0} (p r : X → Bool) → ((x : X) → r x ≡ true → p x ≡ true) → (xs : List X) → length (filter r xs) ≤ length (filter p xs)
none-at-all p r step [] = omega arith
none-at-all p r step (x ∷ xs) =
    let rest : length (filter r xs) ≤ length (filter p xs) = none-at-all p r step xs in
    let mine : length (filter r (x ∷ xs)) ≡ one_if (r x) + length (filter r xs) = count-more r x xs in
    let other : length (filter p (x ∷ xs)) ≡ one_if (p x) + length (filter p xs) = count-more p x xs in
    let le : one_if (r x) ≤ one_if (p x) = weaker (r x) (p x) (step x) in
    omega arith

-- of the only one that passes a test, a narrower test tells whether any passes it
pub count-only : {X : Type 0} (p r : X → Bool) → ((x : X) → r x ≡ true → p x ≡ true) → (d : X) (xs : List X) (i : ℕ) → i < length xs → p (get_or xs i d) ≡ true → length (filter p xs) ≤ 1
    → length (filter r xs) ≡ one_if (r (get_or xs i d))
count-only p r step d [] i within is few = absurd (omega arith)
count-only p r step d (x ∷ xs) zero within is few =
    let mine : length (filter r (x ∷ xs)) ≡ one_if (r x) + length (filter r xs) = count-more r x xs in
    let other : length (filter p (x ∷ xs)) ≡ one_if (p x) + length (filter p xs) = count-more p x xs in
    let one : one_if (p x) ≡ 1 = ap one_if is in
    let le : length (filter r xs) ≤ length (filter p xs) = none-at-all p r step xs in
    omega arith
count-only p r step d (x ∷ xs) (suc i) within is few =
    let mine : length (filter r (x ∷ xs)) ≡ one_if (r x) + length (filter r xs) = count-more r x xs in
    let other : length (filter p (x ∷ xs)) ≡ one_if (p x) + length (filter p xs) = count-more p x xs in
    let some : 1 ≤ length (filter p xs) = count-some p d xs i (omega arith) is in
    let few_left : length (filter p xs) ≤ 1 = omega arith in
    let rest : length (filter r xs) ≡ one_if (r (get_or xs i d)) = count-only p r step d xs i (omega arith) is few_left in
    let le : one_if (r x) ≤ one_if (p x) = weaker (r x) (p x) (step x) in
    omega arith

-- a front as long as the whole is the whole
pub front-whole : {X : Type 0} (xs ys zs : List X) → xs ++ ys ≡ zs → length xs ≡ length zs → xs ≡ zs
front-whole {X = X} xs ys zs joined long =
    let sum : length (xs ++ ys) ≡ length xs + length ys = length-append xs ys in
    let same : length (xs ++ ys) ≡ length zs = ap length joined in
    let none : ys ≡ [] = nil-from ys (omega arith) in
    sym (append-nil xs) ∙ (ap (λ (rest : List X). xs ++ rest) (sym none) ∙ joined)
  where
    nil-from : (rest : List X) → length rest ≡ 0 → rest ≡ []
    nil-from [] none = refl
    nil-from (x ∷ rest) none = absurd (cc)
