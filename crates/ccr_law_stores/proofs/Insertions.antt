-- Lists that are sorted by putting one after another in its place: whom they have, in which order they stand, and their fronts.
use Rattle.std.specs.Cmp.{IsTotalOrder}
use Rattle.std.specs.List.{AllByRecursion, fold, flat_map}
use Rattle.std.specs.Ordering.{ordering_reverse}
use Rattle.std.proofs.Common.{◌≡◌, ◌⊎◌, inl, inr, ℕ, zero, suc, ◌+◌, ◌≤◌, Bool, true, false, if◌then◌else◌, is_lt, Ordering, Less, Equal, Greater, List, [], ◌∷◌, ◌++◌, map, length, take, refl, sym, ◌∙◌, ap, arith}
use Rattle.std.proofs.lemmas.List.{take-take}
use Rattle.std.proofs.lemmas.List.Sums.{fold-append}
use Rattle.ccr_model.specs.Answers.{IsIn}
use Rattle.ccr_law_base.proofs.Cases.{on_if}
use Rattle.ccr_law_base.proofs.Lists.{All-weaker, All-map, All-append, All-take}

-- each stands so to each that follows it
abbrev pub Pairwise : {X : Type 0} → (X → X → Type 0) → List X → Type 0
Pairwise P [] = Unit {0}
Pairwise P (x ∷ xs) = AllByRecursion (P x) xs × Pairwise P xs

pub Pairwise-weaker : {X : Type 0} (P Q : X → X → Type 0) → ((x y : X) → P x y → Q x y) → (xs : List X) → Pairwise P xs → Pairwise Q xs
Pairwise-weaker P Q step [] all = tt
Pairwise-weaker P Q step (x ∷ xs) all = (All-weaker (P x) (Q x) (step x) xs all.0, Pairwise-weaker P Q step xs all.1)

pub Pairwise-map : {X Y : Type 0} (P : Y → Y → Type 0) (f : X → Y) (xs : List X) → Pairwise (λ x y. P (f x) (f y)) xs → Pairwise P (map f xs)
Pairwise-map P f [] all = tt
Pairwise-map P f (x ∷ xs) all = (All-map (P (f x)) f xs all.0, Pairwise-map P f xs all.1)

pub Pairwise-append : {X : Type 0} (P : X → X → Type 0) (xs ys : List X) → Pairwise P xs → Pairwise P ys → AllByRecursion (λ x. AllByRecursion (P x) ys) xs
    → Pairwise P (xs ++ ys)
Pairwise-append P [] ys first second across = second
Pairwise-append P (x ∷ xs) ys first second across = (All-append (P x) xs ys first.0 across.0, Pairwise-append P xs ys first.1 second across.1)

-- it stands before the first that it is less than
abbrev pub put : {X : Type 0} → (X → X → Ordering) → X → List X → List X
put R x [] = x ∷ []
put R x (y ∷ ys) = if is_lt (R x y) then x ∷ y ∷ ys else y ∷ put R x ys

-- each put in its place among those that are sorted
abbrev pub put_all : {X : Type 0} → (X → X → Ordering) → List X → List X → List X
put_all {X = X} R sorted xs = fold {A = X} {B = List X} (λ rest x. put R x rest) sorted xs

-- ---- members

in_put : {X : Type 0} (R : X → X → Ordering) (x : X) (ys : List X) (z : X) → IsIn (put R x ys) z → (x ≡ z) ⊎ IsIn ys z
in_put R x [] z at = at
in_put {X = X} R x (y ∷ ys) z at =
    on_if (λ (found : List X). IsIn found z → (x ≡ z) ⊎ IsIn (y ∷ ys) z) (is_lt (R x y)) (x ∷ y ∷ ys) (y ∷ put R x ys)
    (λ is here. here)
    (λ isnt here. elim here [ inl same ↦ inr (inl same) | inr rest ↦ past (in_put R x ys z rest) ]) at
  where
    past : ((x ≡ z) ⊎ IsIn ys z) → (x ≡ z) ⊎ IsIn (y ∷ ys) z
    past (inl same) = inl same
    past (inr rest) = inr (inr rest)

put_in : {X : Type 0} (R : X → X → Ordering) (x : X) (ys : List X) (z : X) → (x ≡ z) ⊎ IsIn ys z → IsIn (put R x ys) z
put_in R x [] z at = at
put_in {X = X} R x (y ∷ ys) z (inl same) =
    on_if (λ (found : List X). IsIn found z) (is_lt (R x y)) (x ∷ y ∷ ys) (y ∷ put R x ys) (λ is. inl same) (λ isnt. inr (put_in R x ys z (inl same)))
put_in {X = X} R x (y ∷ ys) z (inr (inl same)) =
    on_if (λ (found : List X). IsIn found z) (is_lt (R x y)) (x ∷ y ∷ ys) (y ∷ put R x ys) (λ is. inr (inl same)) (λ isnt. inl same)
put_in {X = X} R x (y ∷ ys) z (inr (inr rest)) =
    on_if (λ (found : List X). IsIn found z) (is_lt (R x y)) (x ∷ y ∷ ys) (y ∷ put R x ys)
    (λ is. inr (inr rest)) (λ isnt. inr (put_in R x ys z (inr rest)))

pub in_put_all : {X : Type 0} (R : X → X → Ordering) (xs sorted : List X) (z : X) → IsIn (put_all R sorted xs) z → IsIn sorted z ⊎ IsIn xs z
in_put_all R [] sorted z at = inl at
in_put_all R (x ∷ xs) sorted z at = first (in_put_all R xs (put R x sorted) z at)
  where
    second : ((x ≡ z) ⊎ IsIn sorted z) → IsIn sorted z ⊎ IsIn (x ∷ xs) z
    second (inl same) = inr (inl same)
    second (inr old) = inl old

    first : (IsIn (put R x sorted) z ⊎ IsIn xs z) → IsIn sorted z ⊎ IsIn (x ∷ xs) z
    first (inl now) = second (in_put R x sorted z now)
    first (inr rest) = inr (inr rest)

pub put_all_in : {X : Type 0} (R : X → X → Ordering) (xs sorted : List X) (z : X) → IsIn sorted z ⊎ IsIn xs z → IsIn (put_all R sorted xs) z
put_all_in R [] sorted z (inl at) = at
put_all_in R [] sorted z (inr at) = absurd at
put_all_in R (x ∷ xs) sorted z (inl at) = put_all_in R xs (put R x sorted) z (inl (put_in R x sorted z (inr at)))
put_all_in R (x ∷ xs) sorted z (inr (inl same)) = put_all_in R xs (put R x sorted) z (inl (put_in R x sorted z (inl same)))
put_all_in R (x ∷ xs) sorted z (inr (inr rest)) = put_all_in R xs (put R x sorted) z (inr rest)

pub length-put_all : {X : Type 0} (R : X → X → Ordering) (xs sorted : List X) → length (put_all R sorted xs) ≡ length sorted + length xs
length-put_all R [] sorted = omega arith
length-put_all R (x ∷ xs) sorted =
    let rest : length (put_all R (put R x sorted) xs) ≡ length (put R x sorted) + length xs = length-put_all R xs (put R x sorted) in
    let one : length (put R x sorted) ≡ suc (length sorted) = length-put R x sorted in
    rest ∙ ap (λ n. n + length xs) one ∙ moved (length sorted) (length xs)
  where
    length-put : {X : Type 0} (R : X → X → Ordering) (x : X) (ys : List X) → length (put R x ys) ≡ suc (length ys)
    length-put R x [] = refl
    length-put {X = X} R x (y ∷ ys) =
        on_if (λ (found : List X). length found ≡ suc (suc (length ys))) (is_lt (R x y)) (x ∷ y ∷ ys) (y ∷ put R x ys) (λ is. refl) (λ isnt. ap suc (length-put R x ys))

    moved : (a b : ℕ) → suc a + b ≡ a + suc b
    moved a b = omega arith

-- ---- what is sorted by what they are read as

map-put : {X Y : Type 0} (f : X → Y) (R : Y → Y → Ordering) (x : X) (ys : List X) → map f (put (λ a b. R (f a) (f b)) x ys) ≡ put R (f x) (map f ys)
map-put f R x [] = refl
map-put {X = X} {Y = Y} f R x (y ∷ ys) =
    elim (is_lt (R (f x) (f y))) as (λ (b : Bool).
    map f (if b then x ∷ y ∷ ys else y ∷ put (λ a b'. R (f a) (f b')) x ys) ≡ (if b then f x ∷ f y ∷ map f ys else f y ∷ put R (f x) (map f ys))) [
      | true ↦ refl
      | false ↦ ap (λ zs. f y ∷ zs) (map-put f R x ys)
    ]

pub map-put_all : {X Y : Type 0} (f : X → Y) (R : Y → Y → Ordering) (xs sorted : List X)
    → map f (put_all (λ a b. R (f a) (f b)) sorted xs) ≡ put_all R (map f sorted) (map f xs)
map-put_all f R [] sorted = refl
map-put_all f R (x ∷ xs) sorted =
    map-put_all f R xs (put (λ a b. R (f a) (f b)) x sorted) ∙ ap (λ ys. put_all R ys (map f xs)) (map-put f R x sorted)

-- ---- order

pub All-put : {X : Type 0} (P : X → Type 0) (R : X → X → Ordering) (x : X) (ys : List X) → P x → AllByRecursion P ys → AllByRecursion P (put R x ys)
All-put P R x [] now all = (now, tt)
All-put P R x (y ∷ ys) now all =
    on_if (AllByRecursion P) (is_lt (R x y)) (x ∷ y ∷ ys) (y ∷ put R x ys) (λ is. (now, all)) (λ isnt. (all.0, All-put P R x ys now all.1))

-- what is less stands before, and is less than all that stand behind one that it is less than
pub record Refines {X : Type 0} (R : X → X → Ordering) (Before : X → X → Type 0) : Type 0 where
  pub less : (x y : X) → R x y ≡ Less → Before x y
  pub past : (x y z : X) → R x y ≡ Less → Before y z → R x z ≡ Less

-- where the later one isn't less, the earlier one stands before it
abbrev pub Follows : {X : Type 0} → (X → X → Ordering) → (X → X → Type 0) → X → X → Type 0
Follows R Before x y = is_lt (R y x) ≡ false → Before x y

pub less : (o : Ordering) → is_lt o ≡ true → o ≡ Less
less Less is = refl
less Equal is = cc
less Greater is = cc

pairwise-put : {X : Type 0} (R : X → X → Ordering) (Before : X → X → Type 0) → Refines R Before → (x : X) (ys : List X)
    → AllByRecursion (λ y. Follows R Before y x) ys → Pairwise Before ys → Pairwise Before (put R x ys)
pairwise-put R Before refines x [] follows order = (tt, tt)
pairwise-put R Before refines x (y ∷ ys) follows order =
    on_if (Pairwise Before) (is_lt (R x y)) (x ∷ y ∷ ys) (y ∷ put R x ys)
    (λ is. let before : R x y ≡ Less = less (R x y) is in (
      (refines.less x y before, All-weaker (Before y) (Before x) (λ z later. refines.less x z (refines.past x y z before later)) ys order.0),
      order,
    ))
    (λ isnt. (All-put (Before y) R x ys (follows.0 isnt) order.0, pairwise-put R Before refines x ys follows.1 order.1))

-- each of these follows each of those
abbrev pub AreFollowing : {X : Type 0} → (X → X → Ordering) → (X → X → Type 0) → List X → List X → Type 0
AreFollowing R Before xs sorted = AllByRecursion (λ x. AllByRecursion (λ y. Follows R Before y x) sorted) xs

following-put : {X : Type 0} (R : X → X → Ordering) (Before : X → X → Type 0) (x : X) (xs sorted : List X)
    → AllByRecursion (Follows R Before x) xs → AreFollowing R Before xs sorted → AreFollowing R Before xs (put R x sorted)
following-put R Before x [] sorted own others = tt
following-put R Before x (z ∷ xs) sorted own others =
    (All-put (λ y. Follows R Before y z) R x sorted own.0 others.0, following-put R Before x xs sorted own.1 others.1)

pub pairwise_all : {X : Type 0} (R : X → X → Ordering) (Before : X → X → Type 0) → Refines R Before → (xs sorted : List X)
    → Pairwise (Follows R Before) xs → AreFollowing R Before xs sorted → Pairwise Before sorted → Pairwise Before (put_all R sorted xs)
pairwise_all R Before refines [] sorted pairs follows order = order
pairwise_all R Before refines (x ∷ xs) sorted pairs follows order =
    pairwise_all R Before refines xs (put R x sorted) pairs.1 (following-put R Before x xs sorted pairs.0 follows.1)
    (pairwise-put R Before refines x sorted follows.0 order)

pub none_before : {X : Type 0} (R : X → X → Ordering) (Before : X → X → Type 0) (xs : List X) → AreFollowing R Before xs []
none_before R Before [] = tt
none_before R Before (x ∷ xs) = (tt, none_before R Before xs)

-- ---- fronts

-- two lists as one, by their heads: the second one's where it is less
abbrev heads : {X : Type 0} → (X → X → Ordering) → X → (List X → List X) → List X → List X
heads R x rest [] = x ∷ rest []
heads R x rest (y ∷ ys) = if is_lt (R y x) then y ∷ heads R x rest ys else x ∷ rest (y ∷ ys)

abbrev merged : {X : Type 0} → (X → X → Ordering) → List X → List X → List X
merged R [] ys = ys
merged R (x ∷ xs) ys = heads R x (merged R xs) ys

merged-nil : {X : Type 0} (R : X → X → Ordering) (xs : List X) → merged R xs [] ≡ xs
merged-nil R [] = refl
merged-nil R (x ∷ xs) = ap (λ ys. x ∷ ys) (merged-nil R xs)

first_head : {X : Type 0} (R : X → X → Ordering) (x : X) (rest : List X → List X) (ys : List X)
    → AllByRecursion (λ y. is_lt (R y x) ≡ false) ys → heads R x rest ys ≡ x ∷ rest ys
first_head R x rest [] not_less = refl
first_head {X = X} R x rest (y ∷ ys) not_less = ap (λ (b : Bool). if b then y ∷ heads R x rest ys else x ∷ rest (y ∷ ys)) not_less.0

turned : (o back : Ordering) → o ≡ Less → back ≡ ordering_reverse o → is_lt back ≡ false
turned Less back is by = ap is_lt by
turned Equal back is by = cc
turned Greater back is by = cc

-- those behind one that is not less are not less
behind : {X : Type 0} (R : X → X → Ordering) → IsTotalOrder R → (x s y : X) → is_lt (R x s) ≡ false → R x y ≡ Less → is_lt (R y s) ≡ false
behind R total x s y isnt before =
    (elim (R y s) as (λ (o : Ordering). R y s ≡ o → is_lt o ≡ false) [
      | Less ↦ λ is. let e : R x s ≡ Less = total.trans x y s before is in absurd (cc)
      | Equal ↦ λ is. refl
      | Greater ↦ λ is. refl
    ]) refl

put_merged : {X : Type 0} (R : X → X → Ordering) → IsTotalOrder R → (x : X) (ys sorted : List X)
    → AllByRecursion (λ y. R x y ≡ Less) ys → merged R (put R x sorted) ys ≡ merged R sorted (x ∷ ys)
put_merged R total x ys [] before =
    first_head R x (merged R []) ys
    (All-weaker (λ y. R x y ≡ Less) (λ y. is_lt (R y x) ≡ false) (λ y is. turned (R x y) (R y x) is (total.antisymm y x)) ys before)
put_merged {X = X} R total x ys (s ∷ sorted) before =
    (elim (is_lt (R x s)) as (λ (b : Bool). is_lt (R x s) ≡ b
    → merged R (if b then x ∷ s ∷ sorted else s ∷ put R x sorted) ys ≡ (if b then x ∷ heads R s (merged R sorted) ys else s ∷ merged R sorted (x ∷ ys))) [
      | true ↦ λ is. first_head R x (merged R (s ∷ sorted)) ys
          (All-weaker (λ y. R x y ≡ Less) (λ y. is_lt (R y x) ≡ false) (λ y e. turned (R x y) (R y x) e (total.antisymm y x)) ys before)
      | false ↦ λ isnt. first_head R s (merged R (put R x sorted)) ys
          (All-weaker (λ y. R x y ≡ Less) (λ y. is_lt (R y s) ≡ false) (λ y e. behind R total x s y isnt e) ys before)
          ∙ ap (λ zs. s ∷ zs) (put_merged R total x ys sorted before)
    ]) refl

-- those in order, put in their places, are merged
all_merged : {X : Type 0} (R : X → X → Ordering) → IsTotalOrder R → (xs sorted : List X)
    → Pairwise (λ x y. R x y ≡ Less) xs → put_all R sorted xs ≡ merged R sorted xs
all_merged R total [] sorted order = sym (merged-nil R sorted)
all_merged R total (x ∷ xs) sorted order = all_merged R total xs (put R x sorted) order.1 ∙ put_merged R total x xs sorted order.0

heads_front : {X : Type 0} (R : X → X → Ordering) (x : X) (xs : List X) (m : ℕ)
    → ((n k : ℕ) (ys : List X) → n ≤ m → n ≤ k → take n (merged R (take m xs) (take k ys)) ≡ take n (merged R xs ys))
    → (ys : List X) (n k : ℕ) → n ≤ suc m → n ≤ k → take n (heads R x (merged R (take m xs)) (take k ys)) ≡ take n (heads R x (merged R xs) ys)
heads_front R x xs m rest ys zero k low high = refl
heads_front R x xs m rest ys (suc n) zero low high = absurd (omega arith)
heads_front R x xs m rest [] (suc n) (suc k) low high = ap (λ zs. x ∷ zs) (rest n (suc k) [] (omega arith) (omega arith))
heads_front {X = X} R x xs m rest (y ∷ ys) (suc n) (suc k) low high =
    elim (is_lt (R y x)) as (λ (b : Bool).
    take (suc n) (if b then y ∷ heads R x (merged R (take m xs)) (take k ys) else x ∷ merged R (take m xs) (y ∷ take k ys))
    ≡ take (suc n) (if b then y ∷ heads R x (merged R xs) ys else x ∷ merged R xs (y ∷ ys))) [
      | true ↦ ap (λ zs. y ∷ zs) (heads_front R x xs m rest ys n k (omega arith) (omega arith))
      | false ↦ ap (λ zs. x ∷ zs) (rest n (suc k) (y ∷ ys) (omega arith) (omega arith))
    ]

merged_front : {X : Type 0} (R : X → X → Ordering) (xs : List X) (m n k : ℕ) (ys : List X) → n ≤ m → n ≤ k
    → take n (merged R (take m xs) (take k ys)) ≡ take n (merged R xs ys)
merged_front R xs zero zero k ys low high = refl
merged_front R xs zero (suc n) k ys low high = absurd (omega arith)
merged_front R [] (suc m) n k ys low high = take-take n k ys high
merged_front R (x ∷ xs) (suc m) n k ys low high =
    heads_front R x xs m (λ n' k' ys' low' high'. merged_front R xs m n' k' ys' low' high') ys n k low high

-- fronts of what is merged come to the front of all
merged_alike : {X : Type 0} (R : X → X → Ordering) (n : ℕ) (xs xs' ys ys' : List X) → take n xs ≡ take n xs' → take n ys ≡ take n ys'
    → take n (merged R xs ys) ≡ take n (merged R xs' ys')
merged_alike R n xs xs' ys ys' first second =
    sym (merged_front R xs n n n ys (omega arith) (omega arith))
    ∙ ap (λ zs. take n (merged R zs (take n ys))) first ∙ ap (λ zs. take n (merged R (take n xs') zs)) second
    ∙ merged_front R xs' n n n ys' (omega arith) (omega arith)

pub Pairwise-take : {X : Type 0} (P : X → X → Type 0) (n : ℕ) (xs : List X) → Pairwise P xs → Pairwise P (take n xs)
Pairwise-take P zero xs all = tt
Pairwise-take P (suc n) [] all = tt
Pairwise-take P (suc n) (x ∷ xs) all = (All-take (P x) n xs all.0, Pairwise-take P n xs all.1)

-- of lists in order, sorted together, the first so many are found from the first so many of each
fronts_sorted : {X Y : Type 0} (R : X → X → Ordering) → IsTotalOrder R → (n : ℕ) (of : Y → List X) (parts : List Y)
    → AllByRecursion (λ part. Pairwise (λ x y. R x y ≡ Less) (of part)) parts → (sorted sorted' : List X) → take n sorted ≡ take n sorted'
    → take n (put_all R sorted (flat_map (λ part. take n (of part)) parts)) ≡ take n (put_all R sorted' (flat_map of parts))
fronts_sorted R total n of [] order sorted sorted' same = same
fronts_sorted {X = X} R total n of (part ∷ parts) order sorted sorted' same =
    let start : take n (put_all R sorted (take n (of part))) ≡ take n (put_all R sorted' (of part)) =
    ap (take n) (all_merged R total (take n (of part)) sorted (Pairwise-take (λ x y. R x y ≡ Less) n (of part) order.0))
    ∙ merged_alike R n sorted sorted' (take n (of part)) (of part) same (take-take n n (of part) (omega arith))
    ∙ sym (ap (take n) (all_merged R total (of part) sorted' order.0)) in
    ap (take n) (fold-append {A = X} {B = List X} (λ rest x. put R x rest) sorted (take n (of part)) (flat_map (λ p. take n (of p)) parts))
    ∙ fronts_sorted R total n of parts order.1 (put_all R sorted (take n (of part))) (put_all R sorted' (of part)) start
    ∙ sym (ap (take n) (fold-append {A = X} {B = List X} (λ rest x. put R x rest) sorted' (of part) (flat_map of parts)))

pub front_of_sorted : {X Y : Type 0} (R : X → X → Ordering) → IsTotalOrder R → (n : ℕ) (of : Y → List X) (parts : List Y)
    → AllByRecursion (λ part. Pairwise (λ x y. R x y ≡ Less) (of part)) parts
    → take n (put_all R [] (flat_map (λ part. take n (of part)) parts)) ≡ take n (put_all R [] (flat_map of parts))
front_of_sorted R total n of parts order = fronts_sorted R total n of parts order [] [] refl
