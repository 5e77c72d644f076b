-- Lemmas on how often a list of operations has a number, and on members.
use Rattle.std.specs.List.{AllByRecursion}
use Rattle.std.specs.Prelude.{filter, count_by}
use Rattle.std.proofs.Common.{◌≡◌, ℕ, ◌+◌, ◌≤◌, ◌==◌, ◌||◌, inl, inr, Bool, true, false, nat_lt, cond, if◌then◌else◌, Option, Some, List, [], ◌∷◌, ◌++◌, refl, sym, ◌∙◌, ap, subst, arith}
use Rattle.std.proofs.lemmas.Bool.Decides.{nat_tests}
use Rattle.std.proofs.lemmas.List.Sums.{sum_by-cons}
use Rattle.ccr_op.specs.Operation.{Operation}
use Rattle.ccr_model.specs.Operations.{has_number, op_at}
use Rattle.ccr_model.specs.Answers.{IsIn}
use Rattle.ccr_law_base.proofs.Cases.{on_if}
use Rattle.ccr_law_base.proofs.Lists.{some_equal, All-in}
use Rattle.ccr_law_stores.specs.TrueStores.{one, times}

pub times-append : (n : ℕ) (xs ys : List Operation) → times n (xs ++ ys) ≡ times n xs + times n ys
times-append n [] ys = omega arith
times-append n (x ∷ xs) ys = let rest : times n (xs ++ ys) ≡ times n xs + times n ys = times-append n xs ys in omega arith

pub has-times : (xs : List Operation) (n : ℕ) → has_number xs n ≡ nat_lt 0 (times n xs)
has-times [] n = refl
has-times (x ∷ xs) n =
    (elim (x.seq == n) as (λ b. (b || has_number xs n) ≡ nat_lt 0 (one b + times n xs)) [
      | true ↦ grind (arith, nat_tests)
      | false ↦ has-times xs n ∙ ap (nat_lt 0) (omega arith)
    ])

-- two lists that have each number as often have the same numbers
pub has-same : (xs ys : List Operation) (n : ℕ) → times n xs ≡ times n ys → has_number xs n ≡ has_number ys n
has-same xs ys n same = has-times xs n ∙ (ap (nat_lt 0) same ∙ sym (has-times ys n))

pub times_none : (xs : List Operation) (n : ℕ) → has_number xs n ≡ false → times n xs ≡ 0
times_none xs n out = let none : nat_lt 0 (times n xs) ≡ false = sym (has-times xs n) ∙ out in grind (arith, nat_tests)

pub times_some : (xs : List Operation) (n : ℕ) → has_number xs n ≡ true → 1 ≤ times n xs
times_some xs n there = let some : nat_lt 0 (times n xs) ≡ true = sym (has-times xs n) ∙ there in grind (arith, nat_tests)

pub has_by_times : (xs : List Operation) (n : ℕ) → 1 ≤ times n xs → has_number xs n ≡ true
has_by_times xs n some = has-times xs n ∙ grind (arith, nat_tests)

pub none_by_times : (xs : List Operation) (n : ℕ) → times n xs ≡ 0 → has_number xs n ≡ false
none_by_times xs n none = has-times xs n ∙ grind (arith, nat_tests)

-- ---- filters by number

-- a test of the number keeps all of a number or none
pub times-filter : (test : ℕ → Bool) (n : ℕ) (xs : List Operation) → times n (filter (λ op. test op.seq) xs) ≡ (if test n then times n xs else 0)
times-filter test n [] = if-none (test n)
  where
    if-none : (b : Bool) → ◌≡◌ {A = ℕ} 0 (if b then 0 else 0)
    if-none true = refl
    if-none false = refl
times-filter test n (x ∷ xs) =
    let rest : times n (filter (λ op. test op.seq) xs) ≡ (if test n then times n xs else 0) = times-filter test n xs in
    on_if (λ (ys : List Operation). times n ys ≡ (if test n then one (x.seq == n) + times n xs else 0)) (test x.seq)
    (x ∷ filter (λ op. test op.seq) xs) (filter (λ op. test op.seq) xs)
    (λ is. kept (times n (filter (λ op. test op.seq) xs)) (x.seq == n) (test n) (own true is) rest)
    (λ isnt. left (times n (filter (λ op. test op.seq) xs)) (x.seq == n) (test n) (own false isnt) rest)
  where
    own : (b : Bool) → test x.seq ≡ b → (x.seq == n) ≡ true → test n ≡ b
    own b at is = let e : x.seq ≡ n = grind (arith, nat_tests) in subst (λ m. test m ≡ b) e at

    kept : (k : ℕ) (b t : Bool) → (b ≡ true → t ≡ true) → k ≡ (if t then times n xs else 0) → one b + k ≡ (if t then one b + times n xs else 0)
    kept k b true same rest = ap (λ j. one b + j) rest
    kept k true false same rest = let never : false ≡ true = same refl in cc
    kept k false false same rest = let none : k ≡ 0 = rest in omega arith

    left : (k : ℕ) (b t : Bool) → (b ≡ true → t ≡ false) → k ≡ (if t then times n xs else 0) → k ≡ (if t then one b + times n xs else 0)
    left k b false same rest = rest
    left k true true same rest = let never : true ≡ false = same refl in cc
    left k false true same rest = let all : k ≡ times n xs = rest in omega arith

pub count_is : (n : ℕ) (xs : List Operation) → count_by (λ op. op.seq == n) xs ≡ times n xs
count_is n [] = refl
count_is n (x ∷ xs) =
    sum_by-cons {X = Operation} (λ op. cond (op.seq == n) 1 0) x xs ∙ (ap (λ k. cond (x.seq == n) 1 0 + k) (count_is n xs) ∙ ap (λ k. k + times n xs) (same (x.seq == n)))
  where
    same : (b : Bool) → cond b 1 0 ≡ one b
    same true = refl
    same false = refl

-- ---- members

pub in-append_front : {X : Type 0} (xs ys : List X) (x : X) → IsIn xs x → IsIn (xs ++ ys) x
in-append_front [] ys x there = absurd there
in-append_front (y ∷ xs) ys x (inl e) = inl e
in-append_front (y ∷ xs) ys x (inr there) = inr (in-append_front xs ys x there)

pub in-find : (n : ℕ) (xs : List Operation) (op : Operation) → op_at n xs ≡ Some op → IsIn xs op
in-find n [] op at = cc
in-find n (x ∷ xs) op at =
    on_if (λ (o : Option Operation). o ≡ Some op → IsIn (x ∷ xs) op) (x.seq == n) (Some x) (op_at n xs)
    (λ is e. inl (some_equal x op e)) (λ isnt e. inr (in-find n xs op e)) at

pub has-in : (xs : List Operation) (op : Operation) → IsIn xs op → has_number xs op.seq ≡ true
has-in [] op there = absurd there
has-in (x ∷ xs) op (inl e) = let is : (x.seq == op.seq) ≡ true = (let same : x.seq ≡ op.seq = ap (λ (y : Operation). y.seq) e in grind (arith, nat_tests)) in rw is refl
has-in (x ∷ xs) op (inr there) = let rest : has_number xs op.seq ≡ true = has-in xs op there in grind (arith, nat_tests)

-- the operation of a number that is there
pub found_at : (xs : List Operation) (n : ℕ) → has_number xs n ≡ true → (op : Operation) × (op_at n xs ≡ Some op) × (op.seq ≡ n)
found_at [] n there = cc
found_at (x ∷ xs) n there =
    (elim (x.seq == n) as (λ b. (x.seq == n) ≡ b → (b || has_number xs n) ≡ true → (op : Operation) × ((if b then Some x else op_at n xs) ≡ Some op) × (op.seq ≡ n)) [
      | true ↦ λ is all. (x, refl, grind (arith, nat_tests))
      | false ↦ λ isnt all. found_at xs n all
    ]) refl there

-- where all of the list are told by their numbers, the one that is told of a number there is in the list
pub in-given : (ops : ℕ → Option Operation) (xs : List Operation) (op : Operation) → AllByRecursion (λ (x : Operation). ops x.seq ≡ Some x) xs
    → ops op.seq ≡ Some op → has_number xs op.seq ≡ true → IsIn xs op
in-given ops xs op all given there =
    let at : (x : Operation) × (op_at op.seq xs ≡ Some x) × (x.seq ≡ op.seq) = found_at xs op.seq there in
    let own : ops at.0.seq ≡ Some at.0 = All-in (λ (x : Operation). ops x.seq ≡ Some x) xs at.0 all (in-find op.seq xs at.0 at.1) in
    let same : at.0 ≡ op = some_equal at.0 op (sym own ∙ (ap ops at.2 ∙ given)) in
    subst (IsIn xs) same (in-find op.seq xs at.0 at.1)

-- the operation that is told of a number that is there is in the list, under its number
pub given-in : (ops : ℕ → Option Operation) (xs : List Operation) (n : ℕ) (op : Operation) → AllByRecursion (λ (x : Operation). ops x.seq ≡ Some x) xs
    → ops n ≡ Some op → has_number xs n ≡ true → IsIn xs op × (op.seq ≡ n)
given-in ops xs n op all given there =
    let at : (x : Operation) × (op_at n xs ≡ Some x) × (x.seq ≡ n) = found_at xs n there in
    let own : ops at.0.seq ≡ Some at.0 = All-in (λ (x : Operation). ops x.seq ≡ Some x) xs at.0 all (in-find n xs at.0 at.1) in
    let same : at.0 ≡ op = some_equal at.0 op (sym own ∙ (ap ops at.2 ∙ given)) in
    (subst (IsIn xs) same (in-find n xs at.0 at.1), subst (λ (x : Operation). x.seq ≡ n) same at.2)
