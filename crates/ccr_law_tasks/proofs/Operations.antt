-- Lemmas on lists of operations: a list with more operations, and a run of numbers.
use Rattle.std.specs.List.{filter, sum_by}
use Rattle.std.proofs.Common.{◌≡◌, ℕ, ◌+◌, ◌-◌, ◌≤◌, min, max, ◌&&◌, List, [], ◌∷◌, ◌++◌, length, refl, arith}
use Rattle.std.specs.Prelude.{nat_lt, nat_le, ◌==◌}
use Rattle.std.proofs.lemmas.Bool.Decides.{nat_tests}
use Rattle.std.proofs.lemmas.List.Sums.{sum_by-cons}
use Rattle.ccr_op.specs.Operation.{Operation}
use Rattle.ccr_wire.specs.Message.{IsRun}
use Rattle.ccr_model.specs.Operations.{size_of, with_op, with_ops}
use Rattle.ccr_model.specs.Tasks.{bytes_of, end_of_ops}
use Rattle.ccr_model.specs.TaskFacts.{times_in}
use Rattle.ccr_law_base.proofs.Cases.{on_if}
use Rattle.ccr_law_tasks.proofs.Sums.{one_if, count-cons, length-sum}

pub bytes-sum : (ops : List Operation) → bytes_of ops ≡ sum_by size_of ops
bytes-sum [] = refl
bytes-sum (op ∷ ops) =
    let whole : sum_by size_of (op ∷ ops) ≡ size_of op + sum_by size_of ops = sum_by-cons size_of op ops in
    let rest : bytes_of ops ≡ sum_by size_of ops = bytes-sum ops in
    omega arith

-- ---- more operations

pub sum-with_op : (f : Operation → ℕ) (op : Operation) (ops : List Operation) → sum_by f (with_op op ops) ≡ f op + sum_by f ops
sum-with_op f op [] = sum_by-cons f op []
sum-with_op f op (x ∷ xs) =
    let rest : sum_by f (with_op op xs) ≡ f op + sum_by f xs = sum-with_op f op xs in
    let all : sum_by f (x ∷ xs) ≡ f x + sum_by f xs = sum_by-cons f x xs in
    let first : sum_by f (op ∷ x ∷ xs) ≡ f op + sum_by f (x ∷ xs) = sum_by-cons f op (x ∷ xs) in
    let later : sum_by f (x ∷ with_op op xs) ≡ f x + sum_by f (with_op op xs) = sum_by-cons f x (with_op op xs) in
    on_if (λ (ys : List Operation). sum_by f ys ≡ f op + sum_by f (x ∷ xs)) (nat_lt op.seq x.seq) (op ∷ x ∷ xs) (x ∷ with_op op xs) (λ is. first) (λ isnt. omega arith)

pub sum-with_ops : (f : Operation → ℕ) (more ops : List Operation) → sum_by f (with_ops more ops) ≡ sum_by f more + sum_by f ops
sum-with_ops f [] ops = omega arith
sum-with_ops f (op ∷ more) ops =
    let rest : sum_by f (with_ops more (with_op op ops)) ≡ sum_by f more + sum_by f (with_op op ops) = sum-with_ops f more (with_op op ops) in
    let one : sum_by f (with_op op ops) ≡ f op + sum_by f ops = sum-with_op f op ops in
    let all : sum_by f (op ∷ more) ≡ f op + sum_by f more = sum_by-cons f op more in
    omega arith

pub times-with_ops : (n : ℕ) (more ops : List Operation) → times_in n (with_ops more ops) ≡ times_in n more + times_in n ops
times-with_ops n more ops = sum-with_ops (λ op. one_if (op.seq == n)) more ops

pub length-with_ops : (more ops : List Operation) → length (with_ops more ops) ≡ length more + length ops
length-with_ops more ops =
    let all : sum_by {X = Operation} (λ op. 1) (with_ops more ops) ≡ sum_by (λ op. 1) more + sum_by (λ op. 1) ops = sum-with_ops (λ op. 1) more ops in
    let l : length (with_ops more ops) ≡ sum_by (λ op. 1) (with_ops more ops) = length-sum (with_ops more ops) in
    let m : length more ≡ sum_by (λ op. 1) more = length-sum more in
    let o : length ops ≡ sum_by (λ op. 1) ops = length-sum ops in
    omega arith

pub bytes-with_ops : (more ops : List Operation) → bytes_of (with_ops more ops) ≡ bytes_of more + bytes_of ops
bytes-with_ops more ops =
    let all : sum_by size_of (with_ops more ops) ≡ sum_by size_of more + sum_by size_of ops = sum-with_ops size_of more ops in
    let l : bytes_of (with_ops more ops) ≡ sum_by size_of (with_ops more ops) = bytes-sum (with_ops more ops) in
    let m : bytes_of more ≡ sum_by size_of more = bytes-sum more in
    let o : bytes_of ops ≡ sum_by size_of ops = bytes-sum ops in
    omega arith

-- ---- runs

-- one, where n is among the numbers from a to below b
abbrev pub one_in : ℕ → ℕ → ℕ → ℕ
one_in a b n = one_if (nat_le a n && nat_lt n b)

-- a number stands once in a run, where it is in its range
pub run-times : (n from : ℕ) (ops : List Operation) → IsRun from ops → times_in n ops ≡ one_in from (from + length ops) n
run-times n from [] run = grind (arith, nat_tests)
run-times n from (op ∷ ops) run =
    let rest : times_in n ops ≡ one_in (from + 1) (from + 1 + length ops) n = run-times n (from + 1) ops run.1 in
    let all : times_in n (op ∷ ops) ≡ one_if (op.seq == n) + times_in n ops = count-cons (λ op. op.seq == n) op ops in
    let seq : op.seq ≡ from = run.0 in
    grind (arith, nat_tests)

-- how many operations of a run are below a number
pub run-below : (to from : ℕ) (ops : List Operation) → IsRun from ops → length (filter (λ op. nat_lt op.seq to) ops) ≡ min (length ops) (to - from)
run-below to from [] run = omega arith
run-below to from (op ∷ ops) run =
    let rest : length (filter (λ op. nat_lt op.seq to) ops) ≡ min (length ops) (to - (from + 1)) = run-below to (from + 1) ops run.1 in
    let seq : op.seq ≡ from = run.0 in
    on_if (λ (ys : List Operation). length ys ≡ min (length (op ∷ ops)) (to - from)) (nat_lt op.seq to) (op ∷ filter (λ op. nat_lt op.seq to) ops) (filter (λ op. nat_lt op.seq to) ops)
    (λ is. grind (arith, nat_tests)) (λ isnt. grind (arith, nat_tests))

run-of-none : (from : ℕ) (ops : List Operation) → length ops ≡ 0 → IsRun from ops
run-of-none from [] none = tt
run-of-none from (op ∷ ops) none = absurd (omega arith)

-- those below a number are a run
pub run-front : (to from : ℕ) (ops : List Operation) → IsRun from ops → IsRun from (filter (λ op. nat_lt op.seq to) ops)
run-front to from [] run = tt
run-front to from (op ∷ ops) run =
    let short : length (filter (λ op. nat_lt op.seq to) ops) ≡ min (length ops) (to - (from + 1)) = run-below to (from + 1) ops run.1 in
    let seq : op.seq ≡ from = run.0 in
    on_if (λ (ys : List Operation). IsRun from ys) (nat_lt op.seq to) (op ∷ filter (λ op. nat_lt op.seq to) ops) (filter (λ op. nat_lt op.seq to) ops)
    (λ is. (run.0, run-front to (from + 1) ops run.1)) (λ isnt. run-of-none from (filter (λ op. nat_lt op.seq to) ops) (grind (arith, nat_tests)))

pub run-end : (n from : ℕ) (ops : List Operation) → IsRun from ops → from ≤ n → end_of_ops ops n ≡ max n (from + length ops)
run-end n from [] run low = omega arith
run-end n from (op ∷ ops) run low =
    let seq : op.seq ≡ from = run.0 in
    let rest : end_of_ops ops (max n (op.seq + 1)) ≡ max (max n (op.seq + 1)) (from + 1 + length ops) = run-end (max n (op.seq + 1)) (from + 1) ops run.1 (omega arith) in
    omega arith

pub bytes-append : (xs ys : List Operation) → bytes_of (xs ++ ys) ≡ bytes_of xs + bytes_of ys
bytes-append [] ys = omega arith
bytes-append (x ∷ xs) ys = let rest : bytes_of (xs ++ ys) ≡ bytes_of xs + bytes_of ys = bytes-append xs ys in omega arith
