-- The batch that is cut from a buffer.
use Rattle.std.specs.Prelude.{nat_lt, ◌==◌}
use Rattle.std.proofs.Common.{◌≡◌, inl, inr, ℕ, ◌-◌, ◌≤◌, true, false, ◌||◌, List, [], ◌∷◌, ◌++◌, length, take, drop, refl, ap, arith}
use Rattle.std.proofs.lemmas.Bool.{ltb-false, or_parts}
use Rattle.std.proofs.lemmas.Bool.Decides.{nat_tests}
use Rattle.ccr_op.specs.Operation.{Operation}
use Rattle.ccr_model.specs.Operations.{is_empty, size_of, front_within, cut_of}
use Rattle.ccr_model.specs.Tasks.{bytes_of}
use Rattle.ccr_model.specs.TaskFacts.{IsBoundedBatch}
use Rattle.ccr_law_base.proofs.Cases.{on_if}
use Rattle.ccr_law_base.proofs.Lists.{some_length}

front-splits : (max_ops max_bytes : ℕ) (ops : List Operation)
    → front_within max_ops max_bytes ops ++ drop (length (front_within max_ops max_bytes ops)) ops ≡ ops
front-splits max_ops max_bytes [] = refl
front-splits max_ops max_bytes (op ∷ ops) =
    on_if (λ (front : List Operation). front ++ drop (length front) (op ∷ ops) ≡ op ∷ ops) ((max_ops == 0) || nat_lt max_bytes (size_of op)) []
    (op ∷ front_within (max_ops - 1) (max_bytes - size_of op) ops)
    (λ is. refl) (λ isnt. ap (λ (xs : List Operation). op ∷ xs) (front-splits (max_ops - 1) (max_bytes - size_of op) ops))

one-splits : (ops : List Operation) → take 1 ops ++ drop (length (take 1 ops)) ops ≡ ops
one-splits [] = refl
one-splits (op ∷ ops) = refl

-- the batch and what is left are the buffer
pub cut-splits : (max_ops max_bytes : ℕ) (ops : List Operation) → cut_of max_ops max_bytes ops ++ drop (length (cut_of max_ops max_bytes ops)) ops ≡ ops
cut-splits max_ops max_bytes ops =
    let front : List Operation = front_within max_ops max_bytes ops in
    on_if (λ (cut : List Operation). cut ++ drop (length cut) ops ≡ ops) (is_empty front) (take 1 ops) front
    (λ is. one-splits ops) (λ isnt. front-splits max_ops max_bytes ops)

front-within : (max_ops max_bytes : ℕ) (ops : List Operation)
    → (length (front_within max_ops max_bytes ops) ≤ max_ops) × (bytes_of (front_within max_ops max_bytes ops) ≤ max_bytes)
front-within max_ops max_bytes [] = (omega arith, omega arith)
front-within max_ops max_bytes (op ∷ ops) =
    let rest : List Operation = front_within (max_ops - 1) (max_bytes - size_of op) ops in
    let within : (length rest ≤ max_ops - 1) × (bytes_of rest ≤ max_bytes - size_of op) = front-within (max_ops - 1) (max_bytes - size_of op) ops in
    let count : length rest ≤ max_ops - 1 = within.0 in
    let bytes : bytes_of rest ≤ max_bytes - size_of op = within.1 in
    on_if (λ (front : List Operation). (length front ≤ max_ops) × (bytes_of front ≤ max_bytes)) ((max_ops == 0) || nat_lt max_bytes (size_of op)) [] (op ∷ rest)
    (λ is. (omega arith, omega arith))
    (λ isnt.
    let parts = or_parts (max_ops == 0) (nat_lt max_bytes (size_of op)) isnt in
    let fits : size_of op ≤ max_bytes = ltb-false _ _ parts.1 in
    let none : (max_ops == 0) ≡ false = parts.0 in
    let some : 1 ≤ max_ops = grind (arith, nat_tests) in
    (omega arith, omega arith))

pub cut-bounded : (max_ops max_bytes : ℕ) (ops : List Operation) → 1 ≤ max_ops → IsBoundedBatch max_ops max_bytes (cut_of max_ops max_bytes ops)
cut-bounded max_ops max_bytes [] some = record { number = omega arith; size = inl (omega arith) }
cut-bounded max_ops max_bytes (op ∷ ops) some =
    let front : List Operation = front_within max_ops max_bytes (op ∷ ops) in
    let within = front-within max_ops max_bytes (op ∷ ops) in
    on_if (λ (cut : List Operation). IsBoundedBatch max_ops max_bytes cut) (is_empty front) (op ∷ []) front
    (λ is. record { number = some; size = inr refl }) (λ isnt. record { number = within.0; size = inl within.1 })

pub cut-some : (max_ops max_bytes : ℕ) (ops : List Operation) → is_empty ops ≡ false → 1 ≤ length (cut_of max_ops max_bytes ops)
cut-some max_ops max_bytes [] some = absurd (cc)
cut-some max_ops max_bytes (op ∷ ops) some =
    let front : List Operation = front_within max_ops max_bytes (op ∷ ops) in
    on_if (λ (cut : List Operation). 1 ≤ length cut) (is_empty front) (op ∷ []) front (λ is. omega arith) (λ isnt. some_length front isnt)

pub none-of : {X : Type 0} (xs : List X) → is_empty xs ≡ true → xs ≡ []
none-of [] is = refl
none-of (x ∷ xs) is = absurd (cc)
