-- A cut is the longest front within the bounds, or one operation.
use Rattle.std.specs.Prelude.{sum_by}
use Rattle.std.proofs.Common.{◌≡◌, ℕ, zero, suc, ◌+◌, ◌-◌, ◌<◌, ◌≤◌, ◌==◌, ◌||◌, inl, inr, Bool, true, false, nat_lt, if◌then◌else◌, List, [], ◌∷◌, length, take, refl, sym, ◌∙◌, ap, subst, arith}
use Rattle.std.proofs.lemmas.Bool.Decides.{nat_tests}
use Rattle.std.proofs.lemmas.List.Sums.{sum_by-cons}
use Rattle.ccr_op.specs.Operation.{Operation}
use Rattle.ccr_model.specs.Operations.{is_empty, size_of, front_within, cut_of, IsWithin, IsCut}
use Rattle.ccr_model.specs.Tasks.{bytes_of}
use Rattle.ccr_law_base.proofs.Cases.{on_if}

pub bytes_is : (ops : List Operation) → sum_by size_of ops ≡ bytes_of ops
bytes_is [] = refl
bytes_is (op ∷ ops) = sum_by-cons {X = Operation} size_of op ops ∙ ap (λ (n : ℕ). size_of op + n) (bytes_is ops)

-- no longer front than this is within the bounds
abbrev IsLongest : ℕ → ℕ → List Operation → ℕ → Type 0
IsLongest max_ops max_bytes ops size = (n : ℕ) → size < n → n ≤ length ops → length (take n ops) ≤ max_ops → bytes_of (take n ops) ≤ max_bytes → ⊥

record IsFront (max_ops max_bytes : ℕ) (ops cut : List Operation) : Type 0 where
  front : cut ≡ take (length cut) ops
  number : length cut ≤ max_ops
  bytes : bytes_of cut ≤ max_bytes
  longest : IsLongest max_ops max_bytes ops (length cut)

none-full : (max_ops max_bytes : ℕ) (op : Operation) (ops : List Operation) → ((max_ops == 0) || nat_lt max_bytes (size_of op)) ≡ true → IsLongest max_ops max_bytes (op ∷ ops) 0
none-full max_ops max_bytes op ops full zero more within few small = absurd (omega arith)
none-full max_ops max_bytes op ops full (suc n) more within few small =
    (elim (max_ops == 0) as (λ (b : Bool). (max_ops == 0) ≡ b → (b || nat_lt max_bytes (size_of op)) ≡ true → ⊥) [
      | true ↦ λ none all. let most : max_ops ≡ 0 = grind (arith, nat_tests) in absurd (omega arith)
      | false ↦ λ some large. let big : max_bytes < size_of op = grind (arith, nat_tests) in absurd (omega arith)
    ]) refl full

front-is : (max_ops max_bytes : ℕ) (ops : List Operation) → IsFront max_ops max_bytes ops (front_within max_ops max_bytes ops)
front-is max_ops max_bytes [] = record { front = refl; number = omega arith; bytes = omega arith; longest = λ n more within few small. omega arith }
front-is max_ops max_bytes (op ∷ ops) =
    on_if (IsFront max_ops max_bytes (op ∷ ops)) ((max_ops == 0) || nat_lt max_bytes (size_of op)) [] (op ∷ front_within (max_ops - 1) (max_bytes - size_of op) ops)
    (λ full. record { front = refl; number = omega arith; bytes = omega arith; longest = none-full max_ops max_bytes op ops full })
    (λ room.
    let rest : IsFront (max_ops - 1) (max_bytes - size_of op) ops (front_within (max_ops - 1) (max_bytes - size_of op) ops) = front-is (max_ops - 1) (max_bytes - size_of op) ops in
    let few : length (front_within (max_ops - 1) (max_bytes - size_of op) ops) ≤ max_ops - 1 = rest.number in
    let small : bytes_of (front_within (max_ops - 1) (max_bytes - size_of op) ops) ≤ max_bytes - size_of op = rest.bytes in
    let some : 0 < max_ops = more (max_ops == 0) (nat_lt max_bytes (size_of op)) room refl in
    let fits : size_of op ≤ max_bytes = less (max_ops == 0) (nat_lt max_bytes (size_of op)) room refl in
    record {
      front = ap (λ (xs : List Operation). op ∷ xs) rest.front;
      number = omega arith;
      bytes = omega arith;
      longest = longer (length (front_within (max_ops - 1) (max_bytes - size_of op) ops)) some fits rest.longest;
    })
  where
    more : (a b : Bool) → (a || b) ≡ false → (max_ops == 0) ≡ a → 0 < max_ops
    more true b room is = cc
    more false b room is = grind (arith, nat_tests)

    less : (a b : Bool) → (a || b) ≡ false → nat_lt max_bytes (size_of op) ≡ b → size_of op ≤ max_bytes
    less true b room is = cc
    less false true room is = cc
    less false false room is = grind (arith, nat_tests)

    longer : (size : ℕ) → 0 < max_ops → size_of op ≤ max_bytes → IsLongest (max_ops - 1) (max_bytes - size_of op) ops size → IsLongest max_ops max_bytes (op ∷ ops) (suc size)
    longer size some fits rest zero more within few small = omega arith
    longer size some fits rest (suc n) more within few small = rest n (omega arith) (omega arith) (omega arith) (omega arith)

-- a batch or a read is cut so
pub cut-is : (max_ops max_bytes : ℕ) (ops : List Operation) → IsCut max_ops max_bytes ops (cut_of max_ops max_bytes ops)
cut-is max_ops max_bytes ops = by_front (front_within max_ops max_bytes ops) (front-is max_ops max_bytes ops)
  where
    not-longer : (size : ℕ) (xs : List Operation) → IsLongest max_ops max_bytes xs size → (n : ℕ) → size < n → n ≤ length xs → ¬ IsWithin max_ops max_bytes (take n xs)
    not-longer size xs longest n more within is = longest n more within is.count (subst (λ (k : ℕ). k ≤ max_bytes) (bytes_is (take n xs)) is.bytes)

    first : (xs : List Operation) → IsLongest max_ops max_bytes xs 0 → IsCut max_ops max_bytes xs (take 1 xs)
    first [] longest = record { front = refl; bounds = inl (record { count = omega arith; bytes = omega arith }); longest = not-longer 0 [] longest; some = inr refl }
    first (x ∷ xs) longest = record {
      front = refl;
      bounds = inr refl;
      longest = λ n more within. not-longer 0 (x ∷ xs) longest n (omega arith) within;
      some = inl (omega arith);
    }

    by_front : (front : List Operation) → IsFront max_ops max_bytes ops front → IsCut max_ops max_bytes ops (if is_empty front then take 1 ops else front)
    by_front [] is = first ops is.longest
    by_front (x ∷ front) is = record {
      front = is.front;
      bounds = inl (record { count = is.number; bytes = subst (λ (k : ℕ). k ≤ max_bytes) (sym (bytes_is (x ∷ front))) is.bytes });
      longest = not-longer (length (x ∷ front)) ops is.longest;
      some = inl (omega arith);
    }
