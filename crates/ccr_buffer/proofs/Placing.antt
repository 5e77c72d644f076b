-- Entries by number and arrival are the operations in ascending number.
use Rattle.std.proofs.Common.{◌≡◌, ℕ, ◌<◌, ◌≤◌, ◌+◌, ◌-◌, ◌==◌, zero, suc, Bool, true, false, nat_lt, cond, if◌then◌else◌, List, [], ◌∷◌, ◌++◌, append_assoc, length, take, drop, min, ◌||◌, refl, sym, ◌∙◌, ap, subst, arith}
use Rattle.std.specs.List.{AllByRecursion}
use Rattle.std.specs.Ordering.{nat_cmp, ordering_then, match_ordering}
use Rattle.std.specs.declared.cmp.Ordering.{Ordering}
use Rattle.std.specs.declared.cmp.Ordering.TheVariants.{Less, Equal, Greater}
use Rattle.std.specs.BTreeMap.{insert_entry}
use Rattle.std.specs.Map.{values_of}
use Rattle.std.proofs.lemmas.List.{length-take}
use Rattle.std.proofs.lemmas.Bool.Decides.{nat_tests}
use Rattle.ccr_op.specs.Operation.{Operation}
use Rattle.ccr_model.specs.Operations.{is_empty, size_of, with_op, front_within, cut_of}
use Rattle.ccr_model.specs.Tasks.{bytes_of}
use Rattle.ccr_buffer.specs.Buffered.{IsPlaced, IsBuffered}

abbrev pub by_arrival : ℕ × ℕ → ℕ × ℕ → Ordering
by_arrival x y = ordering_then (nat_cmp x.0 y.0) (nat_cmp x.1 y.1)

ordered : (P : Bool → Bool → Type 0) (a b : ℕ) → (a < b → P true false) → (a ≡ b → P false true) → (b < a → P false false) → P (nat_lt a b) (a == b)
ordered P a b less same more =
    (elim (nat_lt a b) as (λ t. nat_lt a b ≡ t → P t (a == b)) [
      | true ↦ λ is. let lt : a < b = grind (arith, nat_tests) in let e : (a == b) ≡ false = grind (arith, nat_tests) in rw e (less lt)
      | false ↦ λ isnt.
          (elim (a == b) as (λ t. (a == b) ≡ t → P false t) [
            | true ↦ λ is. same (grind (arith, nat_tests))
            | false ↦ λ no_is. more (grind (arith, nat_tests))
          ]) refl
    ]) refl

later_arrival : (next n : ℕ) → n < next → nat_cmp next n ≡ Greater
later_arrival next n lt =
    let low : nat_lt next n ≡ false = grind (arith, nat_tests) in
    let apart : (next == n) ≡ false = grind (arith, nat_tests) in
    ap (λ b. cond b Less (cond (next == n) Equal Greater)) low ∙ ap (λ b. cond b Equal Greater) apart

pub values-insert : (next : ℕ) (op : Operation) (es : List ((ℕ × ℕ) × Operation)) → AllByRecursion (IsPlaced next) es → values_of (insert_entry by_arrival es (op.seq, next) op) ≡ with_op op (values_of es)
values-insert next op [] all = refl
values-insert next op (e ∷ es) all =
    let rest : values_of (insert_entry by_arrival es (op.seq, next) op) ≡ with_op op (values_of es) = values-insert next op es all.1 in
    let number : e.0.0 ≡ e.1.seq = all.0.number in
    let late : nat_cmp next e.0.1 ≡ Greater = later_arrival next e.0.1 all.0.arrival in
    ordered (λ lt eq. values_of (match_ordering (ordering_then (cond lt Less (cond eq Equal Greater)) (nat_cmp next e.0.1)) (((op.seq, next), op) ∷ e ∷ es) ((e.0, op) ∷ es) (e ∷ insert_entry by_arrival es (op.seq, next) op))
    ≡ with_op op (e.1 ∷ values_of es)) op.seq e.0.0
    (λ lt. let low : nat_lt op.seq e.1.seq ≡ true = grind (arith, nat_tests) in rw low refl)
    (λ same. let high : nat_lt op.seq e.1.seq ≡ false = grind (arith, nat_tests) in rw (late, high, rest) refl)
    (λ gt. let high : nat_lt op.seq e.1.seq ≡ false = grind (arith, nat_tests) in rw (high, rest) refl)

placed-later : (next : ℕ) (es : List ((ℕ × ℕ) × Operation)) → AllByRecursion (IsPlaced next) es → AllByRecursion (IsPlaced (next + 1)) es
placed-later next [] all = tt
placed-later next (e ∷ es) all = (record { number = all.0.number; arrival = let lt : e.0.1 < next = all.0.arrival in omega arith }, placed-later next es all.1)

pub placed-insert : (next : ℕ) (op : Operation) (es : List ((ℕ × ℕ) × Operation)) → AllByRecursion (IsPlaced next) es → AllByRecursion (IsPlaced (next + 1)) (insert_entry by_arrival es (op.seq, next) op)
placed-insert next op [] all = (record { number = refl; arrival = omega arith }, tt)
placed-insert next op (e ∷ es) all =
    let later : AllByRecursion (IsPlaced (next + 1)) (e ∷ es) = placed-later next (e ∷ es) all in
    let late : nat_cmp next e.0.1 ≡ Greater = later_arrival next e.0.1 all.0.arrival in
    ordered (λ lt eq. AllByRecursion (IsPlaced (next + 1)) (match_ordering (ordering_then (cond lt Less (cond eq Equal Greater)) (nat_cmp next e.0.1)) (((op.seq, next), op) ∷ e ∷ es) ((e.0, op) ∷ es) (e ∷ insert_entry by_arrival es (op.seq, next) op))) op.seq e.0.0
    (λ lt. (record { number = refl; arrival = omega arith }, later))
    (λ same. rw late (later.0, placed-insert next op es all.1))
    (λ gt. (later.0, placed-insert next op es all.1))

pub bytes-with_op : (op : Operation) (xs : List Operation) → bytes_of (with_op op xs) ≡ bytes_of xs + size_of op
bytes-with_op op [] = omega arith
bytes-with_op op (x ∷ xs) =
    let rest : bytes_of (with_op op xs) ≡ bytes_of xs + size_of op = bytes-with_op op xs in
    (elim (nat_lt op.seq x.seq) as (λ b. bytes_of (if b then op ∷ x ∷ xs else x ∷ with_op op xs) ≡ (size_of x + bytes_of xs) + size_of op) [ true ↦ omega arith | false ↦ omega arith ])

pub buffered-insert : (next bytes more : ℕ) (op : Operation) (old new : List ((ℕ × ℕ) × Operation)) → IsBuffered old next bytes → new ≡ insert_entry by_arrival old (op.seq, next) op → more ≡ bytes + size_of op
    → IsBuffered new (next + 1) more
buffered-insert next bytes more op old new buffered is grown =
    let before : bytes ≡ bytes_of (values_of old) = buffered.size in
    let after : bytes_of (with_op op (values_of old)) ≡ bytes_of (values_of old) + size_of op = bytes-with_op op (values_of old) in
    let listed : bytes_of (values_of new) ≡ bytes_of (with_op op (values_of old)) = ap (λ (es : List ((ℕ × ℕ) × Operation)). bytes_of (values_of es)) is ∙ ap bytes_of (values-insert next op old buffered.placed) in
    record {
      placed = subst (AllByRecursion (IsPlaced (next + 1))) (sym is) (placed-insert next op old buffered.placed);
      size = omega arith;
    }

-- ---- fronts

pub front-take : (max_ops max_bytes : ℕ) (ops : List Operation) → front_within max_ops max_bytes ops ≡ take (length (front_within max_ops max_bytes ops)) ops
front-take max_ops max_bytes [] = refl
front-take max_ops max_bytes (op ∷ ops) =
    (elim ((max_ops == 0) || nat_lt max_bytes (size_of op)) as (λ b. (if b then [] else op ∷ front_within (max_ops - 1) (max_bytes - size_of op) ops)
    ≡ take (length (if b then [] else op ∷ front_within (max_ops - 1) (max_bytes - size_of op) ops)) (op ∷ ops)) [
      | true ↦ refl
      | false ↦ ap (λ (xs : List Operation). op ∷ xs) (front-take (max_ops - 1) (max_bytes - size_of op) ops)
    ])

pub cut-take : (max_ops max_bytes : ℕ) (ops : List Operation) → cut_of max_ops max_bytes ops ≡ take (length (cut_of max_ops max_bytes ops)) ops
cut-take max_ops max_bytes ops = by (front_within max_ops max_bytes ops) (front-take max_ops max_bytes ops)
  where
    firsts : (xs : List Operation) → take 1 xs ≡ take (length (take 1 xs)) xs
    firsts [] = refl
    firsts (x ∷ xs) = refl

    by : (front : List Operation) → front ≡ take (length front) ops → (if is_empty front then take 1 ops else front) ≡ take (length (if is_empty front then take 1 ops else front)) ops
    by [] is = firsts ops
    by (x ∷ front) is = is

pub cut-len : (max_ops max_bytes : ℕ) (ops : List Operation) (n : ℕ) → n ≡ length (front_within max_ops max_bytes ops) → (if n == 0 then min (length ops) 1 else n) ≡ length (cut_of max_ops max_bytes ops)
cut-len max_ops max_bytes ops n is = ap (λ (k : ℕ). if k == 0 then min (length ops) 1 else k) is ∙ by (front_within max_ops max_bytes ops)
  where
    ones : (xs : List Operation) → min (length xs) 1 ≡ length (take 1 xs)
    ones [] = refl
    ones (x ∷ xs) = omega arith

    by : (front : List Operation) → (if length front == 0 then min (length ops) 1 else length front) ≡ length (if is_empty front then take 1 ops else front)
    by [] = ones ops
    by (x ∷ front) = let some : (suc (length front) == 0) ≡ false = grind (arith, nat_tests) in ap (λ (b : Bool). if b then min (length ops) 1 else suc (length front)) some

pub cut-fits : (max_ops max_bytes : ℕ) (ops : List Operation) → length (cut_of max_ops max_bytes ops) ≤ length ops
cut-fits max_ops max_bytes ops =
    let same : length (cut_of max_ops max_bytes ops) ≡ min (length (cut_of max_ops max_bytes ops)) (length ops) =
    ap length (cut-take max_ops max_bytes ops) ∙ length-take (length (cut_of max_ops max_bytes ops)) ops in
    omega arith

pub values-drop : (n : ℕ) (es : List ((ℕ × ℕ) × Operation)) → values_of (drop n es) ≡ drop n (values_of es)
values-drop zero es = refl
values-drop (suc n) [] = refl
values-drop (suc n) (e ∷ es) = values-drop n es

-- ---- one operation is taken from the front

pub pop-batch : (m j : ℕ) (batch total : List Operation) (es rest : List ((ℕ × ℕ) × Operation)) (e : (ℕ × ℕ) × Operation) → es ≡ e ∷ rest → j ≡ suc m → batch ++ take j (values_of es) ≡ total
    → (batch ++ e.1 ∷ []) ++ take m (values_of rest) ≡ total
pop-batch m j batch total es rest e is one_more before =
    append_assoc batch (e.1 ∷ []) (take m (values_of rest))
    ∙ (sym (ap (λ (xs : List ((ℕ × ℕ) × Operation)). batch ++ take j (values_of xs)) is ∙ ap (λ (k : ℕ). batch ++ take k (e.1 ∷ values_of rest)) one_more) ∙ before)

pub pop-others : (m j : ℕ) (total es rest : List ((ℕ × ℕ) × Operation)) (e : (ℕ × ℕ) × Operation) → es ≡ e ∷ rest → j ≡ suc m → drop j es ≡ total → drop m rest ≡ total
pop-others m j total es rest e is one_more before = sym (ap (drop j) is ∙ ap (λ (k : ℕ). drop k (e ∷ rest)) one_more) ∙ before

pub pop-size : (left size : ℕ) (es rest : List ((ℕ × ℕ) × Operation)) (e : (ℕ × ℕ) × Operation) → es ≡ e ∷ rest → size ≡ size_of e.1 → left ≡ bytes_of (values_of es) → left - size ≡ bytes_of (values_of rest)
pop-size left size es rest e is own before =
    let split : bytes_of (values_of es) ≡ size_of e.1 + bytes_of (values_of rest) = ap (λ (xs : List ((ℕ × ℕ) × Operation)). bytes_of (values_of xs)) is in
    omega arith
