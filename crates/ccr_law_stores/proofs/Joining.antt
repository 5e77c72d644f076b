-- What a merge makes of the parts: the picked ones become one, without some numbers.
use Rattle.std.specs.List.{AllByRecursion, enumerate_from, prefix_len}
use Rattle.std.specs.Prelude.{filter, flat_map, take_while}
use Rattle.std.proofs.Common.{◌≡◌, ℕ, suc, ◌+◌, Bool, true, false, not, cond, if◌then◌else◌, List, [], ◌∷◌, ◌++◌, length, take, drop, refl, sym, ◌∙◌, ap, subst, arith}
use Rattle.std.proofs.lemmas.Grind.{flat_map-append}
use Rattle.std.proofs.lemmas.List.Concat.{flat_map-cons}
use Rattle.ccr_op.specs.Operation.{Operation}
use Rattle.ccr_model.specs.Stores.{one_part, is_picked, picked_ops, is_among, parts_at, joined}
use Rattle.ccr_law_base.proofs.Cases.{on_if}
use Rattle.ccr_law_base.proofs.Lists.{All-append, All-append_front, All-append_back, All-filter}
use Rattle.ccr_law_stores.specs.TrueStores.{times}
use Rattle.ccr_law_stores.proofs.Counting.{times-append, times-filter}
use Rattle.ccr_law_stores.proofs.Holding.{in_parts, in-one_part, in-append, times-ascending, All-ascending}

-- the operations of placed parts
abbrev pub ops_at : List (ℕ × List Operation) → List Operation
ops_at placed = flat_map {X = ℕ × List Operation} {A = Operation} (λ at. at.1) placed

pub ops_at-cons : (p : ℕ × List Operation) (ps : List (ℕ × List Operation)) → ops_at (p ∷ ps) ≡ p.1 ++ ops_at ps
ops_at-cons p ps = flat_map-cons {X = ℕ × List Operation} {A = Operation} (λ at. at.1) p ps

pub ops_at-append : (ps qs : List (ℕ × List Operation)) → ops_at (ps ++ qs) ≡ ops_at ps ++ ops_at qs
ops_at-append ps qs = flat_map-append {X = ℕ × List Operation} {A = Operation} (λ at. at.1) ps qs

pub in-parts_at : (ps : List (ℕ × List Operation)) → in_parts (parts_at ps) ≡ ops_at ps
in-parts_at [] = refl
in-parts_at (p ∷ ps) =
    flat_map-cons {X = List Operation} {A = Operation} (λ part. part) p.1 (parts_at ps)
    ∙ (ap (λ (xs : List Operation). p.1 ++ xs) (in-parts_at ps) ∙ sym (ops_at-cons p ps))

pub ops_at-placed : (k : ℕ) (parts : List (List Operation)) → ops_at (enumerate_from k parts) ≡ in_parts parts
ops_at-placed k [] = refl
ops_at-placed k (part ∷ parts) =
    ops_at-cons (k, part) (enumerate_from (k + 1) parts)
    ∙ (ap (λ (xs : List Operation). part ++ xs) (ops_at-placed (k + 1) parts)
    ∙ sym (flat_map-cons {X = List Operation} {A = Operation} (λ p. p) part parts))

-- ---- a choice among the parts

pub times-chosen : (test : ℕ × List Operation → Bool) (n : ℕ) (ps : List (ℕ × List Operation))
    → times n (ops_at (filter test ps)) + times n (ops_at (filter (λ at. not (test at)) ps)) ≡ times n (ops_at ps)
times-chosen test n [] = refl
times-chosen test n (p ∷ ps) =
    let rest : times n (ops_at (filter test ps)) + times n (ops_at (filter (λ at. not (test at)) ps)) ≡ times n (ops_at ps) = times-chosen test n ps in
    let all : times n (ops_at (p ∷ ps)) ≡ times n p.1 + times n (ops_at ps) = ap (times n) (ops_at-cons p ps) ∙ times-append n p.1 (ops_at ps) in
    let yes : times n (ops_at (p ∷ filter test ps)) ≡ times n p.1 + times n (ops_at (filter test ps))
    = ap (times n) (ops_at-cons p (filter test ps)) ∙ times-append n p.1 (ops_at (filter test ps)) in
    let no_part : times n (ops_at (p ∷ filter (λ at. not (test at)) ps)) ≡ times n p.1 + times n (ops_at (filter (λ at. not (test at)) ps))
    = ap (times n) (ops_at-cons p (filter (λ at. not (test at)) ps)) ∙ times-append n p.1 (ops_at (filter (λ at. not (test at)) ps)) in
    (elim (test p) as (λ b. times n (ops_at (if b then p ∷ filter test ps else filter test ps))
    + times n (ops_at (if not b then p ∷ filter (λ at. not (test at)) ps else filter (λ at. not (test at)) ps)) ≡ times n (ops_at (p ∷ ps))) [
      | true ↦ omega arith
      | false ↦ omega arith
    ])

pub All-chosen : (P : Operation → Type 0) (test : ℕ × List Operation → Bool) (ps : List (ℕ × List Operation)) → AllByRecursion P (ops_at ps) → AllByRecursion P (ops_at (filter test ps))
All-chosen P test [] all = tt
All-chosen P test (p ∷ ps) all =
    let both : AllByRecursion P (p.1 ++ ops_at ps) = subst (AllByRecursion P) (ops_at-cons p ps) all in
    let rest : AllByRecursion P (ops_at (filter test ps)) = All-chosen P test ps (All-append_back P p.1 (ops_at ps) both) in
    on_if (λ (qs : List (ℕ × List Operation)). AllByRecursion P (ops_at qs)) (test p) (p ∷ filter test ps) (filter test ps)
    (λ is. subst (AllByRecursion P) (sym (ops_at-cons p (filter test ps))) (All-append P p.1 (ops_at (filter test ps)) (All-append_front P p.1 (ops_at ps) both) rest))
    (λ isnt. rest)

-- ---- the front and the rest

pub front_rest : {X : Type 0} (test : X → Bool) (xs : List X) → take_while test xs ++ filter test (drop (length (take_while test xs)) xs) ≡ filter test xs
front_rest test [] = refl
front_rest test (x ∷ xs) =
    (elim (test x) as (λ b. test x ≡ b → take (cond b (1 + prefix_len test xs) 0) (x ∷ xs) ++ filter test (drop (length (take (cond b (1 + prefix_len test xs) 0) (x ∷ xs))) (x ∷ xs))
    ≡ (if b then x ∷ filter test xs else filter test xs)) [
      | true ↦ λ is. subst (λ (k : ℕ). take k (x ∷ xs) ++ filter test (drop (length (take k (x ∷ xs))) (x ∷ xs)) ≡ x ∷ filter test xs) (one_more (prefix_len test xs))
          (ap (λ (ys : List _). x ∷ ys) (front_rest test xs))
      | false ↦ λ isnt. ap (λ (b : Bool). if b then x ∷ filter test xs else filter test xs) isnt
    ]) refl
  where
    one_more : (k : ℕ) → suc k ≡ 1 + k
    one_more k = omega arith

-- ---- all of it

abbrev pub others_at : List ℕ → List (List Operation) → List Operation
others_at picks parts = ops_at (filter (λ at. not (is_picked picks at)) (enumerate_from 0 parts))

pub times-picked : (n : ℕ) (picks : List ℕ) (parts : List (List Operation)) → times n (picked_ops picks parts) + times n (others_at picks parts) ≡ times n (in_parts parts)
times-picked n picks parts =
    let sorted : times n (picked_ops picks parts) ≡ times n (ops_at (filter (is_picked picks) (enumerate_from 0 parts)))
    = times-ascending n (ops_at (filter (is_picked picks) (enumerate_from 0 parts))) in
    let all : times n (ops_at (filter (is_picked picks) (enumerate_from 0 parts))) + times n (others_at picks parts) ≡ times n (ops_at (enumerate_from 0 parts))
    = times-chosen (is_picked picks) n (enumerate_from 0 parts) in
    let same : times n (ops_at (enumerate_from 0 parts)) ≡ times n (in_parts parts) = ap (times n) (ops_at-placed 0 parts) in
    omega arith

pub All-picked : (P : Operation → Type 0) (picks : List ℕ) (parts : List (List Operation)) → AllByRecursion P (in_parts parts) → AllByRecursion P (picked_ops picks parts)
All-picked P picks parts all =
    All-ascending P (ops_at (filter (is_picked picks) (enumerate_from 0 parts)))
    (All-chosen P (is_picked picks) (enumerate_from 0 parts) (subst (AllByRecursion P) (sym (ops_at-placed 0 parts)) all))

-- the operations of the merged parts: `front` and `rest` are the parts that weren't picked
pub in-joined : (front rest : List (ℕ × List Operation)) (kept : List Operation)
    → in_parts (parts_at front ++ one_part kept ++ parts_at rest) ≡ (ops_at front ++ kept) ++ ops_at rest
in-joined front rest kept =
    in-append (parts_at front ++ one_part kept) (parts_at rest)
    ∙ (ap (λ (xs : List Operation). in_parts (parts_at front ++ one_part kept) ++ xs) (in-parts_at rest)
    ∙ (ap (λ (xs : List Operation). xs ++ ops_at rest) (in-append (parts_at front) (one_part kept))
    ∙ (ap (λ (xs : List Operation). (xs ++ in_parts (one_part kept)) ++ ops_at rest) (in-parts_at front)
    ∙ ap (λ (xs : List Operation). (ops_at front ++ xs) ++ ops_at rest) (in-one_part kept))))

pub times-joined : (n : ℕ) (picks drops : List ℕ) (parts : List (List Operation))
    → times n (in_parts (joined picks drops parts)) ≡ (if not (is_among drops n) then times n (picked_ops picks parts) else 0) + times n (others_at picks parts)
times-joined n picks drops parts =
    let placed = enumerate_from 0 parts in
    let front = take_while (λ (at : ℕ × List Operation). not (is_picked picks at)) placed in
    let rest = filter (λ (at : ℕ × List Operation). not (is_picked picks at)) (drop (length front) placed) in
    let kept = filter (λ (op : Operation). not (is_among drops op.seq)) (picked_ops picks parts) in
    let whole : times n (in_parts (joined picks drops parts)) ≡ times n ((ops_at front ++ kept) ++ ops_at rest) = ap (times n) (in-joined front rest kept) in
    let outer : times n ((ops_at front ++ kept) ++ ops_at rest) ≡ times n (ops_at front ++ kept) + times n (ops_at rest) = times-append n (ops_at front ++ kept) (ops_at rest) in
    let inner : times n (ops_at front ++ kept) ≡ times n (ops_at front) + times n kept = times-append n (ops_at front) kept in
    let by_number : times n kept ≡ (if not (is_among drops n) then times n (picked_ops picks parts) else 0)
    = times-filter (λ k. not (is_among drops k)) n (picked_ops picks parts) in
    let sides : times n (ops_at front) + times n (ops_at rest) ≡ times n (others_at picks parts)
    = sym (ap (times n) (ops_at-append front rest) ∙ times-append n (ops_at front) (ops_at rest))
    ∙ ap (λ (ps : List (ℕ × List Operation)). times n (ops_at ps)) (front_rest (λ (at : ℕ × List Operation). not (is_picked picks at)) placed) in
    whole ∙ (outer ∙ (omega arith ∙ ap (λ (k : ℕ). k + times n (others_at picks parts)) by_number))

pub All-joined : (P : Operation → Type 0) (picks drops : List ℕ) (parts : List (List Operation)) → AllByRecursion P (in_parts parts) → AllByRecursion P (in_parts (joined picks drops parts))
All-joined P picks drops parts all =
    let placed = enumerate_from 0 parts in
    let front = take_while (λ (at : ℕ × List Operation). not (is_picked picks at)) placed in
    let rest = filter (λ (at : ℕ × List Operation). not (is_picked picks at)) (drop (length front) placed) in
    let kept = filter (λ (op : Operation). not (is_among drops op.seq)) (picked_ops picks parts) in
    let sides : AllByRecursion P (ops_at front ++ ops_at rest)
    = subst (AllByRecursion P) (ap ops_at (sym (front_rest (λ (at : ℕ × List Operation). not (is_picked picks at)) placed)) ∙ ops_at-append front rest)
    (All-chosen P (λ (at : ℕ × List Operation). not (is_picked picks at)) placed (subst (AllByRecursion P) (sym (ops_at-placed 0 parts)) all)) in
    subst (AllByRecursion P) (sym (in-joined front rest kept))
    (All-append P (ops_at front ++ kept) (ops_at rest)
    (All-append P (ops_at front) kept (All-append_front P (ops_at front) (ops_at rest) sides) (All-filter P (λ op. not (is_among drops op.seq)) (picked_ops picks parts) (All-picked P picks parts all)))
    (All-append_back P (ops_at front) (ops_at rest) sides))
