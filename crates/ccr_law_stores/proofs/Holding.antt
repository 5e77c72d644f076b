-- What each change of a store makes of all that is held.
use Rattle.std.specs.List.{AllByRecursion}
use Rattle.std.specs.Prelude.{filter, flat_map}
use Rattle.std.proofs.Common.{◌≡◌, ℕ, ◌+◌, ◌==◌, Bool, nat_lt, List, [], ◌∷◌, ◌++◌, refl, sym, ◌∙◌, ap, arith}
use Rattle.std.proofs.lemmas.Grind.{flat_map-append}
use Rattle.std.proofs.lemmas.List.Concat.{flat_map-cons}
use Rattle.std.proofs.lemmas.List.Elements.{filter-append}
use Rattle.ccr_op.specs.Operation.{Operation}
use Rattle.ccr_model.specs.Operations.{with_op, with_ops, ascending}
use Rattle.ccr_model.specs.Stores.{Store, held, stored, stored_all, one_part, flushed, sifted, files_below}
use Rattle.ccr_law_base.proofs.Cases.{on_if}
use Rattle.ccr_law_base.proofs.Lists.{All-append, All-append_front, All-append_back, All-with_ops, All-with_op}
use Rattle.ccr_law_stores.specs.TrueStores.{one, times}
use Rattle.ccr_law_stores.proofs.Counting.{times-append}

-- all operations of some parts
abbrev pub in_parts : List (List Operation) → List Operation
in_parts parts = flat_map {X = List Operation} {A = Operation} (λ part. part) parts

-- ---- insertion

pub times-with_op : (n : ℕ) (op : Operation) (xs : List Operation) → times n (with_op op xs) ≡ one (op.seq == n) + times n xs
times-with_op n op [] = refl
times-with_op n op (x ∷ xs) =
    let rest : times n (with_op op xs) ≡ one (op.seq == n) + times n xs = times-with_op n op xs in
    on_if (λ (ys : List Operation). times n ys ≡ one (op.seq == n) + (one (x.seq == n) + times n xs)) (nat_lt op.seq x.seq) (op ∷ x ∷ xs) (x ∷ with_op op xs)
    (λ is. refl) (λ isnt. omega arith)

pub times-with_ops : (n : ℕ) (more xs : List Operation) → times n (with_ops more xs) ≡ times n more + times n xs
times-with_ops n [] xs = omega arith
times-with_ops n (op ∷ more) xs =
    let rest : times n (with_ops more (with_op op xs)) ≡ times n more + times n (with_op op xs) = times-with_ops n more (with_op op xs) in
    let first : times n (with_op op xs) ≡ one (op.seq == n) + times n xs = times-with_op n op xs in
    rest ∙ omega arith

pub times-ascending : (n : ℕ) (xs : List Operation) → times n (ascending xs) ≡ times n xs
times-ascending n xs = times-with_ops n xs [] ∙ omega arith

pub All-ascending : (P : Operation → Type 0) (xs : List Operation) → AllByRecursion P xs → AllByRecursion P (ascending xs)
All-ascending P xs all = All-with_ops P xs [] all tt

-- ---- the part that takes operations

pub times-stored : (n : ℕ) (op : Operation) (s : Store) → times n (held (stored op s)) ≡ one (op.seq == n) + times n (held s)
times-stored n op s =
    let new : times n (with_op op s.open_part) ≡ one (op.seq == n) + times n s.open_part = times-with_op n op s.open_part in
    let all : times n (in_parts s.parts ++ with_op op s.open_part) ≡ times n (in_parts s.parts) + times n (with_op op s.open_part) = times-append n (in_parts s.parts) (with_op op s.open_part) in
    let old : times n (in_parts s.parts ++ s.open_part) ≡ times n (in_parts s.parts) + times n s.open_part = times-append n (in_parts s.parts) s.open_part in
    omega arith

pub All-stored : (P : Operation → Type 0) (op : Operation) (s : Store) → P op → AllByRecursion P (held s) → AllByRecursion P (held (stored op s))
All-stored P op s new all =
    All-append P (in_parts s.parts) (with_op op s.open_part) (All-append_front P (in_parts s.parts) s.open_part all)
    (All-with_op P op s.open_part new (All-append_back P (in_parts s.parts) s.open_part all))

pub times-stored_all : (n : ℕ) (more : List Operation) (s : Store) → times n (held (stored_all more s)) ≡ times n more + times n (held s)
times-stored_all n more s =
    let new : times n (with_ops more s.open_part) ≡ times n more + times n s.open_part = times-with_ops n more s.open_part in
    let all : times n (in_parts s.parts ++ with_ops more s.open_part) ≡ times n (in_parts s.parts) + times n (with_ops more s.open_part) = times-append n (in_parts s.parts) (with_ops more s.open_part) in
    let old : times n (in_parts s.parts ++ s.open_part) ≡ times n (in_parts s.parts) + times n s.open_part = times-append n (in_parts s.parts) s.open_part in
    omega arith

pub All-stored_all : (P : Operation → Type 0) (more : List Operation) (s : Store) → AllByRecursion P more → AllByRecursion P (held s) → AllByRecursion P (held (stored_all more s))
All-stored_all P more s news all =
    All-append P (in_parts s.parts) (with_ops more s.open_part) (All-append_front P (in_parts s.parts) s.open_part all)
    (All-with_ops P more s.open_part news (All-append_back P (in_parts s.parts) s.open_part all))

-- ---- closed parts

pub append_none : (xs : List Operation) → xs ++ [] ≡ xs
append_none [] = refl
append_none (x ∷ xs) = ap (λ (ys : List Operation). x ∷ ys) (append_none xs)

pub in-one_part : (xs : List Operation) → in_parts (one_part xs) ≡ xs
in-one_part [] = refl
in-one_part (x ∷ xs) = flat_map-cons {X = List Operation} {A = Operation} (λ part. part) (x ∷ xs) [] ∙ append_none (x ∷ xs)

pub in-append : (parts more : List (List Operation)) → in_parts (parts ++ more) ≡ in_parts parts ++ in_parts more
in-append parts more = flat_map-append {X = List Operation} {A = Operation} (λ part. part) parts more

pub held-flushed : (s : Store) → held (flushed s) ≡ held s
held-flushed s =
    append_none (in_parts (s.parts ++ one_part s.open_part))
    ∙ (in-append s.parts (one_part s.open_part) ∙ ap (λ (xs : List Operation). in_parts s.parts ++ xs) (in-one_part s.open_part))

-- ---- sifting

abbrev pub sifted_parts : (Operation → Bool) → List (List Operation) → List (List Operation)
sifted_parts test parts = flat_map {X = List Operation} {A = List Operation} (λ part. one_part (filter test part)) parts

pub in-sifted : (test : Operation → Bool) (parts : List (List Operation)) → in_parts (sifted_parts test parts) ≡ filter test (in_parts parts)
in-sifted test [] = refl
in-sifted test (part ∷ parts) =
    ap in_parts (flat_map-cons {X = List Operation} {A = List Operation} (λ p. one_part (filter test p)) part parts)
    ∙ (in-append (one_part (filter test part)) (sifted_parts test parts)
    ∙ (ap (λ (xs : List Operation). xs ++ in_parts (sifted_parts test parts)) (in-one_part (filter test part))
    ∙ (ap (λ (xs : List Operation). filter test part ++ xs) (in-sifted test parts)
    ∙ (sym (filter-append test part (in_parts parts))
    ∙ ap (filter test) (sym (flat_map-cons {X = List Operation} {A = Operation} (λ p. p) part parts))))))

pub held-sifted : (test : Operation → Bool) (s : Store) → held (sifted test s) ≡ filter test (held s)
held-sifted test s =
    ap (λ (xs : List Operation). xs ++ filter test s.open_part) (in-sifted test s.parts) ∙ sym (filter-append test (in_parts s.parts) s.open_part)

-- the files of what is below a count hold just that
pub in-files : (count : ℕ) (s : Store) → in_parts (files_below count s) ≡ filter (λ op. nat_lt op.seq count) (held s)
in-files count s =
    in-append (sifted_parts (λ op. nat_lt op.seq count) s.parts) (one_part (filter (λ op. nat_lt op.seq count) s.open_part))
    ∙ (ap (λ (xs : List Operation). in_parts (sifted_parts (λ op. nat_lt op.seq count) s.parts) ++ xs) (in-one_part (filter (λ op. nat_lt op.seq count) s.open_part))
    ∙ held-sifted (λ op. nat_lt op.seq count) s)
