-- One turn of each loop of a merge.
use Rattle.std.proofs.Common.{◌≡◌, ℕ, ◌<◌, ◌≤◌, ◌+◌, ◌==◌, zero, suc, Bool, true, false, ◌||◌, if◌then◌else◌, Option, Some, None, List, [], ◌∷◌, ◌++◌, append_assoc, length, take, drop, get_or, refl, sym, ◌∙◌, ap, arith}
use Rattle.std.specs.Prelude.{filter}
use Rattle.std.specs.Option.{option_map_or}
use Rattle.std.proofs.lemmas.Bool.Decides.{nat_tests}
use Rattle.std.proofs.lemmas.List.{drop_more, take_more, take-append-drop, length-map}
use Rattle.std.specs.BTreeSet.{insert_key}
use Rattle.std.specs.Ordering.{nat_cmp}
use mathlib.Core.Path.{fun_ext}
use Rattle.ccr_op.specs.Operation.{Operation}
use Rattle.ccr_model.specs.Stores.{dropped, is_among, is_droppable}
use Rattle.ccr_store.specs.Kept.{ops_of, one, times, lists_of, Closed, IsWithout, with_keys, picked_numbers}
use Rattle.ccr_store.proofs.Filing.{times-append}
use Rattle.ccr_store.proofs.Droppable.{turn-drops, turn-keeps}

pub length-turn : (all : List ℕ) (i : ℕ) → i < length all → length (drop i all) ≡ suc (length (drop (i + 1) all))
length-turn all i lt = ap length (drop_more all i 0 lt)

-- ---- a filter

pub filter-kept : (p : ℕ → Bool) (all left total : List ℕ) (i : ℕ) → i < length all → left ++ filter p (drop i all) ≡ total → p (get_or all i 0) ≡ true
    → (left ++ get_or all i 0 ∷ []) ++ filter p (drop (i + 1) all) ≡ total
filter-kept p all left total i lt before passes =
    append_assoc left (get_or all i 0 ∷ []) (filter p (drop (i + 1) all))
    ∙ (ap (λ (xs : List ℕ). left ++ xs) (sym (ap (filter p) (drop_more all i 0 lt) ∙ ap (λ (t : Bool). if t then get_or all i 0 ∷ filter p (drop (i + 1) all) else filter p (drop (i + 1) all)) passes)) ∙ before)

pub filter-passed : (p : ℕ → Bool) (all left total : List ℕ) (i : ℕ) → i < length all → left ++ filter p (drop i all) ≡ total → p (get_or all i 0) ≡ false
    → left ++ filter p (drop (i + 1) all) ≡ total
filter-passed p all left total i lt before fails =
    ap (λ (xs : List ℕ). left ++ xs) (sym (ap (filter p) (drop_more all i 0 lt) ∙ ap (λ (t : Bool). if t then get_or all i 0 ∷ filter p (drop (i + 1) all) else filter p (drop (i + 1) all)) fails)) ∙ before

-- ---- drops

pub times-take : (q : ℕ) (all : List ℕ) (i : ℕ) → i < length all → times q (take (i + 1) all) ≡ times q (take i all) + (one (get_or all i 0 == q) + 0)
times-take q all i lt = ap (times q) (take_more all i 0 lt) ∙ times-append q (take i all) (get_or all i 0 ∷ [])

pub among-more : (drops all : List ℕ) (i : ℕ) → i < length all → ((q : ℕ) → is_among drops q ≡ true → 1 ≤ times q (take i all)) → (q : ℕ) → is_among drops q ≡ true → 1 ≤ times q (take (i + 1) all)
among-more drops all i lt among q is = let more : times q (take (i + 1) all) ≡ times q (take i all) + (one (get_or all i 0 == q) + 0) = times-take q all i lt in let le : 1 ≤ times q (take i all) = among q is in omega arith

is_among-push : (drops : List ℕ) (n q : ℕ) → is_among (drops ++ n ∷ []) q ≡ (is_among drops q || (n == q))
is_among-push [] n q = (elim (n == q) as (λ b. (b || false) ≡ b) [ true ↦ refl | false ↦ refl ])
is_among-push (m ∷ drops) n q = (elim (m == q) as (λ b. (b || is_among (drops ++ n ∷ []) q) ≡ ((b || is_among drops q) || (n == q))) [ true ↦ refl | false ↦ is_among-push drops n q ])

pub among-pushed : (drops all : List ℕ) (i : ℕ) → i < length all → ((q : ℕ) → is_among drops q ≡ true → 1 ≤ times q (take i all))
    → (q : ℕ) → is_among (drops ++ get_or all i 0 ∷ []) q ≡ true → 1 ≤ times q (take (i + 1) all)
among-pushed drops all i lt among q is =
    let more : times q (take (i + 1) all) ≡ times q (take i all) + (one (get_or all i 0 == q) + 0) = times-take q all i lt in
    (elim (is_among drops q) as (λ b. is_among drops q ≡ b → (b || (get_or all i 0 == q)) ≡ true → 1 ≤ times q (take (i + 1) all)) [
      | true ↦ λ old either. let le : 1 ≤ times q (take i all) = among q old in omega arith
      | false ↦ λ old own. let one_is : one (get_or all i 0 == q) ≡ 1 = ap one own in omega arith
    ]) refl (sym (is_among-push drops (get_or all i 0) q) ∙ is)

pub without-pushed : (first f g : ℕ → Option Operation) (drops : List ℕ) (n : ℕ) → IsWithout drops first f → ((q : ℕ) → g q ≡ (if n == q then None else f q)) → IsWithout (drops ++ n ∷ []) first g
without-pushed first f g drops n without gone q =
    gone q
    ∙ (ap (λ (o : Option Operation). if n == q then None else o) (without q)
    ∙ (by (n == q) (is_among drops q) ∙ ap (λ (b : Bool). if b then None else first q) (sym (is_among-push drops n q))))
  where
    by : (a b : Bool) → ◌≡◌ {A = Option Operation} (if a then None else (if b then None else first q)) (if b || a then None else first q)
    by true true = refl
    by true false = refl
    by false true = refl
    by false false = refl

once_after : (all : List ℕ) (i : ℕ) → i < length all → ((q : ℕ) → times q all ≤ 1) → times (get_or all i 0) (drop (i + 1) all) ≡ 0
once_after all i lt once =
    let n : ℕ = get_or all i 0 in
    let whole : times (get_or all i 0) all ≡ times (get_or all i 0) (take i all) + times (get_or all i 0) (drop i all) =
    ap (times (get_or all i 0)) (sym (take-append-drop i all)) ∙ times-append (get_or all i 0) (take i all) (drop i all) in
    let rest : times (get_or all i 0) (drop i all) ≡ one (get_or all i 0 == get_or all i 0) + times (get_or all i 0) (drop (i + 1) all) = ap (times (get_or all i 0)) (drop_more all i 0 lt) in
    let own : (get_or all i 0 == get_or all i 0) ≡ true = grind (arith, nat_tests) in
    let own_is : one (get_or all i 0 == get_or all i 0) ≡ 1 = ap one own in
    let le : times (get_or all i 0) all ≤ 1 = once (get_or all i 0) in
    omega arith

pub went-on : (f g : ℕ → Option Operation) (bound count : ℕ) (numbers all drops total : List ℕ) (i : ℕ) → i < length all → ((q : ℕ) → times q all ≤ 1)
    → ((k : ℕ) (x : Operation) → f k ≡ Some x → x.seq ≡ k) → ((q : ℕ) → g q ≡ (if get_or all i 0 == q then None else f q))
    → true ≡ option_map_or (is_droppable bound count (ops_of f numbers)) (f (get_or all i 0)) false
    → drops ++ dropped bound count (ops_of f numbers) (ops_of f (drop i all)) ≡ total
    → (drops ++ get_or all i 0 ∷ []) ++ dropped bound count (ops_of g numbers) (ops_of g (drop (i + 1) all)) ≡ total
went-on f g bound count numbers all drops total i lt once own gone goes before =
    append_assoc drops (get_or all i 0 ∷ []) (dropped bound count (ops_of g numbers) (ops_of g (drop (i + 1) all)))
    ∙ (ap (λ (xs : List ℕ). drops ++ xs)
    (sym (ap (λ (ns : List ℕ). dropped bound count (ops_of f numbers) (ops_of f ns)) (drop_more all i 0 lt)
    ∙ turn-drops f g bound count (get_or all i 0) numbers (drop (i + 1) all) own gone goes (once_after all i lt once)))
    ∙ before)

pub went-by : (f g : ℕ → Option Operation) (bound count : ℕ) (numbers all drops total : List ℕ) (i : ℕ) → i < length all → ((q : ℕ) → g q ≡ f q)
    → false ≡ option_map_or (is_droppable bound count (ops_of f numbers)) (f (get_or all i 0)) false
    → drops ++ dropped bound count (ops_of f numbers) (ops_of f (drop i all)) ≡ total
    → drops ++ dropped bound count (ops_of g numbers) (ops_of g (drop (i + 1) all)) ≡ total
went-by f g bound count numbers all drops total i lt same stays before =
    ap (λ (h : ℕ → Option Operation). drops ++ dropped bound count (ops_of h numbers) (ops_of h (drop (i + 1) all))) (fun_ext same)
    ∙ (ap (λ (xs : List ℕ). drops ++ xs)
    (sym (ap (λ (ns : List ℕ). dropped bound count (ops_of f numbers) (ops_of f ns)) (drop_more all i 0 lt) ∙ turn-keeps f bound count (get_or all i 0) numbers (drop (i + 1) all) stays))
    ∙ before)

-- ---- numbers of picked parts

pub with_keys-append : (keys xs ys : List ℕ) → with_keys keys (xs ++ ys) ≡ with_keys (with_keys keys xs) ys
with_keys-append keys [] ys = refl
with_keys-append keys (x ∷ xs) ys = with_keys-append (insert_key nat_cmp keys x) xs ys

pub picked-passed : (test : ℕ → Bool) (parts : List (List ℕ)) (keys total : List ℕ) (i : ℕ) → i < length parts → test i ≡ false → with_keys keys (picked_numbers test i (drop i parts)) ≡ total
    → with_keys keys (picked_numbers test (i + 1) (drop (i + 1) parts)) ≡ total
picked-passed test parts keys total i lt fails before =
    sym (ap (with_keys keys)
    (ap (picked_numbers test i) (drop_more parts i [] lt)
    ∙ ap (λ (t : Bool). if t then get_or parts i [] ++ picked_numbers test (i + 1) (drop (i + 1) parts) else picked_numbers test (i + 1) (drop (i + 1) parts)) fails)) ∙ before

pub picked-taken : (test : ℕ → Bool) (parts : List (List ℕ)) (keys part more total : List ℕ) (i : ℕ) → i < length parts → test i ≡ true → part ≡ get_or parts i [] → more ≡ with_keys keys part
    → with_keys keys (picked_numbers test i (drop i parts)) ≡ total → with_keys more (picked_numbers test (i + 1) (drop (i + 1) parts)) ≡ total
picked-taken test parts keys part more total i lt passes is grown before =
    ap (λ (ks : List ℕ). with_keys ks (picked_numbers test (i + 1) (drop (i + 1) parts))) (grown ∙ ap (with_keys keys) is)
    ∙ (sym (with_keys-append keys (get_or parts i []) (picked_numbers test (i + 1) (drop (i + 1) parts)))
    ∙ (sym (ap (with_keys keys)
    (ap (picked_numbers test i) (drop_more parts i [] lt)
    ∙ ap (λ (t : Bool). if t then get_or parts i [] ++ picked_numbers test (i + 1) (drop (i + 1) parts) else picked_numbers test (i + 1) (drop (i + 1) parts)) passes))
    ∙ before))

-- ---- lists of numbers by place

pub within-lists : (parts : List Closed) (i : ℕ) → i < length parts → i < length (lists_of parts)
within-lists parts i lt = let same : length (lists_of parts) ≡ length parts = length-map parts (λ (part : Closed). part.numbers) in omega arith

pub numbers-at : (parts : List Closed) (i : ℕ) → (get_or parts i record { numbers = []; bytes = 0 }).numbers ≡ get_or (lists_of parts) i []
numbers-at [] zero = refl
numbers-at [] (suc i) = refl
numbers-at (part ∷ parts) zero = refl
numbers-at (part ∷ parts) (suc i) = numbers-at parts i
