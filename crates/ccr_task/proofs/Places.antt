-- The request numbers of the sent reads in ascending order.
use Rattle.std.proofs.Common.{◌≡◌, ℕ, ◌<◌, ◌≤◌, ◌+◌, ◌==◌, zero, suc, Bool, true, false, ◌&&◌, nat_lt, if◌then◌else◌, List, [], ◌∷◌, length, filter, map, slice_get, refl, sym, ◌∙◌, ap, arith}
use Rattle.std.specs.Option.{option_map}
use Rattle.std.specs.List.{AllByRecursion, fold}
use Rattle.std.proofs.lemmas.Bool.{eqb-true}
use Rattle.std.proofs.lemmas.Bool.Decides.{nat_tests}
use Rattle.ccr_model.specs.Requests.{is_sent}
use Rattle.ccr_model.specs.Tasks.{Read, by_request, in_order_of_request}
use Rattle.ccr_law_base.proofs.Cases.{on_if}
use Rattle.ccr_law_base.proofs.Lists.{All-weaker}
use Rattle.ccr_task.specs.Indexed.{AreRising, times}
use Rattle.ccr_task.specs.Ordering.{sent_under}
use Rattle.ccr_task.proofs.Counts.{one_if, count-more}
use Rattle.ccr_task.proofs.Rising.{times-below}

-- how many of the reads have this request number
abbrev pub same : ℕ → List Read → ℕ
same q xs = length (filter (λ (r : Read). r.request == q) xs)

abbrev pub Ascends : List Read → Type 0
Ascends [] = Unit {0}
Ascends (x ∷ xs) = AllByRecursion (λ (y : Read). x.request ≤ y.request) xs × Ascends xs

-- ---- insertion keeps counts and claims, and the order

count-by_request : (p : Read → Bool) (r : Read) (xs : List Read) → length (filter p (by_request r xs)) ≡ length (filter p (r ∷ xs))
count-by_request p r [] = refl
count-by_request p r (x ∷ xs) =
    let rest : length (filter p (by_request r xs)) ≡ length (filter p (r ∷ xs)) = count-by_request p r xs in
    (elim (nat_lt r.request x.request) as (λ b. length (filter p (if b then r ∷ x ∷ xs else x ∷ by_request r xs)) ≡ length (filter p (r ∷ x ∷ xs))) [
      | true ↦ refl
      | false ↦ passed rest
    ])
  where
    passed : length (filter p (by_request r xs)) ≡ length (filter p (r ∷ xs)) → length (filter p (x ∷ by_request r xs)) ≡ length (filter p (r ∷ x ∷ xs))
    passed rest =
        (elim (p x) as (λ (b : Bool). length (if b then x ∷ filter p (by_request r xs) else filter p (by_request r xs)) ≡ length (if p r then r ∷ (if b then x ∷ filter p xs else filter p xs) else (if b then x ∷ filter p xs else filter p xs))) [
          | true ↦ ap suc rest ∙ (elim (p r) as (λ (b : Bool). suc (length (if b then r ∷ filter p xs else filter p xs)) ≡ length (if b then r ∷ (x ∷ filter p xs) else x ∷ filter p xs)) [ true ↦ refl | false ↦ refl ])
          | false ↦ rest
        ])

all-by_request : (P : Read → Type 0) (r : Read) (xs : List Read) → P r → AllByRecursion P xs → AllByRecursion P (by_request r xs)
all-by_request P r [] own all = (own, tt)
all-by_request P r (x ∷ xs) own all =
    on_if (AllByRecursion P) (nat_lt r.request x.request) (r ∷ x ∷ xs) (x ∷ by_request r xs) (λ is. (own, all)) (λ isnt. (all.0, all-by_request P r xs own all.1))

ascends-by_request : (r : Read) (xs : List Read) → Ascends xs → Ascends (by_request r xs)
ascends-by_request r [] up = (tt, tt)
ascends-by_request r (x ∷ xs) up =
    on_if Ascends (nat_lt r.request x.request) (r ∷ x ∷ xs) (x ∷ by_request r xs)
    (λ is.
    let lt : r.request < x.request = grind (arith, nat_tests) in
    let le : r.request ≤ x.request = omega arith in
    ((le, All-weaker (λ (y : Read). x.request ≤ y.request) (λ (y : Read). r.request ≤ y.request) (λ y h. omega arith) xs up.0), up))
    (λ isnt.
    let le : x.request ≤ r.request = grind (arith, nat_tests) in
    (all-by_request (λ (y : Read). x.request ≤ y.request) r xs le up.0, ascends-by_request r xs up.1))

abbrev pub inserted : List Read → List Read → List Read
inserted acc xs = fold {A = Read} {B = List Read} (λ rest r. by_request r rest) acc xs

count-inserted : (p : Read → Bool) (xs acc : List Read) → length (filter p (inserted acc xs)) ≡ length (filter p acc) + length (filter p xs)
count-inserted p [] acc = omega arith
count-inserted p (x ∷ xs) acc =
    let rest : length (filter p (inserted (by_request x acc) xs)) ≡ length (filter p (by_request x acc)) + length (filter p xs) = count-inserted p xs (by_request x acc) in
    let one : length (filter p (by_request x acc)) ≡ length (filter p (x ∷ acc)) = count-by_request p x acc in
    let split : length (filter p (x ∷ acc)) + length (filter p xs) ≡ length (filter p acc) + length (filter p (x ∷ xs)) =
    (elim (p x) as (λ (b : Bool). length (if b then x ∷ filter p acc else filter p acc) + length (filter p xs) ≡ length (filter p acc) + length (if b then x ∷ filter p xs else filter p xs)) [ true ↦ omega arith | false ↦ omega arith ]) in
    rest ∙ (ap (λ n. n + length (filter p xs)) one ∙ split)

all-inserted : (P : Read → Type 0) (xs acc : List Read) → AllByRecursion P acc → AllByRecursion P xs → AllByRecursion P (inserted acc xs)
all-inserted P [] acc own all = own
all-inserted P (x ∷ xs) acc own all = all-inserted P xs (by_request x acc) (all-by_request P x acc all.0 own) all.1

ascends-inserted : (xs acc : List Read) → Ascends acc → Ascends (inserted acc xs)
ascends-inserted [] acc up = up
ascends-inserted (x ∷ xs) acc up = ascends-inserted xs (by_request x acc) (ascends-by_request x acc up)

-- ---- counts of an ascending list

none-at : (q : ℕ) (xs : List Read) → AllByRecursion (λ (y : Read). q < y.request) xs → same q xs ≡ 0
none-at q [] all = refl
none-at q (x ∷ xs) all =
    let lt : q < x.request = all.0 in
    let apart : (x.request == q) ≡ false = grind (arith, nat_tests) in
    ap (λ (b : Bool). length (if b then x ∷ filter (λ (r : Read). r.request == q) xs else filter (λ (r : Read). r.request == q) xs)) apart ∙ none-at q xs all.1

abbrev pub one_if_same : ℕ → Read → ℕ
one_if_same q x = if x.request == q then 1 else 0

same-more : (q : ℕ) (x : Read) (xs : List Read) → same q (x ∷ xs) ≡ one_if_same q x + same q xs
same-more q x xs =
    (elim (x.request == q) as (λ (b : Bool). length (if b then x ∷ filter (λ (r : Read). r.request == q) xs else filter (λ (r : Read). r.request == q) xs) ≡ (if b then 1 else 0) + same q xs) [ true ↦ omega arith | false ↦ omega arith ])

-- ---- among the sent reads

abbrev pub sent_ones : List Read → List Read
sent_ones reads = filter (λ (r : Read). is_sent r.progress) reads

count-sent : (p : Read → Bool) (reads : List Read) → length (filter (λ (r : Read). is_sent r.progress && p r) reads) ≡ length (filter p (sent_ones reads))
count-sent p [] = refl
count-sent p (x ∷ reads) =
    let rest : length (filter (λ (r : Read). is_sent r.progress && p r) reads) ≡ length (filter p (sent_ones reads)) = count-sent p reads in
    (elim (is_sent x.progress) as (λ (b : Bool). length (if b && p x then x ∷ filter (λ (r : Read). is_sent r.progress && p r) reads else filter (λ (r : Read). is_sent r.progress && p r) reads) ≡ length (filter p (if b then x ∷ sent_ones reads else sent_ones reads))) [
      | true ↦ (elim (p x) as (λ (b : Bool). length (if b then x ∷ filter (λ (r : Read). is_sent r.progress && p r) reads else filter (λ (r : Read). is_sent r.progress && p r) reads) ≡ length (if b then x ∷ filter p (sent_ones reads) else filter p (sent_ones reads))) [ true ↦ ap suc rest | false ↦ rest ])
      | false ↦ rest
    ])

count-ordered : (p : Read → Bool) (reads : List Read) → length (filter (λ (r : Read). is_sent r.progress && p r) reads) ≡ length (filter p (in_order_of_request (sent_ones reads)))
count-ordered p reads =
    let all : length (filter p (inserted [] (sent_ones reads))) ≡ 0 + length (filter p (sent_ones reads)) = count-inserted p (sent_ones reads) [] in
    let sent : length (filter (λ (r : Read). is_sent r.progress && p r) reads) ≡ length (filter p (sent_ones reads)) = count-sent p reads in
    omega arith

le-self : (n : ℕ) → n ≤ n
le-self n = omega arith

some-here : (y : Read) (ys : List Read) → 1 ≤ same y.request (y ∷ ys)
some-here y ys =
    let e : (y.request == y.request) ≡ true = grind (arith, nat_tests) in
    let one : one_if (y.request == y.request) ≡ 1 = ap one_if e in
    let more : same y.request (y ∷ ys) ≡ one_if (y.request == y.request) + same y.request ys = count-more (λ (r : Read). r.request == y.request) y ys in
    omega arith

some-listed : (n : ℕ) (ns : List ℕ) → 1 ≤ times n (n ∷ ns)
some-listed n ns =
    let e : (n == n) ≡ true = grind (arith, nat_tests) in
    let one : one_if (n == n) ≡ 1 = ap one_if e in
    let more : times n (n ∷ ns) ≡ one_if (n == n) + times n ns = count-more (λ (k : ℕ). k == n) n ns in
    omega arith

by_order : (a b : ℕ) → (a < b → ⊥) → (b < a → ⊥) → a ≡ b
by_order a b not_less not_more =
    (elim (a == b) as (λ c. (a == b) ≡ c → a ≡ b) [
      | true ↦ λ is. eqb-true a b is
      | false ↦ λ isnt.
          (elim (nat_lt a b) as (λ c. nat_lt a b ≡ c → a ≡ b) [
            | true ↦ λ lt. let less : a < b = grind (arith, nat_tests) in absurd (not_less less)
            | false ↦ λ ge. let more : b < a = grind (arith, nat_tests) in absurd (not_more more)
          ]) refl
    ]) refl

-- numbers that rise and reads that ascend, of which each number is there as often, are the same numbers
numbers-of : (low : ℕ) (ns : List ℕ) (high : ℕ) (ys : List Read) → AreRising low ns high → Ascends ys → ((q : ℕ) → times q ns ≡ same q ys) → map (λ (r : Read). r.request) ys ≡ ns
numbers-of low [] high [] up ascends counts = refl
numbers-of low [] high (y ∷ ys) up ascends counts =
    let none : 0 ≡ same y.request (y ∷ ys) = counts y.request in
    let some : 1 ≤ same y.request (y ∷ ys) = some-here y ys in
    absurd (omega arith)
numbers-of low (n ∷ ns) high [] up ascends counts =
    let none : times n (n ∷ ns) ≡ 0 = counts n in
    let some : 1 ≤ times n (n ∷ ns) = some-listed n ns in
    absurd (omega arith)
numbers-of low (n ∷ ns) high (y ∷ ys) up ascends counts =
    let is : y.request ≡ n = first in
    ap (λ (k : ℕ). k ∷ map (λ (r : Read). r.request) ys) is ∙ ap (λ (ks : List ℕ). n ∷ ks) (numbers-of (n + 1) ns high ys up.1 ascends.1 (λ q. rest q is))
  where
    not_less : y.request < n → ⊥
    not_less lt =
        let none : times y.request (n ∷ ns) ≡ 0 = times-below n (n ∷ ns) high y.request (le-self n, up.1) lt in
        let some : 1 ≤ same y.request (y ∷ ys) = some-here y ys in
        let both : times y.request (n ∷ ns) ≡ same y.request (y ∷ ys) = counts y.request in
        omega arith

    not_more : n < y.request → ⊥
    not_more lt =
        let none : same n (y ∷ ys) ≡ 0 = none-at n (y ∷ ys) (lt, All-weaker (λ (r : Read). y.request ≤ r.request) (λ (r : Read). n < r.request) (λ r h. omega arith) ys ascends.0) in
        let some : 1 ≤ times n (n ∷ ns) = some-listed n ns in
        let both : times n (n ∷ ns) ≡ same n (y ∷ ys) = counts n in
        omega arith

    first : y.request ≡ n
    first = by_order y.request n not_less not_more

    rest : (q : ℕ) → y.request ≡ n → times q ns ≡ same q ys
    rest q is =
        let listed : times q (n ∷ ns) ≡ one_if (n == q) + times q ns = count-more (λ (k : ℕ). k == q) n ns in
        let counted : same q (y ∷ ys) ≡ one_if (y.request == q) + same q ys = count-more (λ (r : Read). r.request == q) y ys in
        let both : times q (n ∷ ns) ≡ same q (y ∷ ys) = counts q in
        let own : one_if (y.request == q) ≡ one_if (n == q) = ap (λ (k : ℕ). one_if (k == q)) is in
        omega arith

get-map : (ys : List Read) (at : ℕ) → slice_get (map (λ (r : Read). r.request) ys) at ≡ option_map (λ (r : Read). r.request) (slice_get ys at)
get-map [] at = refl
get-map (y ∷ ys) zero = refl
get-map (y ∷ ys) (suc at) = get-map ys at

-- the number at a place among those of the sent reads
pub sent-number-at : (ns : List ℕ) (high : ℕ) (reads : List Read) (at : ℕ) → AreRising 0 ns high → ((q : ℕ) → times q ns ≡ sent_under q reads)
    → slice_get ns at ≡ option_map (λ (r : Read). r.request) (slice_get (in_order_of_request (sent_ones reads)) at)
sent-number-at ns high reads at up listed =
    ap (λ (ks : List ℕ). slice_get ks at) (sym (numbers-of 0 ns high (in_order_of_request (sent_ones reads)) up (ascends-inserted (sent_ones reads) [] tt) (λ q. listed q ∙ count-ordered (λ (r : Read). r.request == q) reads)))
    ∙ get-map (in_order_of_request (sent_ones reads)) at
