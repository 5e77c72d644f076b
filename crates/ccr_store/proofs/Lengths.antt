-- The length of a segment, and what a closed part keeps while other operations come and go.
use Rattle.std.proofs.Common.{Result, Ok, Err, IfOk, ◌≡◌, ℕ, ◌<◌, ◌≤◌, ◌+◌, ◌==◌, suc, Bool, true, false, nat_lt, cond, if◌then◌else◌, Option, Some, None, List, [], ◌∷◌, ◌++◌, length, length-append, zero, take, drop, get_or, ◌-◌, refl, sym, ◌∙◌, ap, subst, arith}
use Rattle.std.specs.Prelude.{filter, flat_map}
use Rattle.std.specs.List.{cons_option, All, AllByRecursion, HoldsAt}
use Rattle.std.specs.List.Sorted.{IsStrictlySortedBy, IsNonDecreasingBy, IsPartitionPoint}
use Rattle.std.specs.Ordering.{nat_cmp, is_lt, ordering_index}
use Rattle.std.specs.declared.cmp.Ordering.TheVariants.{Less, Equal, Greater}
use Rattle.std.specs.Option.{option_map_or}
use Rattle.std.specs.Int.{w32, to_be_bytes}
use Rattle.std.proofs.lemmas.Bool.Decides.{nat_tests}
use Rattle.std.proofs.lemmas.List.{drop_more, drop_all, take-append-drop, take_rest}
use Rattle.std.proofs.lemmas.Map.Keys.{sorted_head, sorted_tail, ge_from_not_lt}
use Rattle.ccr_op.specs.Operation.{Operation}
use Rattle.ccr_op.specs.Spelling.{spelling}
use Rattle.ccr_segment.specs.Segment.{spelling as segment_of_ops, AscendsFrom}
use Rattle.ccr_model.specs.Operations.{size_of}
use Rattle.ccr_store.specs.Kept.{ops_of, one, times, lists_of, below, bytes_of, Closed, Ascend, IsClosed}
use Rattle.ccr_store.proofs.Filing.{times-append, all_numbers, ordered}

length-ops_bytes : (ops : List Operation) → length (flat_map spelling ops) ≡ bytes_of ops
length-ops_bytes [] = refl
length-ops_bytes (op ∷ ops) = length-append (spelling op) (flat_map spelling ops) ∙ ap (λ k. size_of op + k) (length-ops_bytes ops)

pub segment-length : (ops : List Operation) → length (segment_of_ops ops) ≡ 9 + bytes_of ops
segment-length ops =
    let number : length (to_be_bytes w32 (length ops)) ≡ 4 = refl in
    let both : length (to_be_bytes w32 (length ops) ++ flat_map spelling ops) ≡ length (to_be_bytes w32 (length ops)) + length (flat_map spelling ops) = length-append (to_be_bytes w32 (length ops)) (flat_map spelling ops) in
    let rest : length (flat_map spelling ops) ≡ bytes_of ops = length-ops_bytes ops in
    omega arith

-- the bytes of the operation of a number, where there is one
abbrev pub size_in : (ℕ → Option Operation) → ℕ → ℕ
size_in f n = option_map_or size_of (f n) 0

pub bytes-more : (f : ℕ → Option Operation) (n : ℕ) (ns : List ℕ) → bytes_of (ops_of f (n ∷ ns)) ≡ size_in f n + bytes_of (ops_of f ns)
bytes-more f n ns =
    (elim (f n) as (λ o. bytes_of (cons_option o (ops_of f ns)) ≡ option_map_or size_of o 0 + bytes_of (ops_of f ns)) [
      | None ↦ omega arith
      | Some op ↦ refl
    ])

pub bytes-turn : (f : ℕ → Option Operation) (ns : List ℕ) (i : ℕ) → i < length ns
    → bytes_of (ops_of f (drop i ns)) ≡ size_in f (get_or ns i 0) + bytes_of (ops_of f (drop (i + 1) ns))
bytes-turn f ns i lt = ap (λ (ks : List ℕ). bytes_of (ops_of f ks)) (drop_more ns i 0 lt) ∙ bytes-more f (get_or ns i 0) (drop (i + 1) ns)

pub bytes-append : (f : ℕ → Option Operation) (xs ys : List ℕ) → bytes_of (ops_of f (xs ++ ys)) ≡ bytes_of (ops_of f xs) + bytes_of (ops_of f ys)
bytes-append f [] ys = omega arith
bytes-append f (x ∷ xs) ys =
    let here : bytes_of (ops_of f (x ∷ (xs ++ ys))) ≡ size_in f x + bytes_of (ops_of f (xs ++ ys)) = bytes-more f x (xs ++ ys) in
    let there : bytes_of (ops_of f (x ∷ xs)) ≡ size_in f x + bytes_of (ops_of f xs) = bytes-more f x xs in
    let rest : bytes_of (ops_of f (xs ++ ys)) ≡ bytes_of (ops_of f xs) + bytes_of (ops_of f ys) = bytes-append f xs ys in
    omega arith

-- all numbers were counted
pub ended : (f : ℕ → Option Operation) (ns : List ℕ) (i bytes : ℕ) → length ns ≤ i → bytes + bytes_of (ops_of f (drop i ns)) ≡ 9 + bytes_of (ops_of f ns) → bytes ≡ length (segment_of_ops (ops_of f ns))
ended f ns i bytes past so_far =
    let none : bytes_of (ops_of f (drop i ns)) ≡ 0 = ap (λ (ks : List ℕ). bytes_of (ops_of f ks)) (drop_all i ns past) in
    let all : length (segment_of_ops (ops_of f ns)) ≡ 9 + bytes_of (ops_of f ns) = segment-length (ops_of f ns) in
    omega arith

-- fewer operations take no more bytes
pub bytes-fewer : (f g : ℕ → Option Operation) → ((q : ℕ) → size_in g q ≤ size_in f q) → (ns : List ℕ) → bytes_of (ops_of g ns) ≤ bytes_of (ops_of f ns)
bytes-fewer f g less [] = omega arith
bytes-fewer f g less (n ∷ ns) =
    let here : bytes_of (ops_of f (n ∷ ns)) ≡ size_in f n + bytes_of (ops_of f ns) = bytes-more f n ns in
    let there : bytes_of (ops_of g (n ∷ ns)) ≡ size_in g n + bytes_of (ops_of g ns) = bytes-more g n ns in
    let own : size_in g n ≤ size_in f n = less n in
    let rest : bytes_of (ops_of g ns) ≤ bytes_of (ops_of f ns) = bytes-fewer f g less ns in
    omega arith

-- ---- order

pub ascend-later : (a b : ℕ) (ns : List ℕ) → a ≤ b → Ascend b ns → Ascend a ns
ascend-later a b [] le up = tt
ascend-later a b (n ∷ ns) le up = (let own : b ≤ n = up.0 in omega arith, up.1)

pub ascend-filter : (p : ℕ → Bool) (a : ℕ) (ns : List ℕ) → Ascend a ns → Ascend a (filter p ns)
ascend-filter p a [] up = tt
ascend-filter p a (n ∷ ns) up =
    (elim (p n) as (λ b. Ascend a (if b then n ∷ filter p ns else filter p ns)) [
      | true ↦ (up.0, ascend-filter p (n + 1) ns up.1)
      | false ↦ ascend-later a (n + 1) (filter p ns) (let own : a ≤ n = up.0 in omega arith) (ascend-filter p (n + 1) ns up.1)
    ])

less_is : (k q : ℕ) → nat_cmp k q ≡ Less → k < q
less_is k q = ordered (λ lt eq. cond lt Less (cond eq Equal Greater) ≡ Less → k < q) k q (λ lt is. lt) (λ same is. cc) (λ more is. cc)

pub ascend-sorted : (ns : List ℕ) → IsStrictlySortedBy nat_cmp ns → Ascend 0 ns
ascend-sorted [] sorted = tt
ascend-sorted (n ∷ ns) sorted = (omega arith, from n ns (sorted_head nat_cmp n ns sorted) (sorted_tail nat_cmp n ns sorted))
  where
    from : (k : ℕ) (ks : List ℕ) → AllByRecursion (λ y. nat_cmp k y ≡ Less) ks → IsStrictlySortedBy nat_cmp ks → Ascend (k + 1) ks
    from k [] all sorted = tt
    from k (q ∷ ks) all sorted = (let lt : k < q = less_is k q all.0 in omega arith, from q ks (sorted_head nat_cmp q ks sorted) (sorted_tail nat_cmp q ks sorted))

pub ascend-ops : (f : ℕ → Option Operation) (p : Operation → Bool) → ((n : ℕ) (op : Operation) → f n ≡ Some op → op.seq ≡ n) → (a : ℕ) (ns : List ℕ) → Ascend a ns → AscendsFrom a (filter p (ops_of f ns))
ascend-ops f p own a [] up = tt
ascend-ops f p own a (n ∷ ns) up =
    let rest : AscendsFrom (n + 1) (filter p (ops_of f ns)) = ascend-ops f p own (n + 1) ns up.1 in
    let low : a ≤ n = up.0 in
    (elim (f n) as (λ o. f n ≡ o → AscendsFrom a (filter p (cons_option o (ops_of f ns)))) [
      | None ↦ λ is. weaker a (n + 1) (filter p (ops_of f ns)) (omega arith) rest
      | Some op ↦ λ is.
          let at : op.seq ≡ n = own n op is in
          (elim (p op) as (λ b. AscendsFrom a (if b then op ∷ filter p (ops_of f ns) else filter p (ops_of f ns))) [
            | true ↦ (omega arith, subst (λ k. AscendsFrom (k + 1) (filter p (ops_of f ns))) (sym at) rest)
            | false ↦ weaker a (n + 1) (filter p (ops_of f ns)) (omega arith) rest
          ])
    ]) refl
  where
    weaker : (a b : ℕ) (ops : List Operation) → a ≤ b → AscendsFrom b ops → AscendsFrom a ops
    weaker a b [] le up = tt
    weaker a b (op ∷ ops) le up = (let own : b ≤ op.seq = up.0 in omega arith, up.1)

ascend-low : (a d : ℕ) (ns : List ℕ) (j : ℕ) → Ascend a ns → j < length ns → a ≤ get_or ns j d
ascend-low a d [] j up lt = absurd (omega arith)
ascend-low a d (n ∷ ns) zero up lt = up.0
ascend-low a d (n ∷ ns) (suc j) up lt = let own : a ≤ n = up.0 in let rest : n + 1 ≤ get_or ns j d = ascend-low (n + 1) d ns j up.1 (omega arith) in omega arith

pub ascend-le : (a d : ℕ) (ns : List ℕ) (i j : ℕ) → Ascend a ns → i ≤ j → j < length ns → get_or ns i d ≤ get_or ns j d
ascend-le a d [] i j up le lt = absurd (omega arith)
ascend-le a d (n ∷ ns) zero zero up le lt = omega arith
ascend-le a d (n ∷ ns) zero (suc j) up le lt = let rest : n + 1 ≤ get_or ns j d = ascend-low (n + 1) d ns j up.1 (omega arith) in omega arith
ascend-le a d (n ∷ ns) (suc i) zero up le lt = absurd (omega arith)
ascend-le a d (n ∷ ns) (suc i) (suc j) up le lt = ascend-le (n + 1) d ns i j up.1 (omega arith) (omega arith)

pub take-below : (b i : ℕ) (ns : List ℕ) → ((k : ℕ) → k < i → k < length ns → nat_lt (get_or ns k 0) b ≡ true) → ((k : ℕ) → i ≤ k → k < length ns → nat_lt (get_or ns k 0) b ≡ false) → take i ns ≡ below b ns
take-below b zero [] low high = refl
take-below b (suc i) [] low high = refl
take-below b zero (n ∷ ns) low high =
    let out : nat_lt n b ≡ false = high 0 (omega arith) (omega arith) in
    rw out (take-below b zero ns (λ k lt within. absurd (omega arith)) (λ k le lt. high (suc k) (omega arith) (omega arith)))
take-below b (suc i) (n ∷ ns) low high =
    let in_it : nat_lt n b ≡ true = low 0 (omega arith) (omega arith) in
    rw in_it (ap (λ (ks : List ℕ). n ∷ ks) (take-below b i ns (λ k lt within. low (suc k) (omega arith) (omega arith)) (λ k le lt. high (suc k) (omega arith) (omega arith))))

-- what a cut takes off a part's bytes is there, and what it leaves is a part
pub cut-within : (f : ℕ → Option Operation) (part : Closed) (i : ℕ) → IsClosed f part → bytes_of (ops_of f (drop i part.numbers)) ≤ part.bytes
cut-within f part i closed =
    let whole : part.bytes ≡ 9 + bytes_of (ops_of f part.numbers) = closed.bytes ∙ segment-length (ops_of f part.numbers) in
    let both : bytes_of (ops_of f part.numbers) ≡ bytes_of (ops_of f (take i part.numbers)) + bytes_of (ops_of f (drop i part.numbers)) =
    ap (λ (ns : List ℕ). bytes_of (ops_of f ns)) (sym (take-append-drop i part.numbers)) ∙ bytes-append f (take i part.numbers) (drop i part.numbers) in
    omega arith

pub cut-part : (f : ℕ → Option Operation) (part : Closed) (i b : ℕ) → IsClosed f part → take i part.numbers ≡ below b part.numbers
    → IsClosed f record { numbers = take i part.numbers; bytes = part.bytes - bytes_of (ops_of f (drop i part.numbers)) }
cut-part f part i b closed front = record {
  order = subst (Ascend 0) (sym front) (ascend-filter (λ n. nat_lt n b) 0 part.numbers closed.order);
  bytes =
      let whole : part.bytes ≡ 9 + bytes_of (ops_of f part.numbers) = closed.bytes ∙ segment-length (ops_of f part.numbers) in
      let both : bytes_of (ops_of f part.numbers) ≡ bytes_of (ops_of f (take i part.numbers)) + bytes_of (ops_of f (drop i part.numbers)) =
      ap (λ (ns : List ℕ). bytes_of (ops_of f ns)) (sym (take-append-drop i part.numbers)) ∙ bytes-append f (take i part.numbers) (drop i part.numbers) in
      let short : length (segment_of_ops (ops_of f (take i part.numbers))) ≡ 9 + bytes_of (ops_of f (take i part.numbers)) = segment-length (ops_of f (take i part.numbers)) in
      omega arith;
}

pub cut-made : (f : ℕ → Option Operation) (part : Closed) (i b : ℕ) (slice numbers : List ℕ) (gone : ℕ) → IsClosed f part → take i slice ≡ below b slice → slice ≡ part.numbers
    → gone ≡ bytes_of (ops_of f (take (length slice - i) (drop i slice))) → numbers ≡ take i part.numbers → IsClosed f record { numbers = numbers; bytes = part.bytes - gone }
cut-made f part i b slice numbers gone closed front same went is =
    let all : gone ≡ bytes_of (ops_of f (drop i part.numbers)) = went ∙ (ap (λ (ns : List ℕ). bytes_of (ops_of f ns)) (take_rest slice i) ∙ ap (λ (ns : List ℕ). bytes_of (ops_of f (drop i ns))) same) in
    let cut : take i part.numbers ≡ below b part.numbers = subst (λ (ns : List ℕ). take i ns ≡ below b ns) same front in
    subst (λ k. IsClosed f record { numbers = numbers; bytes = part.bytes - k }) (sym all)
    (subst (λ (ns : List ℕ). IsClosed f record { numbers = ns; bytes = part.bytes - bytes_of (ops_of f (drop i part.numbers)) }) (sym is) (cut-part f part i b closed cut))

pub rest-within : (f : ℕ → Option Operation) (part : Closed) (i : ℕ) (slice : List ℕ) → IsClosed f part → slice ≡ part.numbers → bytes_of (ops_of f (take (length slice - i) (drop i slice))) ≤ part.bytes
rest-within f part i slice closed same =
    let all : bytes_of (ops_of f (take (length slice - i) (drop i slice))) ≡ bytes_of (ops_of f (drop i part.numbers)) =
    ap (λ (ns : List ℕ). bytes_of (ops_of f ns)) (take_rest slice i) ∙ ap (λ (ns : List ℕ). bytes_of (ops_of f (drop i ns))) same in
    let le : bytes_of (ops_of f (drop i part.numbers)) ≤ part.bytes = cut-within f part i closed in
    omega arith

-- where a binary search among ascending numbers ends: what stands before it is below, what stands from it on is not
ordering_rises : (x y b : ℕ) → x ≤ y → ordering_index (nat_cmp x b) ≤ ordering_index (nat_cmp y b)
ordering_rises x y b le =
    ordered (λ lt eq. ordering_index (cond lt Less (cond eq Equal Greater)) ≤ ordering_index (nat_cmp y b)) x b
    (λ lt. omega arith)
    (λ same. ordered (λ lt eq. 1 ≤ ordering_index (cond lt Less (cond eq Equal Greater))) y b (λ lt. absurd (omega arith)) (λ same. omega arith) (λ more. omega arith))
    (λ more. ordered (λ lt eq. 2 ≤ ordering_index (cond lt Less (cond eq Equal Greater))) y b (λ lt. absurd (omega arith)) (λ same. absurd (omega arith)) (λ more. omega arith))

pub searchable : (b : ℕ) (ns : List ℕ) → Ascend 0 ns → IsNonDecreasingBy (λ y. ordering_index (nat_cmp y b)) ns
searchable b ns up i j d le lt = ordering_rises (get_or ns i d) (get_or ns j d) b (ascend-le 0 d ns i j up le lt)

ascend-lt : (a d : ℕ) (ns : List ℕ) (i j : ℕ) → Ascend a ns → i < j → j < length ns → get_or ns i d < get_or ns j d
ascend-lt a d [] i j up le lt = absurd (omega arith)
ascend-lt a d (n ∷ ns) i zero up le lt = absurd (omega arith)
ascend-lt a d (n ∷ ns) zero (suc j) up le lt = let rest : n + 1 ≤ get_or ns j d = ascend-low (n + 1) d ns j up.1 (omega arith) in omega arith
ascend-lt a d (n ∷ ns) (suc i) (suc j) up le lt = ascend-lt (n + 1) d ns i j up.1 (omega arith) (omega arith)

equal_is : (k q : ℕ) → nat_cmp k q ≡ Equal → k ≡ q
equal_is k q = ordered (λ lt eq. cond lt Less (cond eq Equal Greater) ≡ Equal → k ≡ q) k q (λ lt is. cc) (λ same is. same) (λ more is. cc)

more_is : (k q : ℕ) → nat_cmp k q ≡ Greater → q < k
more_is k q = ordered (λ lt eq. cond lt Less (cond eq Equal Greater) ≡ Greater → q < k) k q (λ lt is. cc) (λ same is. cc) (λ more is. more)

pub found-below : (b i : ℕ) (ns : List ℕ) → Ascend 0 ns → i < length ns → HoldsAt (λ y. nat_cmp y b ≡ Equal) ns i → take i ns ≡ below b ns
found-below b i ns up within at =
    let own : get_or ns i 0 ≡ b = equal_is (get_or ns i 0) b (at 0) in
    take-below b i ns
    (λ k lt inside. let less : get_or ns k 0 < get_or ns i 0 = ascend-lt 0 0 ns k i up lt within in grind (arith, nat_tests))
    (λ k le inside. let more : get_or ns i 0 ≤ get_or ns k 0 = ascend-le 0 0 ns i k up le inside in grind (arith, nat_tests))

pub absent-below : (b i : ℕ) (ns : List ℕ) → Ascend 0 ns → (IsNonDecreasingBy (λ y. ordering_index (nat_cmp y b)) ns → IsPartitionPoint (λ y. nat_cmp y b ≡ Less) (λ y. nat_cmp y b ≡ Greater) ns i) → take i ns ≡ below b ns
absent-below b i ns up splits =
    let point : IsPartitionPoint (λ y. nat_cmp y b ≡ Less) (λ y. nat_cmp y b ≡ Greater) ns i = splits (searchable b ns up) in
    take-below b i ns
    (λ k lt inside. let less : get_or ns k 0 < b = less_is (get_or ns k 0) b (point.0 k 0 (omega arith) lt) in grind (arith, nat_tests))
    (λ k le inside. let more : b < get_or ns k 0 = more_is (get_or ns k 0) b (point.1 k 0 le inside) in grind (arith, nat_tests))

pub up-to-below : (b last : ℕ) (ns : List ℕ) → All (λ q. is_lt (nat_cmp last q) ≡ false) ns → last < b → AllByRecursion (λ n. n < b) ns
up-to-below b last [] all lt = tt
up-to-below b last (n ∷ ns) all lt =
    (let le : n ≤ last = ge_from_not_lt last n (all 0 0 (omega arith)) in omega arith, up-to-below b last ns (λ k d within. all (suc k) d (omega arith)) lt)

-- a claim on what is given, and the same claim in other words
pub ok_by : {T E : Type 0} (r : Result T E) (P Q : T → Type 0) → ((x : T) → P x → Q x) → IfOk r P → IfOk r Q
ok_by (Ok x) P Q step is = step x is
ok_by (Err e) P Q step is = tt

-- ---- closed parts while other operations change

pub ops-alike : (f g : ℕ → Option Operation) (ns : List ℕ) → ((q : ℕ) → 1 ≤ times q ns → g q ≡ f q) → ops_of g ns ≡ ops_of f ns
ops-alike f g [] same = refl
ops-alike f g (n ∷ ns) same =
    let own : (n == n) ≡ true = grind (arith, nat_tests) in
    let is : one (n == n) ≡ 1 = ap one own in
    let here : g n ≡ f n = same n (omega arith) in
    let rest : ops_of g ns ≡ ops_of f ns = ops-alike f g ns (λ q le. same q (omega arith)) in
    rw (here, rest) refl

pub part-alike : (f g : ℕ → Option Operation) (part : Closed) → IsClosed f part → ((q : ℕ) → 1 ≤ times q part.numbers → g q ≡ f q) → IsClosed g part
part-alike f g part closed same = record {
  order = closed.order;
  bytes = closed.bytes ∙ ap (λ (ops : List Operation). length (segment_of_ops ops)) (sym (ops-alike f g part.numbers same));
}

pub closed-alike : (f g : ℕ → Option Operation) (parts : List Closed) → ((q : ℕ) → 1 ≤ times q (all_numbers (lists_of parts)) → g q ≡ f q) → AllByRecursion (IsClosed f) parts → AllByRecursion (IsClosed g) parts
closed-alike f g [] same all = tt
closed-alike f g (part ∷ parts) same all =
    (part-alike f g part all.0 (λ q le. same q (first q le)), closed-alike f g parts (λ q le. same q (later q le)) all.1)
  where
    first : (q : ℕ) → 1 ≤ times q part.numbers → 1 ≤ times q (part.numbers ++ all_numbers (lists_of parts))
    first q le = let both : times q (part.numbers ++ all_numbers (lists_of parts)) ≡ times q part.numbers + times q (all_numbers (lists_of parts)) = times-append q part.numbers (all_numbers (lists_of parts)) in omega arith

    later : (q : ℕ) → 1 ≤ times q (all_numbers (lists_of parts)) → 1 ≤ times q (part.numbers ++ all_numbers (lists_of parts))
    later q le = let both : times q (part.numbers ++ all_numbers (lists_of parts)) ≡ times q part.numbers + times q (all_numbers (lists_of parts)) = times-append q part.numbers (all_numbers (lists_of parts)) in omega arith
