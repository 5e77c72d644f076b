-- What is shown of a store's parts: their sizes, their files, and the operation of the next number.
use Rattle.std.proofs.Common.{◌≡◌, ℕ, ◌<◌, ◌≤◌, ◌+◌, Bool, true, false, nat_lt, cond, Option, Some, None, is_some, List, [], ◌∷◌, ◌++◌, append_assoc, length, map, drop, get_or, refl, sym, ◌∙◌, ap, subst, arith}
use Rattle.std.specs.Prelude.{filter, flat_map}
use Rattle.std.specs.List.{cons_option, AllByRecursion}
use Rattle.std.specs.Option.{option_to_list}
use Rattle.std.specs.Ordering.{nat_cmp, is_gt, match_ordering}
use Rattle.std.specs.List.Sorted.{IsStrictlySortedBy}
use Rattle.std.specs.Map.{keys_of}
use Rattle.std.specs.BTreeMap.{insert_entry}
use Rattle.std.proofs.lemmas.Map.Keys.{sorted_head, sorted_tail}
use Rattle.std.specs.declared.cmp.Ordering.TheVariants.{Less, Equal, Greater}
use Rattle.std.proofs.lemmas.List.{drop_more, map-append}
use Rattle.std.proofs.lemmas.List.Elements.{filter-append}
use Rattle.ccr_op.specs.Operation.{Operation}
use Rattle.ccr_policy.specs.declared.PartSize.{PartSize}
use Rattle.ccr_segment.specs.Segment.{spelling as segment_of_ops}
use Rattle.ccr_model.specs.Stores.{held, one_part, files_below}
use Rattle.ccr_model.specs.Policies.{sizes_in, size_of_part}
use Rattle.ccr_store.specs.Kept.{ops_of, parts_of, store_of, kept_at, lists_of, part_size, files_of, numbers_of, Closed, IsClosed, IsFiled, IsNext}
use Rattle.ccr_store.proofs.Filing.{AreThere, all_numbers, there-from, there-append_front, there-append_back, length-ops, at-held, ordered}
use Rattle.ccr_store.proofs.Changes.{has-held}

sizes-from : (f : ℕ → Option Operation) (parts : List Closed) → AreThere f (all_numbers (lists_of parts)) → AllByRecursion (IsClosed f) parts → map part_size parts ≡ map {A = List Operation} {B = PartSize} size_of_part (parts_of f (lists_of parts))
sizes-from f [] there all = refl
sizes-from f (part ∷ parts) there all =
    let count : length part.numbers ≡ length (ops_of f part.numbers) = sym (length-ops f part.numbers (there-append_front f part.numbers (all_numbers (lists_of parts)) there)) in
    let rest : map part_size parts ≡ map {A = List Operation} {B = PartSize} size_of_part (parts_of f (lists_of parts)) = sizes-from f parts (there-append_back f part.numbers (all_numbers (lists_of parts)) there) all.1 in
    ap (λ (sizes : List PartSize). part_size part ∷ sizes) rest
    ∙ (ap (λ k. record { ops = k; bytes = part.bytes } ∷ map {A = List Operation} {B = PartSize} size_of_part (parts_of f (lists_of parts))) count
    ∙ ap (λ k. record { ops = length (ops_of f part.numbers); bytes = k } ∷ map {A = List Operation} {B = PartSize} size_of_part (parts_of f (lists_of parts))) all.0.bytes)

pub sizes-are : (ops : List (ℕ × Operation)) (parts : List Closed) (more : List ℕ) → IsFiled (kept_at ops) (lists_of parts) more → AllByRecursion (IsClosed (kept_at ops)) parts
    → map part_size parts ≡ sizes_in (store_of (kept_at ops) (lists_of parts) more)
sizes-are ops parts more filed all =
    sizes-from (kept_at ops) parts
    (there-append_front (kept_at ops) (all_numbers (lists_of parts)) more (there-from (kept_at ops) (numbers_of (lists_of parts) more) (numbers_of (lists_of parts) more) filed.once (λ q. omega arith))) all

-- ---- files

files-from : (f : ℕ → Option Operation) (count : ℕ) (parts : List (List ℕ)) → files_of f count parts ≡ flat_map {X = List Operation} {A = List Operation} (λ part. one_part (filter (λ op. nat_lt op.seq count) part)) (parts_of f parts)
files-from f count [] = refl
files-from f count (part ∷ parts) = ap (λ (files : List (List Operation)). one_part (filter (λ op. nat_lt op.seq count) (ops_of f part)) ++ files) (files-from f count parts)

pub files-are : (f : ℕ → Option Operation) (count : ℕ) (slice parts : List Closed) (fresh more : List ℕ) → slice ≡ parts → fresh ≡ more
    → (files_of f count (lists_of slice) ++ one_part (filter (λ op. nat_lt op.seq count) (ops_of f fresh))) ≡ files_below count (store_of f (lists_of parts) more)
files-are f count slice parts fresh more same last =
    ap (λ (ps : List Closed). files_of f count (lists_of ps) ++ one_part (filter (λ op. nat_lt op.seq count) (ops_of f fresh))) same
    ∙ (ap (λ (ns : List ℕ). files_of f count (lists_of parts) ++ one_part (filter (λ op. nat_lt op.seq count) (ops_of f ns))) last
    ∙ ap (λ (files : List (List Operation)). files ++ one_part (filter (λ op. nat_lt op.seq count) (ops_of f more))) (files-from f count (lists_of parts)))

pub files-turn : (f : ℕ → Option Operation) (count : ℕ) (parts : List Closed) (i : ℕ) (part : Closed) (slice : List ℕ) (before after total : List (List ℕ)) → i < length parts → part ≡ get_or parts i part → slice ≡ part.numbers
    → after ≡ before ++ map segment_of_ops (one_part (filter (λ op. nat_lt op.seq count) (ops_of f slice)))
    → before ++ map segment_of_ops (files_of f count (lists_of (drop i parts))) ≡ total → after ++ map segment_of_ops (files_of f count (lists_of (drop (i + 1) parts))) ≡ total
files-turn f count parts i part slice before after total lt item same pushed so_far =
    let here : files_of f count (lists_of (drop i parts)) ≡ one_part (filter (λ op. nat_lt op.seq count) (ops_of f part.numbers)) ++ files_of f count (lists_of (drop (i + 1) parts)) =
    ap (λ (ps : List Closed). files_of f count (lists_of ps)) (drop_more parts i part lt ∙ ap (λ (p : Closed). p ∷ drop (i + 1) parts) (sym item)) in
    let own : List (List Operation) = one_part (filter (λ op. nat_lt op.seq count) (ops_of f part.numbers)) in
    ap (λ (files : List (List ℕ)). files ++ map segment_of_ops (files_of f count (lists_of (drop (i + 1) parts)))) (pushed ∙ ap (λ (ns : List ℕ). before ++ map segment_of_ops (one_part (filter (λ op. nat_lt op.seq count) (ops_of f ns)))) same)
    ∙ (append_assoc before (map segment_of_ops own) (map segment_of_ops (files_of f count (lists_of (drop (i + 1) parts))))
    ∙ (ap (λ (files : List (List ℕ)). before ++ files) (sym (map-append segment_of_ops own (files_of f count (lists_of (drop (i + 1) parts)))))
    ∙ (ap (λ (files : List (List Operation)). before ++ map segment_of_ops files) (sym here) ∙ so_far)))

pub copies-turn : (f : ℕ → Option Operation) (p : Operation → Bool) (ns : List ℕ) (i : ℕ) (before after total : List Operation) → i < length ns → after ≡ before ++ filter p (option_to_list (f (get_or ns i 0)))
    → before ++ filter p (ops_of f (drop i ns)) ≡ total → after ++ filter p (ops_of f (drop (i + 1) ns)) ≡ total
copies-turn f p ns i before after total lt pushed so_far =
    ap (λ (xs : List Operation). xs ++ filter p (ops_of f (drop (i + 1) ns))) pushed
    ∙ (append_assoc before (filter p (option_to_list (f (get_or ns i 0)))) (filter p (ops_of f (drop (i + 1) ns)))
    ∙ (ap (λ (xs : List Operation). before ++ xs) (sym (split (f (get_or ns i 0)) (ops_of f (drop (i + 1) ns))))
    ∙ (sym (ap (λ (ks : List ℕ). before ++ filter p (ops_of f ks)) (drop_more ns i 0 lt)) ∙ so_far)))
  where
    split : (o : Option Operation) (xs : List Operation) → filter p (cons_option o xs) ≡ filter p (option_to_list o) ++ filter p xs
    split None xs = refl
    split (Some x) xs = filter-append p (x ∷ []) xs

-- ---- the next number

le_of : (k q : ℕ) → is_gt (nat_cmp k q) ≡ false → k ≤ q
le_of k q = ordered (λ lt eq. is_gt (cond lt Less (cond eq Equal Greater)) ≡ false → k ≤ q) k q (λ lt is. omega arith) (λ same is. omega arith) (λ more is. cc)

pub next-some : (f : ℕ → Option Operation) (parts : List (List ℕ)) (more : List ℕ) (n k : ℕ) (op : Operation) → IsFiled f parts more → is_gt (nat_cmp n k) ≡ false → f k ≡ Some op
    → ((q : ℕ) → is_gt (nat_cmp n q) ≡ false → is_some (f q) ≡ true → is_gt (nat_cmp k q) ≡ false) → IsNext n (held (store_of f parts more)) (Some op)
next-some f parts more n k op filed from is least =
    let own : op.seq ≡ k = filed.own k op is in (
      at-held f op.seq parts more filed ∙ subst (λ m. f m ≡ Some op) (sym own) is,
      (let le : n ≤ k = le_of n k from in omega arith),
      (λ q le there. let low : k ≤ q = le_of k q (least q (not_gt n q le) (sym (has-held f q parts more filed) ∙ there)) in omega arith),
    )
  where
    not_gt : (a b : ℕ) → a ≤ b → is_gt (nat_cmp a b) ≡ false
    not_gt a b le = ordered (λ lt eq. is_gt (cond lt Less (cond eq Equal Greater)) ≡ false) a b (λ lt. refl) (λ same. refl) (λ more. absurd (omega arith))

pub next-none : (f : ℕ → Option Operation) (parts : List (List ℕ)) (more : List ℕ) (n : ℕ) → IsFiled f parts more → ((q : ℕ) → is_gt (nat_cmp n q) ≡ false → f q ≡ None) → IsNext n (held (store_of f parts more)) None
next-none f parts more n filed none k le =
    has-held f k parts more filed ∙ ap (λ (o : Option Operation). is_some o) (none k (not_gt n k le))
  where
    not_gt : (a b : ℕ) → a ≤ b → is_gt (nat_cmp a b) ≡ false
    not_gt a b le = ordered (λ lt eq. is_gt (cond lt Less (cond eq Equal Greater)) ≡ false) a b (λ lt. refl) (λ same. refl) (λ more. absurd (omega arith))

-- ---- copies of entries, in their order

last_of : (P : ℕ → Type 0) (es : List (ℕ × Operation)) (k : ℕ) (v : Operation) (rest : List (ℕ × Operation)) → AllByRecursion P (keys_of (es ++ (k, v) ∷ rest)) → P k
last_of P [] k v rest all = all.0
last_of P (e ∷ es) k v rest all = last_of P es k v rest all.1

less_of : (k q : ℕ) → nat_cmp k q ≡ Less → k < q
less_of k q = ordered (λ lt eq. cond lt Less (cond eq Equal Greater) ≡ Less → k < q) k q (λ lt is. lt) (λ same is. cc) (λ more is. cc)

insert-last : (es : List (ℕ × Operation)) (k : ℕ) (v : Operation) (rest : List (ℕ × Operation)) → IsStrictlySortedBy nat_cmp (keys_of (es ++ (k, v) ∷ rest)) → insert_entry nat_cmp es k v ≡ es ++ (k, v) ∷ []
insert-last [] k v rest sorted = refl
insert-last (e ∷ es) k v rest sorted =
    let above : e.0 < k = less_of e.0 k (last_of (λ y. nat_cmp e.0 y ≡ Less) es k v rest (sorted_head nat_cmp e.0 (keys_of (es ++ (k, v) ∷ rest)) sorted)) in
    let deeper : insert_entry nat_cmp es k v ≡ es ++ (k, v) ∷ [] = insert-last es k v rest (sorted_tail nat_cmp e.0 (keys_of (es ++ (k, v) ∷ rest)) sorted) in
    ordered (λ lt eq. match_ordering (cond lt Less (cond eq Equal Greater)) ((k, v) ∷ e ∷ es) ((e.0, v) ∷ es) (e ∷ insert_entry nat_cmp es k v) ≡ e ∷ (es ++ (k, v) ∷ [])) k e.0
    (λ lt. absurd (omega arith)) (λ same. absurd (omega arith)) (λ more. ap (λ (xs : List (ℕ × Operation)). e ∷ xs) deeper)

pub copy-turn : (old new all rest left : List (ℕ × Operation)) (k : ℕ) (v : Operation) → IsStrictlySortedBy nat_cmp (keys_of all) → old ++ left ≡ all → left ≡ (k, v) ∷ rest → new ≡ insert_entry nat_cmp old k v → new ++ rest ≡ all
copy-turn old new all rest left k v sorted so_far first added =
    let whole : old ++ (k, v) ∷ rest ≡ all = ap (λ (xs : List (ℕ × Operation)). old ++ xs) (sym first) ∙ so_far in
    ap (λ (xs : List (ℕ × Operation)). xs ++ rest) (added ∙ insert-last old k v rest (subst (λ (xs : List (ℕ × Operation)). IsStrictlySortedBy nat_cmp (keys_of xs)) (sym whole) sorted))
    ∙ (append_assoc old ((k, v) ∷ []) rest ∙ whole)
