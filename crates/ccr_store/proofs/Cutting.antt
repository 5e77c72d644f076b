-- What a cut at a number leaves: of lists of numbers, of what is kept, and of the store that they stand for.
use Rattle.std.proofs.Common.{◌≡◌, ℕ, ◌<◌, ◌≤◌, ◌+◌, ◌==◌, suc, Bool, true, false, not, nat_lt, cond, if◌then◌else◌, Option, Some, None, is_some, List, [], ◌∷◌, ◌++◌, length, refl, sym, ◌∙◌, ap, subst, arith}
use Rattle.std.specs.Prelude.{filter, flat_map}
use Rattle.std.specs.List.{cons_option, AllByRecursion}
use Rattle.std.specs.Ordering.{nat_cmp, is_lt}
use Rattle.std.specs.Set.{remove_key}
use Rattle.std.specs.BTreeMap.{is_at}
use Rattle.std.specs.BTreeSet.{BTreeSet}
use Rattle.std.specs.Cmp.{unsigned_tied}
use Rattle.std.proofs.lemmas.Bool.Decides.{nat_tests}
use Rattle.std.proofs.lemmas.List.Elements.{filter-append}
use Rattle.std.proofs.lemmas.List.Sums.{length-filter}
use Rattle.std.proofs.lemmas.Map.Keys.{ge_from_not_lt}
use Rattle.ccr_op.specs.Operation.{Operation}
use Rattle.ccr_model.specs.Operations.{has_number}
use Rattle.ccr_model.specs.Stores.{Store, held, one_part, sifted}
use Rattle.ccr_model.specs.LeaderRows.{held_from}
use Rattle.ccr_store.specs.Kept.{ops_of, parts_of, numbers_of, store_of, kept_at, one, times, lists_of, below, cut_lists, part_if_any, Closed, IsBelow, IsClosed, IsFiled, IsIndexed, IsKept}
use Rattle.ccr_store.proofs.Filing.{AreThere, all_numbers, some_is, times-append, there-from, there-append_back}
use Rattle.ccr_store.proofs.Changes.{has-held, indexed-kept}
use Rattle.ccr_store.proofs.Lengths.{closed-alike}

-- ---- numbers

pub below-removed : (b : ℕ) (xs : List ℕ) (k : ℕ) → nat_lt k b ≡ false → below b (remove_key (is_at (nat_cmp k)) xs) ≡ below b xs
below-removed b [] k out = refl
below-removed b (x ∷ xs) k out =
    ap (λ (t : Bool). below b (cond t xs (x ∷ remove_key (is_at (nat_cmp k)) xs))) (unsigned_tied k x)
    ∙ (elim (k == x) as (λ t. (k == x) ≡ t → below b (cond t xs (x ∷ remove_key (is_at (nat_cmp k)) xs)) ≡ below b (x ∷ xs)) [
      | true ↦ λ same. let high : nat_lt x b ≡ false = grind (arith, nat_tests) in rw high refl
      | false ↦ λ other. (elim (nat_lt x b) as (λ t. cond t (x ∷ below b (remove_key (is_at (nat_cmp k)) xs)) (below b (remove_key (is_at (nat_cmp k)) xs)) ≡ cond t (x ∷ below b xs) (below b xs)) [
        | true ↦ ap (λ (ys : List ℕ). x ∷ ys) (below-removed b xs k out)
        | false ↦ below-removed b xs k out
      ])
    ]) refl

-- numbers that are all below the bound
pub below-all : (b : ℕ) (xs : List ℕ) → AllByRecursion (λ x. x < b) xs → below b xs ≡ xs
below-all b [] all = refl
below-all b (x ∷ xs) all = let low : nat_lt x b ≡ true = (let lt : x < b = all.0 in grind (arith, nat_tests)) in rw low (ap (λ (ys : List ℕ). x ∷ ys) (below-all b xs all.1))

pub times-below : (q b : ℕ) (ns : List ℕ) → times q (below b ns) ≡ (if nat_lt q b then times q ns else 0)
times-below q b [] = (elim (nat_lt q b) as (λ t. ◌≡◌ {A = ℕ} 0 (if t then 0 else 0)) [ true ↦ refl | false ↦ refl ])
times-below q b (n ∷ ns) =
    let rest : times q (below b ns) ≡ (if nat_lt q b then times q ns else 0) = times-below q b ns in
    (elim (nat_lt n b) as (λ t. nat_lt n b ≡ t → times q (cond t (n ∷ below b ns) (below b ns)) ≡ (if nat_lt q b then one (n == q) + times q ns else 0)) [
      | true ↦ λ low. (elim (nat_lt q b) as (λ t. nat_lt q b ≡ t → times q (below b ns) ≡ (if t then times q ns else 0) → one (n == q) + times q (below b ns) ≡ (if t then one (n == q) + times q ns else 0)) [
        | true ↦ λ is e. ap (λ k. one (n == q) + k) e
        | false ↦ λ is e. let apart : (n == q) ≡ false = grind (arith, nat_tests) in let none : one (n == q) ≡ 0 = ap one apart in omega arith
      ]) refl rest
      | false ↦ λ high. (elim (nat_lt q b) as (λ t. nat_lt q b ≡ t → times q (below b ns) ≡ (if t then times q ns else 0) → times q (below b ns) ≡ (if t then one (n == q) + times q ns else 0)) [
        | true ↦ λ is e. let apart : (n == q) ≡ false = grind (arith, nat_tests) in let none : one (n == q) ≡ 0 = ap one apart in omega arith
        | false ↦ λ is e. e
      ]) refl rest
    ]) refl

all-part_if_any : (ns : List ℕ) (rest : List (List ℕ)) → all_numbers (part_if_any (Some ns) ++ rest) ≡ ns ++ all_numbers rest
all-part_if_any [] rest = refl
all-part_if_any (n ∷ ns) rest = refl

pub times-cut : (q b : ℕ) (parts : List (List ℕ)) → times q (all_numbers (cut_lists b parts)) ≡ (if nat_lt q b then times q (all_numbers parts) else 0)
times-cut q b [] = (elim (nat_lt q b) as (λ t. ◌≡◌ {A = ℕ} 0 (if t then 0 else 0)) [ true ↦ refl | false ↦ refl ])
times-cut q b (part ∷ parts) =
    let all : times q (all_numbers (cut_lists b (part ∷ parts))) ≡ times q (below b part) + times q (all_numbers (cut_lists b parts)) =
    ap (times q) (all-part_if_any (below b part) (cut_lists b parts)) ∙ times-append q (below b part) (all_numbers (cut_lists b parts)) in
    let both : times q (part ++ all_numbers parts) ≡ times q part + times q (all_numbers parts) = times-append q part (all_numbers parts) in
    (elim (nat_lt q b) as (λ t. times q (below b part) ≡ (if t then times q part else 0) → times q (all_numbers (cut_lists b parts)) ≡ (if t then times q (all_numbers parts) else 0)
    → times q (all_numbers (cut_lists b (part ∷ parts))) ≡ (if t then times q (part ++ all_numbers parts) else 0)) [
      | true ↦ λ here there. omega arith
      | false ↦ λ here there. omega arith
    ]) (times-below q b part) (times-cut q b parts)

-- ---- what is kept

pub is-below : (f g : ℕ → Option Operation) (b q : ℕ) → IsBelow b f g → nat_lt q b ≡ true → g q ≡ f q
is-below f g b q cut low = cut q ∙ ap (λ (t : Bool). if t then f q else None) low

pub isnt-below : (f g : ℕ → Option Operation) (b q : ℕ) → IsBelow b f g → nat_lt q b ≡ false → g q ≡ None
isnt-below f g b q cut high = cut q ∙ ap (λ (t : Bool). if t then f q else None) high

pub none-above : (es : List (ℕ × Operation)) (last b : ℕ) → ((q : ℕ) → is_some (kept_at es q) ≡ true → is_lt (nat_cmp last q) ≡ false) → last < b → (q : ℕ) → nat_lt q b ≡ false → kept_at es q ≡ None
none-above es last b greatest low q high = by (kept_at es q) refl
  where
    by : (o : Option Operation) → kept_at es q ≡ o → o ≡ None
    by None is = refl
    by (Some x) is =
        let le : q ≤ last = ge_from_not_lt last q (greatest q (ap (λ (o : Option Operation). is_some o) is)) in
        absurd (let low_is : nat_lt q b ≡ true = grind (arith, nat_tests) in cc)

ops-below : (f g : ℕ → Option Operation) (b : ℕ) → ((k : ℕ) (x : Operation) → f k ≡ Some x → x.seq ≡ k) → IsBelow b f g → (ns : List ℕ) → ops_of g (below b ns) ≡ filter (λ op. nat_lt op.seq b) (ops_of f ns)
ops-below f g b own cut [] = refl
ops-below f g b own cut (n ∷ ns) =
    let rest : ops_of g (below b ns) ≡ filter (λ op. nat_lt op.seq b) (ops_of f ns) = ops-below f g b own cut ns in
    (elim (nat_lt n b) as (λ t. nat_lt n b ≡ t → ops_of g (cond t (n ∷ below b ns) (below b ns)) ≡ filter (λ op. nat_lt op.seq b) (cons_option (f n) (ops_of f ns))) [
      | true ↦ λ low. rw (is-below f g b n cut low) (kept low (f n) refl rest)
      | false ↦ λ high. rest ∙ sym (passed high (f n) refl)
    ]) refl
  where
    kept : nat_lt n b ≡ true → (o : Option Operation) → f n ≡ o → ops_of g (below b ns) ≡ filter (λ op. nat_lt op.seq b) (ops_of f ns)
        → cons_option o (ops_of g (below b ns)) ≡ filter (λ op. nat_lt op.seq b) (cons_option o (ops_of f ns))
    kept low None is rest = rest
    kept low (Some x) is rest = let at : nat_lt x.seq b ≡ true = ap (λ k. nat_lt k b) (own n x is) ∙ low in rw at (ap (λ (xs : List Operation). x ∷ xs) rest)

    passed : nat_lt n b ≡ false → (o : Option Operation) → f n ≡ o → filter (λ op. nat_lt op.seq b) (cons_option o (ops_of f ns)) ≡ filter (λ op. nat_lt op.seq b) (ops_of f ns)
    passed high None is = refl
    passed high (Some x) is = let at : nat_lt x.seq b ≡ false = ap (λ k. nat_lt k b) (own n x is) ∙ high in rw at refl

there-below : (f g : ℕ → Option Operation) (b : ℕ) → IsBelow b f g → (ns : List ℕ) → AreThere f ns → AreThere g (below b ns)
there-below f g b cut [] there = tt
there-below f g b cut (n ∷ ns) there =
    (elim (nat_lt n b) as (λ t. nat_lt n b ≡ t → AreThere g (cond t (n ∷ below b ns) (below b ns))) [
      | true ↦ λ low. (ap (λ (o : Option Operation). is_some o) (is-below f g b n cut low) ∙ there.0, there-below f g b cut ns there.1)
      | false ↦ λ high. there-below f g b cut ns there.1
    ]) refl

part-viewed : (g : ℕ → Option Operation) (ns : List ℕ) (rest : List (List ℕ)) → AreThere g ns → parts_of g (part_if_any (Some ns) ++ rest) ≡ one_part (ops_of g ns) ++ parts_of g rest
part-viewed g [] rest there = refl
part-viewed g (n ∷ ns) rest there = let first : (op : Operation) × (g n ≡ Some op) = some_is (g n) there.0 in rw first.1 refl

there-parts_front : (f : ℕ → Option Operation) (xs ys : List ℕ) → AreThere f (xs ++ ys) → AreThere f xs
there-parts_front f [] ys all = tt
there-parts_front f (x ∷ xs) ys all = (all.0, there-parts_front f xs ys all.1)

parts-cut : (f g : ℕ → Option Operation) (b : ℕ) → ((k : ℕ) (x : Operation) → f k ≡ Some x → x.seq ≡ k) → IsBelow b f g → (parts : List (List ℕ)) → AreThere f (all_numbers parts)
    → parts_of g (cut_lists b parts) ≡ flat_map {X = List Operation} {A = List Operation} (λ part. one_part (filter (λ op. nat_lt op.seq b) part)) (parts_of f parts)
parts-cut f g b own cut [] there = refl
parts-cut f g b own cut (part ∷ parts) there =
    part-viewed g (below b part) (cut_lists b parts) (there-below f g b cut part (there-parts_front f part (all_numbers parts) there))
    ∙ (ap (λ (ops : List Operation). one_part ops ++ parts_of g (cut_lists b parts)) (ops-below f g b own cut part)
    ∙ ap (λ (ps : List (List Operation)). one_part (filter (λ op. nat_lt op.seq b) (ops_of f part)) ++ ps) (parts-cut f g b own cut parts (there-append_back f part (all_numbers parts) there)))

-- ---- the store

pub store-cut : (f g : ℕ → Option Operation) (b : ℕ) (parts : List (List ℕ)) (more : List ℕ) → IsFiled f parts more → IsBelow b f g
    → store_of g (cut_lists b parts) (below b more) ≡ sifted (λ op. nat_lt op.seq b) (store_of f parts more)
store-cut f g b parts more filed cut =
    let there : AreThere f (numbers_of parts more) = there-from f (numbers_of parts more) (numbers_of parts more) filed.once (λ q. omega arith) in
    both (parts_of g (cut_lists b parts)) (flat_map {X = List Operation} {A = List Operation} (λ part. one_part (filter (λ op. nat_lt op.seq b) part)) (parts_of f parts))
    (ops_of g (below b more)) (filter (λ op. nat_lt op.seq b) (ops_of f more))
    (parts-cut f g b filed.own cut parts (there-parts_front f (all_numbers parts) more there)) (ops-below f g b filed.own cut more)
  where
    both : (a b : List (List Operation)) (c d : List Operation) → a ≡ b → c ≡ d → ◌≡◌ {A = Store} record { parts = a; open_part = c } record { parts = b; open_part = d }
    both a b c d p q = ap (λ (x : List (List Operation)). record { parts = x; open_part = c }) p ∙ ap (λ (y : List Operation). record { parts = b; open_part = y }) q

pub filed-cut : (f g : ℕ → Option Operation) (b : ℕ) (parts : List (List ℕ)) (more : List ℕ) → IsFiled f parts more → IsBelow b f g → IsFiled g (cut_lists b parts) (below b more)
filed-cut f g b parts more filed cut = record { own = own; once = once }
  where
    own : (n : ℕ) (op : Operation) → g n ≡ Some op → op.seq ≡ n
    own n op is =
        (elim (nat_lt n b) as (λ t. nat_lt n b ≡ t → op.seq ≡ n) [
          | true ↦ λ low. filed.own n op (sym (is-below f g b n cut low) ∙ is)
          | false ↦ λ high. let none : g n ≡ None = isnt-below f g b n cut high in cc
        ]) refl

    once : (q : ℕ) → times q (numbers_of (cut_lists b parts) (below b more)) ≡ one (is_some (g q))
    once q =
        let whole : times q (numbers_of (cut_lists b parts) (below b more)) ≡ times q (all_numbers (cut_lists b parts)) + times q (below b more) = times-append q (all_numbers (cut_lists b parts)) (below b more) in
        let before : times q (numbers_of parts more) ≡ times q (all_numbers parts) + times q more = times-append q (all_numbers parts) more in
        let was : times q (numbers_of parts more) ≡ one (is_some (f q)) = filed.once q in
        (elim (nat_lt q b) as (λ t. nat_lt q b ≡ t → times q (all_numbers (cut_lists b parts)) ≡ (if t then times q (all_numbers parts) else 0) → times q (below b more) ≡ (if t then times q more else 0)
        → times q (numbers_of (cut_lists b parts) (below b more)) ≡ one (is_some (g q))) [
          | true ↦ λ low closed last. let same : one (is_some (g q)) ≡ one (is_some (f q)) = ap (λ (o : Option Operation). one (is_some o)) (is-below f g b q cut low) in omega arith
          | false ↦ λ high closed last. let none : one (is_some (g q)) ≡ 0 = ap (λ (o : Option Operation). one (is_some o)) (isnt-below f g b q cut high) in omega arith
        ]) refl (times-cut q b parts) (times-below q b more)

-- the parts that were cut, once the operations themselves are gone
pub closed-cut : (f g : ℕ → Option Operation) (b : ℕ) (parts : List (List ℕ)) (shorter : List Closed) → IsBelow b f g → lists_of shorter ≡ cut_lists b parts → AllByRecursion (IsClosed f) shorter → AllByRecursion (IsClosed g) shorter
closed-cut f g b parts shorter cut are all = closed-alike f g shorter (λ q le. is-below f g b q cut (low q le)) all
  where
    low : (q : ℕ) → 1 ≤ times q (all_numbers (lists_of shorter)) → nat_lt q b ≡ true
    low q le =
        let is : times q (all_numbers (lists_of shorter)) ≡ (if nat_lt q b then times q (all_numbers parts) else 0) = ap (λ (ps : List (List ℕ)). times q (all_numbers ps)) are ∙ times-cut q b parts in
        (elim (nat_lt q b) as (λ t. times q (all_numbers (lists_of shorter)) ≡ (if t then times q (all_numbers parts) else 0) → t ≡ true) [
          | true ↦ λ e. refl
          | false ↦ λ e. absurd (omega arith)
        ]) is

pub kept-cut : (ops new : List (ℕ × Operation)) (b : ℕ) (parts shorter : List Closed) (more after : List ℕ) (ids left : List (List ℕ × BTreeSet ℕ)) → IsKept ops parts more ids → IsBelow b (kept_at ops) (kept_at new)
    → lists_of shorter ≡ cut_lists b (lists_of parts) → AllByRecursion (IsClosed (kept_at ops)) shorter → after ≡ below b more
    → ((numbers : List ℕ) → IsIndexed (kept_at ops) numbers ids → IsIndexed (kept_at new) numbers left) → IsKept new shorter after left
kept-cut ops new b parts shorter more after ids left kept cut are all last indexed = record {
  filed = subst (λ (ps : List (List ℕ)). IsFiled (kept_at new) ps after) (sym are)
      (subst (IsFiled (kept_at new) (cut_lists b (lists_of parts))) (sym last) (filed-cut (kept_at ops) (kept_at new) b (lists_of parts) more kept.filed cut));
  lists = (indexed (numbers_of (lists_of parts) more) (indexed-kept ops parts more ids kept)).lists;
  closed = closed-cut (kept_at ops) (kept_at new) b (lists_of parts) shorter cut are all;
}

pub view-cut : (f g : ℕ → Option Operation) (b : ℕ) (parts : List (List ℕ)) (shorter : List Closed) (more after : List ℕ) → IsFiled f parts more → IsBelow b f g
    → lists_of shorter ≡ cut_lists b parts → after ≡ below b more → store_of g (lists_of shorter) after ≡ sifted (λ op. nat_lt op.seq b) (store_of f parts more)
view-cut f g b parts shorter more after filed cut are last =
    ap (λ (ps : List (List ℕ)). store_of g ps after) are
    ∙ (ap (store_of g (cut_lists b parts)) last ∙ store-cut f g b parts more filed cut)

-- ---- how many go

length-both : (test : Operation → Bool) (ops : List Operation) → length (filter test ops) + length (filter (λ op. not (test op)) ops) ≡ length ops
length-both test [] = refl
length-both test (op ∷ ops) =
    let rest : length (filter test ops) + length (filter (λ op. not (test op)) ops) ≡ length ops = length-both test ops in
    (elim (test op) as (λ t. length (cond t (op ∷ filter test ops) (filter test ops)) + length (cond (not t) (op ∷ filter (λ op. not (test op)) ops) (filter (λ op. not (test op)) ops)) ≡ suc (length ops)) [
      | true ↦ omega arith
      | false ↦ omega arith
    ])

one_part-held : (ops : List Operation) (rest : List (List Operation)) → flat_map {X = List Operation} {A = Operation} (λ part. part) (one_part ops ++ rest) ≡ ops ++ flat_map {X = List Operation} {A = Operation} (λ part. part) rest
one_part-held [] rest = refl
one_part-held (op ∷ ops) rest = refl

in-sifted : (test : Operation → Bool) (parts : List (List Operation))
    → flat_map {X = List Operation} {A = Operation} (λ part. part) (flat_map {X = List Operation} {A = List Operation} (λ part. one_part (filter test part)) parts) ≡ filter test (flat_map {X = List Operation} {A = Operation} (λ part. part) parts)
in-sifted test [] = refl
in-sifted test (part ∷ parts) =
    one_part-held (filter test part) (flat_map {X = List Operation} {A = List Operation} (λ part. one_part (filter test part)) parts)
    ∙ (ap (λ (ops : List Operation). filter test part ++ ops) (in-sifted test parts)
    ∙ sym (filter-append test part (flat_map {X = List Operation} {A = Operation} (λ part. part) parts)))

held-sifted : (test : Operation → Bool) (s : Store) → held (sifted test s) ≡ filter test (held s)
held-sifted test s =
    ap (λ (ops : List Operation). ops ++ filter test s.open_part) (in-sifted test s.parts)
    ∙ sym (filter-append test (flat_map {X = List Operation} {A = Operation} (λ part. part) s.parts) s.open_part)

pub gone-are : (b gone before after : ℕ) (old new : Store) → before ≡ length (held old) → after ≡ length (held new) → new ≡ sifted (λ op. nat_lt op.seq b) old → after + gone ≡ before → gone ≡ held_from b old
gone-are b gone before after old new was is cut sum =
    let kept : length (held new) ≡ length (filter (λ op. nat_lt op.seq b) (held old)) = ap (λ (s : Store). length (held s)) cut ∙ ap length (held-sifted (λ op. nat_lt op.seq b) old) in
    let both : length (filter (λ op. nat_lt op.seq b) (held old)) + length (filter (λ op. not (nat_lt op.seq b)) (held old)) ≡ length (held old) = length-both (λ op. nat_lt op.seq b) (held old) in
    let count : length (filter (λ op. not (nat_lt op.seq b)) (held old)) ≡ held_from b old = length-filter (λ op. not (nat_lt op.seq b)) (held old) in
    omega arith

-- ---- what is held afterwards

pub below-held : (f g : ℕ → Option Operation) (b : ℕ) (parts after : List (List ℕ)) (more last : List ℕ) → IsFiled f parts more → IsFiled g after last → IsBelow b f g
    → (n : ℕ) → has_number (held (store_of g after last)) n ≡ true → (has_number (held (store_of f parts more)) n ≡ true) × (n < b)
below-held f g b parts after more last filed then_filed cut n there =
    let still : is_some (g n) ≡ true = sym (has-held g n after last then_filed) ∙ there in
    (elim (nat_lt n b) as (λ t. nat_lt n b ≡ t → (has_number (held (store_of f parts more)) n ≡ true) × (n < b)) [
      | true ↦ λ low. (has-held f n parts more filed ∙ (ap (λ (o : Option Operation). is_some o) (sym (is-below f g b n cut low)) ∙ still), grind (arith, nat_tests))
      | false ↦ λ high. absurd (let gone : is_some (g n) ≡ false = ap (λ (o : Option Operation). is_some o) (isnt-below f g b n cut high) in cc)
    ]) refl
