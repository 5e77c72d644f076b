-- Hits that are passed over and taken one by one.
use Rattle.std.specs.List.{AllByRecursion, flat_map, sum}
use Rattle.std.proofs.Common.{◌≡◌, ℕ, zero, suc, ◌+◌, ◌-◌, ◌<◌, ◌≤◌, ℤ, is_lt, Ordering, Option, Some, None, Result, Ok, Err, IfOk, OnOk, List, [], ◌∷◌, ◌++◌, length, map, take, drop, slice_get, slice_set, slice_index_or, refl, sym, ◌∙◌, ap, subst, append_assoc, arith}
use Rattle.std.proofs.lemmas.List.{append-nil, length-map}
use Rattle.std.proofs.lemmas.List.Sums.{sum_by-cons}
use Rattle.ccr_doc.specs.declared.scalars.Scalar.{Scalar}
use Rattle.ccr_query.specs.Answers.{HitsOfShard}
use Rattle.ccr_query.specs.declared.answers.Hit.{Hit}
use Rattle.ccr_query.specs.declared.sorting.SortKey.{SortKey}
use Rattle.ccr_model.specs.Answers.{AreInOrder}
use Rattle.ccr_model.specs.Searches.{fields_of_hit, sorted_hits}
use Rattle.ccr_law_base.proofs.Lists.{some_equal, drop-zero, All-take, All-append, All-map, All-weaker}
use Rattle.ccr_law_stores.specs.ShardsJoined.{FrontOfShard, front_of, joined}
use Rattle.ccr_search.specs.Ranks.{rank_cmp, values_in}
use Rattle.ccr_search.specs.Joined.{checkpoint_of, count_of, leads, rests_in, sorted_rests, said_by, AreInOrderEach, AreSorted, AreFirstValues, IsFirstOf, IsTaken, IsSkipped}
use Rattle.ccr_search.specs.declared.fronts.Front.{Front}
use Rattle.ccr_search.specs.declared.joining.Answer.{Answer}
use Rattle.ccr_search.proofs.RankOrder.{rank_is}
use Rattle.ccr_search.proofs.Merges.{taken_first}

-- ---- lists

pub take_whole : {X : Type 0} (xs : List X) (n : ℕ) → length xs ≤ n → take n xs ≡ xs
take_whole [] zero low = refl
take_whole [] (suc n) low = refl
take_whole (x ∷ xs) zero low = absurd (omega arith)
take_whole (x ∷ xs) (suc n) low = ap (λ rest. x ∷ rest) (take_whole xs n (omega arith))

drop-nil : {X : Type 0} (n : ℕ) → drop {A = X} n [] ≡ []
drop-nil zero = refl
drop-nil (suc n) = refl

take-nil : {X : Type 0} (n : ℕ) → take {A = X} n [] ≡ []
take-nil zero = refl
take-nil (suc n) = refl

first_some : {X : Type 0} (xs : List X) (x : X) → slice_get xs 0 ≡ Some x → xs ≡ x ∷ drop 1 xs
first_some [] x is = absurd (cc)
first_some (y ∷ xs) x is = ap (λ z. z ∷ xs) (some_equal y x is) ∙ ap (λ rest. x ∷ rest) (sym (drop-zero xs))

first_none : {X : Type 0} (xs : List X) → slice_get xs 0 ≡ None → xs ≡ []
first_none [] is = refl
first_none (x ∷ xs) is = absurd (cc)

drop-one : {X : Type 0} (k : ℕ) (xs : List X) → drop 1 (drop k xs) ≡ drop (k + 1) xs
drop-one k xs = by k xs ∙ ap (λ n. drop n xs) next
  where
    next : suc k ≡ k + 1
    next = omega arith

    by : {X : Type 0} (k : ℕ) (xs : List X) → drop 1 (drop k xs) ≡ drop (suc k) xs
    by zero xs = ap (drop 1) (drop-zero xs)
    by (suc k) [] = refl
    by (suc k) (x ∷ xs) = by k xs

drop-more : {X : Type 0} (k n : ℕ) (xs : List X) → drop k xs ≡ [] → k ≤ n → drop n xs ≡ []
drop-more zero n xs none low = ap (drop n) (sym (drop-zero xs) ∙ none) ∙ drop-nil n
drop-more (suc k) n [] none low = drop-nil n
drop-more (suc k) zero (x ∷ xs) none low = absurd (omega arith)
drop-more (suc k) (suc n) (x ∷ xs) none low = drop-more k n xs none (omega arith)

pub total_next : {X : Type 0} (f : X → ℕ) (xs : List X) (i : ℕ) (d : X) → i < length xs → sum (map f (take (i + 1) xs)) ≡ sum (map f (take i xs)) + f (slice_index_or xs i d)
total_next f xs i d low = ap (λ n. sum (map f (take n xs))) next ∙ by f xs i d low
  where
    next : i + 1 ≡ suc i
    next = omega arith

    by : {X : Type 0} (f : X → ℕ) (xs : List X) (i : ℕ) (d : X) → i < length xs → sum (map f (take (suc i) xs)) ≡ sum (map f (take i xs)) + f (slice_index_or xs i d)
    by f [] i d low = absurd (omega arith)
    by f (x ∷ xs) zero d low =
        let e : sum (f x ∷ map f (take zero xs)) ≡ f x + sum (map f (take zero xs)) = sum_by-cons (λ n. n) (f x) (map f (take zero xs)) in
        let none : take zero xs ≡ [] = take_none xs in
        e ∙ ap (λ rest. f x + sum (map f rest)) none ∙ swapped (f x)
      where
        take_none : {X : Type 0} (xs : List X) → take zero xs ≡ []
        take_none [] = refl
        take_none (x ∷ xs) = refl

        swapped : (n : ℕ) → n + sum [] ≡ sum [] + n
        swapped n = omega arith
    by f (x ∷ xs) (suc i) d low =
        let a : sum (f x ∷ map f (take (suc i) xs)) ≡ f x + sum (map f (take (suc i) xs)) = sum_by-cons (λ n. n) (f x) (map f (take (suc i) xs)) in
        let b : sum (f x ∷ map f (take i xs)) ≡ f x + sum (map f (take i xs)) = sum_by-cons (λ n. n) (f x) (map f (take i xs)) in
        let ih : sum (map f (take (suc i) xs)) ≡ sum (map f (take i xs)) + f (slice_index_or xs i d) = by f xs i d (omega arith) in
        omega arith

-- what follows from a claim on the value and one on what is left, where a call succeeds
pub if_ok_on_ok : {T E : Type 0} (r : Result T E) (P R : T → Type 0) (Q : Type 0) → ((x : T) → P x → Q → R x) → IfOk r P → OnOk r Q → IfOk r R
if_ok_on_ok (Ok x) P R Q step p q = step x p q
if_ok_on_ok (Err e) P R Q step p q = tt

-- ---- which front leads

pub leads_is : (keys : List SortKey) (front other : List Hit) (own others : List (Option Scalar)) (hit than : Hit) → Some hit ≡ slice_get front 0 → Some than ≡ slice_get other 0
    → AreFirstValues keys front own → AreFirstValues keys other others → leads keys front other ≡ is_lt (rank_cmp keys own hit.id others than.id)
leads_is keys [] other own others hit than first second mine theirs = absurd (cc)
leads_is keys (h ∷ front) [] own others hit than first second mine theirs = absurd (cc)
leads_is keys (h ∷ front) (x ∷ other) own others hit than first second mine theirs =
    let same : h ≡ hit = some_equal h hit (sym first) in
    let alike : x ≡ than = some_equal x than (sym second) in
    ap is_lt (sym (rank_is keys h.id x.id (fields_of_hit h) (fields_of_hit x)))
    ∙ ap (λ (values : List (Option Scalar)). is_lt (rank_cmp keys values h.id (values_in keys (fields_of_hit x)) x.id)) (sym mine)
    ∙ ap (λ (values : List (Option Scalar)). is_lt (rank_cmp keys own h.id values x.id)) (sym theirs)
    ∙ ap (λ (z : Hit). is_lt (rank_cmp keys own z.id others x.id)) same
    ∙ ap (λ (z : Hit). is_lt (rank_cmp keys own hit.id others z.id)) alike

pub rests_some : (fronts : List Front) (n : ℕ) → n < length fronts → (list : List Hit) × (slice_get (rests_in fronts) n ≡ Some list)
rests_some [] n low = absurd (omega arith)
rests_some (f ∷ fronts) zero low = (f.hits.now, refl)
rests_some (f ∷ fronts) (suc n) low = rests_some fronts n (omega arith)

pub rests_at : (fronts : List Front) (n : ℕ) (d : Front) → n < length fronts → slice_get (rests_in fronts) n ≡ Some (slice_index_or fronts n d).hits.now
rests_at [] n d low = absurd (omega arith)
rests_at (f ∷ fronts) zero d low = refl
rests_at (f ∷ fronts) (suc n) d low = rests_at fronts n d (omega arith)

pub rests_of : (fronts : List Front) (n : ℕ) (front : Front) → front ≡ slice_index_or fronts n front → n < length fronts → slice_get (rests_in fronts) n ≡ Some front.hits.now
rests_of fronts n front is low = rests_at fronts n front low ∙ ap (λ (f : Front). Some f.hits.now) (sym is)

rests-set : (fronts : List Front) (n : ℕ) (front : Front) → rests_in (slice_set fronts n front) ≡ slice_set (rests_in fronts) n front.hits.now
rests-set [] zero front = refl
rests-set [] (suc n) front = refl
rests-set (f ∷ fronts) zero front = refl
rests-set (f ∷ fronts) (suc n) front = ap (λ (rests : List (List Hit)). f.hits.now ∷ rests) (rests-set fronts n front)

-- the front at the first place gives its first hit
pub taken_at : (keys : List SortKey) (fronts : List Front) (place : ℕ) (d new : Front) (taken : Option Hit) → IsFirstOf keys (rests_in fronts) (length fronts) place → place < length fronts
    → taken ≡ slice_get (slice_index_or fronts place d).hits.now 0 → new.hits.now ≡ drop 1 (slice_index_or fronts place d).hits.now
    → AreSorted keys (rests_in fronts) → IsTaken keys (rests_in fronts) (rests_in (slice_set fronts place new)) taken
taken_at keys fronts place d new taken first low hit left sorted =
    let here : List Hit = (slice_index_or fronts place d).hits.now in
    let same : length fronts ≡ length (rests_in fronts) = sym (length-map fronts (λ (f : Front). f.hits.now)) in
    let done : IsTaken keys (rests_in fronts) (slice_set (rests_in fronts) place (drop 1 here)) (slice_get here 0) =
    taken_first keys (rests_in fronts) place here (subst (λ (n : ℕ). IsFirstOf keys (rests_in fronts) n place) same first) (rests_at fronts place d low) sorted in
    subst (λ (o : Option Hit). IsTaken keys (rests_in fronts) (rests_in (slice_set fronts place new)) o) (sym hit)
    (subst (λ (rests : List (List Hit)). IsTaken keys (rests_in fronts) rests (slice_get here 0))
    (sym (rests-set fronts place new ∙ ap (slice_set (rests_in fronts) place) left)) done)

pub none_at_all : (keys : List SortKey) (fronts : List Front) → length fronts ≡ 0 → IsTaken keys (rests_in fronts) (rests_in fronts) None
none_at_all keys [] none = record { sorted = tt; first = refl; left = refl }
none_at_all keys (f ∷ fronts) some = absurd (omega arith)

-- ---- fronts of what is in order

order-take : (keys : List SortKey) (n : ℕ) (hits : List Hit) → AreInOrder keys hits → AreInOrder keys (take n hits)
order-take keys zero [] order = tt
order-take keys zero (hit ∷ hits) order = tt
order-take keys (suc n) [] order = tt
order-take keys (suc n) (hit ∷ hits) order = (All-take _ n hits order.0, order-take keys n hits order.1)

pub fronts_sorted : (keys : List SortKey) (n : ℕ) (parts : List HitsOfShard) → AreInOrderEach keys parts → AreSorted keys (map {A = HitsOfShard} {B = List Hit} (λ part. take n part.hits) parts)
fronts_sorted keys n [] order = tt
fronts_sorted keys n (part ∷ parts) order = (order-take keys n part.hits order.0, fronts_sorted keys n parts order.1)

-- ---- passing over

pub skipped-none : (keys : List SortKey) (rests : List (List Hit)) → AreSorted keys rests → IsSkipped keys rests rests 0
skipped-none keys rests sorted = record { sorted = sorted; left = sym (drop-zero (sorted_rests keys rests)) }

pub skipped-more : (keys : List SortKey) (old mid new : List (List Hit)) (n : ℕ) (taken : Option Hit) → IsSkipped keys old mid n → IsTaken keys mid new taken → IsSkipped keys old new (n + 1)
skipped-more keys old mid new n taken s t =
    record { sorted = t.sorted; left = t.left ∙ ap (drop 1) s.left ∙ drop-one n (sorted_rests keys old) }

pub skipped-end : (keys : List SortKey) (old mid new : List (List Hit)) (n count : ℕ) → IsSkipped keys old mid n → IsTaken keys mid new None → n ≤ count → IsSkipped keys old new count
skipped-end keys old mid new n count s t low =
    let none : sorted_rests keys mid ≡ [] = first_none (sorted_rests keys mid) (sym t.first) in
    record { sorted = t.sorted; left = t.left ∙ ap (drop 1) none ∙ sym (drop-more n count (sorted_rests keys old) (sym s.left ∙ none) low) }

-- ---- taking

pub record IsPaged (keys : List SortKey) (old new : List (List Hit)) (hits : List Hit) (n count : ℕ) : Type 0 where
  pub sorted : AreSorted keys new
  pub whole : hits ++ take (count - n) (sorted_rests keys new) ≡ take count (sorted_rests keys old)

pub paged-none : (keys : List SortKey) (rests : List (List Hit)) (count : ℕ) → AreSorted keys rests → IsPaged keys rests rests [] 0 count
paged-none keys rests count sorted =
    let same : count - 0 ≡ count = omega arith in
    record { sorted = sorted; whole = ap (λ n. take n (sorted_rests keys rests)) same }

pub paged-more : (keys : List SortKey) (old mid new : List (List Hit)) (hits : List Hit) (hit : Hit) (n count : ℕ) → n < count → IsPaged keys old mid hits n count → IsTaken keys mid new (Some hit)
    → IsPaged keys old new (hits ++ hit ∷ []) (n + 1) count
paged-more keys old mid new hits hit n count low p t = record {
  sorted = t.sorted;
  whole = append_assoc hits (hit ∷ []) (take (count - (n + 1)) (sorted_rests keys new))
      ∙ ap (λ (rest : List Hit). hits ++ hit ∷ take (count - (n + 1)) rest) t.left
      ∙ ap (λ (rest : List Hit). hits ++ rest) (sym step)
      ∙ p.whole;
}
  where
    all : sorted_rests keys mid ≡ hit ∷ drop 1 (sorted_rests keys mid)
    all = first_some (sorted_rests keys mid) hit (sym t.first)

    one : count - n ≡ suc (count - (n + 1))
    one = omega arith

    step : take (count - n) (sorted_rests keys mid) ≡ hit ∷ take (count - (n + 1)) (drop 1 (sorted_rests keys mid))
    step = ap (λ (hits : List Hit). take (count - n) hits) all ∙ ap (λ m. take m (hit ∷ drop 1 (sorted_rests keys mid))) one

pub paged-end : (keys : List SortKey) (old mid new : List (List Hit)) (hits : List Hit) (n count : ℕ) → IsPaged keys old mid hits n count → IsTaken keys mid new None → hits ≡ take count (sorted_rests keys old)
paged-end keys old mid new hits n count p t =
    let none : sorted_rests keys mid ≡ [] = first_none (sorted_rests keys mid) (sym t.first) in
    sym (append-nil hits) ∙ ap (λ (rest : List Hit). hits ++ rest) (sym (ap (take (count - n)) none ∙ take-nil (count - n))) ∙ p.whole

pub paged-all : (keys : List SortKey) (old new : List (List Hit)) (hits : List Hit) (n count : ℕ) → count ≤ n → IsPaged keys old new hits n count → hits ≡ take count (sorted_rests keys old)
paged-all keys old new hits n count high p =
    let over : count - n ≡ 0 = omega arith in
    sym (append-nil hits) ∙ ap (λ (rest : List Hit). hits ++ rest) (sym (ap (λ m. take m (sorted_rests keys new)) over ∙ take-none (sorted_rests keys new))) ∙ p.whole
  where
    take-none : {X : Type 0} (xs : List X) → take 0 xs ≡ []
    take-none [] = refl
    take-none (x ∷ xs) = refl

-- ---- the answer, by counts

count_back : (count : ℕ) → count_of (checkpoint_of count) ≡ count
count_back zero = refl
count_back (suc n) = grind arith

counts_are : (most : ℕ) (parts : List HitsOfShard)
    → map count_of (map {A = HitsOfShard} {B = ℤ} (λ part. checkpoint_of part.count) parts) ≡ map {A = FrontOfShard} {B = ℕ} (λ shard. shard.count) (map (front_of most) parts)
counts_are most [] = refl
counts_are most (part ∷ parts) = ap (λ n. n ∷ map count_of (map {A = HitsOfShard} {B = ℤ} (λ part. checkpoint_of part.count) parts)) (count_back part.count) ∙ ap (λ ns. part.count ∷ ns) (counts_are most parts)

gaps_are : (most : ℕ) (parts : List HitsOfShard) → map (λ part. part.gap) parts ≡ map (λ (shard : FrontOfShard). shard.gap) (map (front_of most) parts)
gaps_are most [] = refl
gaps_are most (part ∷ parts) = ap (λ gaps. part.gap ∷ gaps) (gaps_are most parts)

totals_are : (most : ℕ) (parts : List HitsOfShard) → map (λ part. length part.hits) parts ≡ map (λ (shard : FrontOfShard). shard.total) (map (front_of most) parts)
totals_are most [] = refl
totals_are most (part ∷ parts) = ap (λ totals. length part.hits ∷ totals) (totals_are most parts)

rests_are : (most : ℕ) (parts : List HitsOfShard)
    → flat_map {X = List Hit} {A = Hit} (λ rest. rest) (map {A = HitsOfShard} {B = List Hit} (λ part. take most part.hits) parts)
    ≡ flat_map {X = FrontOfShard} {A = Hit} (λ shard. shard.hits) (map (front_of most) parts)
rests_are most [] = refl
rests_are most (part ∷ parts) = ap (λ (hits : List Hit). take most part.hits ++ hits) (rests_are most parts)

pub said_joined : (a : Answer) (keys : List SortKey) (from size : ℕ) (parts : List HitsOfShard)
    → a.checkpoints.items ≡ map (λ part. checkpoint_of part.count) parts → a.gaps.items ≡ map (λ part. part.gap) parts → a.total ≡ sum (map (λ part. length part.hits) parts)
    → a.hits.items ≡ take size (drop from (sorted_rests keys (map {A = HitsOfShard} {B = List Hit} (λ part. take (from + size) part.hits) parts)))
    → said_by a ≡ joined keys from size (map (front_of (from + size)) parts)
said_joined a keys from size parts checkpoints gaps total hits = λ i. record {
  counts = (ap (map count_of) checkpoints ∙ counts_are (from + size) parts) i;
  gaps = (gaps ∙ gaps_are (from + size) parts) i;
  hits = (hits ∙ ap (λ (all : List Hit). take size (drop from (sorted_hits keys all))) (rests_are (from + size) parts)) i;
  total = (total ∙ ap sum (totals_are (from + size) parts)) i;
}
