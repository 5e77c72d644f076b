-- The fronts of the answers of several shards come to what a search of them all has to answer.
use Rattle.std.specs.Cmp.{IsTotalOrder}
use Rattle.std.specs.List.{AllByRecursion, flat_map, sum}
use Rattle.std.specs.Ordering.{ordering_reverse}
use Rattle.std.proofs.Common.{◌≡◌, ◌⊎◌, inl, inr, ◌↔◌, ℕ, zero, suc, ◌+◌, ◌≤◌, ◌<◌, Bool, true, false, is_lt, Ordering, Less, Equal, Greater, Some, IsTrue, List, [], ◌∷◌, ◌++◌, map, length, take, drop, slice_get, refl, sym, ◌∙◌, ap, subst, arith}
use Rattle.std.proofs.lemmas.Cmp.{on_total, alike_right}
use Rattle.std.proofs.lemmas.List.{length-map, take-map, drop-map, drop-take, map-append}
use Rattle.std.proofs.lemmas.List.Concat.{length-flat_map}
use Rattle.std.proofs.lemmas.List.Folds.{flat_map-map}
use Rattle.std.proofs.lemmas.List.Sums.{sum-map}
use Rattle.std.proofs.lemmas.Simd.{map-map}
use Rattle.ccr_op.specs.Operation.{Operation}
use Rattle.ccr_query.specs.Answers.{HitsOfShard}
use Rattle.ccr_query.specs.Queries.{Tree}
use Rattle.ccr_query.specs.declared.answers.Hit.{Hit}
use Rattle.ccr_query.specs.declared.sorting.SortKey.{SortKey}
use Rattle.ccr_model.specs.Searches.{sorted_hits}
use Rattle.ccr_model.specs.Answers.{IsIn, IsCount, HasAbove, IsAnswer, AreInOrder}
use Rattle.ccr_model.specs.SeveralShards.{ShardHit, StandsBefore, StandInOrder, IsHitOfShard}
use Rattle.ccr_law_base.proofs.Lists.{All-weaker, All-every, All-map, All-append, All-places, get_within, some_equal}
use Rattle.ccr_law_stores.specs.ShardsJoined.{FrontOfShard, front_of, FrontsJoin, JoinsTwo}
use Rattle.ccr_law_stores.proofs.Counting.{in-append_front}
use Rattle.ccr_law_stores.proofs.Insertions.{Pairwise, Pairwise-weaker, Pairwise-map, Pairwise-append, Refines, Follows, put_all, in_put_all, put_all_in, length-put_all, map-put_all, pairwise_all, none_before, front_of_sorted}
use Rattle.ccr_law_stores.proofs.SearchOrders.{order_of, hit_total}
use Rattle.ccr_law_stores.proofs.SearchSorts.{GoesBefore, order_in_pairs, sorted_put}

-- ---- hits with their shards

abbrev of_shard : ℕ → Hit → ShardHit
of_shard shard hit = record { shard = shard; hit = hit }

-- the hits of the answers, one after another, the first answer being of this shard
abbrev told : ℕ → List HitsOfShard → List ShardHit
told shard [] = []
told shard (answer ∷ answers) = map (of_shard shard) answer.hits ++ told (suc shard) answers

-- the keys, and then the ids, alone
abbrev by_hit : List SortKey → ShardHit → ShardHit → Ordering
by_hit keys a b = order_of keys a.hit b.hit

by_hit_total : (keys : List SortKey) → IsTotalOrder (by_hit keys)
by_hit_total keys = on_total {K = ShardHit} {J = Hit} (λ at. at.hit) {R = order_of keys} (hit_total keys)

abbrev all_of : List SortKey → List HitsOfShard → List ShardHit
all_of keys answers = put_all (by_hit keys) [] (told zero answers)

hits_told : (shard : ℕ) (answers : List HitsOfShard) → map (λ (at : ShardHit). at.hit) (told shard answers) ≡ flat_map {X = HitsOfShard} {A = Hit} (λ answer. answer.hits) answers
hits_told shard [] = refl
hits_told shard (answer ∷ answers) =
    map-append (λ (at : ShardHit). at.hit) (map (of_shard shard) answer.hits) (told (suc shard) answers)
    ∙ ap (λ (hits : List Hit). hits ++ map (λ (at : ShardHit). at.hit) (told (suc shard) answers)) (own shard answer.hits)
    ∙ ap (λ (hits : List Hit). answer.hits ++ hits) (hits_told (suc shard) answers)
  where
    own : (shard : ℕ) (hits : List Hit) → map (λ (at : ShardHit). at.hit) (map (of_shard shard) hits) ≡ hits
    own shard [] = refl
    own shard (hit ∷ hits) = ap (λ (rest : List Hit). hit ∷ rest) (own shard hits)

-- sorted with their shards, they are the hits sorted
hits_sorted : (keys : List SortKey) (answers : List HitsOfShard)
    → map (λ (at : ShardHit). at.hit) (all_of keys answers) ≡ put_all (order_of keys) [] (flat_map {X = HitsOfShard} {A = Hit} (λ answer. answer.hits) answers)
hits_sorted keys answers =
    map-put_all (λ (at : ShardHit). at.hit) (order_of keys) (told zero answers) [] ∙ ap (put_all (order_of keys) []) (hits_told zero answers)

-- ---- order

refines : (keys : List SortKey) → Refines (by_hit keys) (StandsBefore keys)
refines keys = record { less = λ x y is. inl is; past = past }
  where
    past : (x y z : ShardHit) → by_hit keys x y ≡ Less → StandsBefore keys y z → by_hit keys x z ≡ Less
    past x y z before (inl later) = (by_hit_total keys).trans x y z before later
    past x y z before (inr tied) = sym (alike_right (by_hit_total keys) y z x tied.0) ∙ before

-- of a later shard
later_follows : (keys : List SortKey) (x y : ShardHit) → x.shard < y.shard → Follows (by_hit keys) (StandsBefore keys) x y
later_follows keys x y lower isnt =
    (elim (by_hit keys x y) as (λ (o : Ordering). by_hit keys x y ≡ o → StandsBefore keys x y) [
      | Less ↦ λ is. inl is
      | Equal ↦ λ is. inr (is, lower)
      | Greater ↦ λ is.
          let back : by_hit keys y x ≡ Less = (by_hit_total keys).antisymm y x ∙ ap ordering_reverse is in
          let never : true ≡ false = sym (ap is_lt back) ∙ isnt in cc
    ]) refl

own_shard : (shard : ℕ) (hits : List Hit) → AllByRecursion (λ (at : ShardHit). shard ≤ at.shard) (map (of_shard shard) hits)
own_shard shard hits = All-map (λ (at : ShardHit). shard ≤ at.shard) (of_shard shard) hits (All-every (λ (hit : Hit). shard ≤ shard) (λ hit. omega arith) hits)

shards_from : (shard : ℕ) (answers : List HitsOfShard) → AllByRecursion (λ (at : ShardHit). shard ≤ at.shard) (told shard answers)
shards_from shard [] = tt
shards_from shard (answer ∷ answers) =
    All-append (λ (at : ShardHit). shard ≤ at.shard) (map (of_shard shard) answer.hits) (told (suc shard) answers) (own_shard shard answer.hits)
    (All-weaker (λ (at : ShardHit). suc shard ≤ at.shard) (λ (at : ShardHit). shard ≤ at.shard) (λ at low. omega arith) (told (suc shard) answers) (shards_from (suc shard) answers))

told_follow : (keys : List SortKey) (shard : ℕ) (answers : List HitsOfShard) → AllByRecursion (λ (answer : HitsOfShard). AreInOrder keys answer.hits) answers
    → Pairwise (Follows (by_hit keys) (StandsBefore keys)) (told shard answers)
told_follow keys shard [] order = tt
told_follow keys shard (answer ∷ answers) order =
    Pairwise-append (Follows (by_hit keys) (StandsBefore keys)) (map (of_shard shard) answer.hits) (told (suc shard) answers)
    (Pairwise-map (Follows (by_hit keys) (StandsBefore keys)) (of_shard shard) answer.hits
    (Pairwise-weaker (GoesBefore keys) (λ a b. Follows (by_hit keys) (StandsBefore keys) (of_shard shard a) (of_shard shard b)) (λ a b before isnt. inl before) answer.hits
    (order_in_pairs keys answer.hits order.0)))
    (told_follow keys (suc shard) answers order.1)
    (All-map (λ (x : ShardHit). AllByRecursion (Follows (by_hit keys) (StandsBefore keys) x) (told (suc shard) answers)) (of_shard shard) answer.hits
    (All-every (λ (hit : Hit). AllByRecursion (Follows (by_hit keys) (StandsBefore keys) (of_shard shard hit)) (told (suc shard) answers))
    (λ hit. All-weaker (λ (at : ShardHit). suc shard ≤ at.shard) (Follows (by_hit keys) (StandsBefore keys) (of_shard shard hit))
    (λ at low. later_follows keys (of_shard shard hit) at low) (told (suc shard) answers) (shards_from (suc shard) answers)) answer.hits))

pairs_stand : (keys : List SortKey) (all : List ShardHit) → Pairwise (StandsBefore keys) all → StandInOrder keys all
pairs_stand keys [] pairs = tt
pairs_stand keys (at ∷ all) pairs = (pairs.0, pairs_stand keys all pairs.1)

in_order : (keys : List SortKey) (answers : List HitsOfShard) → AllByRecursion (λ (answer : HitsOfShard). AreInOrder keys answer.hits) answers
    → StandInOrder keys (all_of keys answers)
in_order keys answers order =
    pairs_stand keys (all_of keys answers)
    (pairwise_all (by_hit keys) (StandsBefore keys) (refines keys) (told zero answers) [] (told_follow keys zero answers order)
    (none_before (by_hit keys) (StandsBefore keys) (told zero answers)) tt)

-- ---- members

in-append_back : {X : Type 0} (xs ys : List X) (x : X) → IsIn ys x → IsIn (xs ++ ys) x
in-append_back [] ys x there = there
in-append_back (y ∷ xs) ys x there = inr (in-append_back xs ys x there)

in-append : {X : Type 0} (xs ys : List X) (x : X) → IsIn (xs ++ ys) x → IsIn xs x ⊎ IsIn ys x
in-append [] ys x there = inr there
in-append (y ∷ xs) ys x (inl same) = inl (inl same)
in-append (y ∷ xs) ys x (inr there) = elim (in-append xs ys x there) [ inl front ↦ inl (inr front) | inr back ↦ inr back ]

in_shard : (shard : ℕ) (hits : List Hit) (at : ShardHit) → IsIn (map (of_shard shard) hits) at → (at.shard ≡ shard) × IsIn hits at.hit
in_shard shard [] at there = absurd there
in_shard shard (hit ∷ hits) at (inl same) = (sym (ap (λ (a : ShardHit). a.shard) same), inl (ap (λ (a : ShardHit). a.hit) same))
in_shard shard (hit ∷ hits) at (inr there) = let rest = in_shard shard hits at there in (rest.0, inr rest.1)

shard_in : (shard : ℕ) (hits : List Hit) (hit : Hit) → IsIn hits hit → IsIn (map (of_shard shard) hits) (of_shard shard hit)
shard_in shard [] hit there = absurd there
shard_in shard (x ∷ hits) hit (inl same) = inl (ap (of_shard shard) same)
shard_in shard (x ∷ hits) hit (inr there) = inr (shard_in shard hits hit there)

-- the answer that tells of a hit
record IsTold (shard : ℕ) (answers : List HitsOfShard) (at : ShardHit) : Type 0 where
  pub place : ℕ
  pub answer : HitsOfShard
  pub there : slice_get answers place ≡ Some answer
  pub shard_is : at.shard ≡ shard + place
  pub is_in : IsIn answer.hits at.hit

in_told : (shard : ℕ) (answers : List HitsOfShard) (at : ShardHit) → IsIn (told shard answers) at → IsTold shard answers at
in_told shard [] at there = absurd there
in_told shard (answer ∷ answers) at there =
    elim (in-append (map (of_shard shard) answer.hits) (told (suc shard) answers) at there) [
      | inl front ↦ let own = in_shard shard answer.hits at front in let same : at.shard ≡ shard = own.0 in
          record { place = zero; answer = answer; there = refl; shard_is = omega arith; is_in = own.1 }
      | inr back ↦ let rest = in_told (suc shard) answers at back in let same : at.shard ≡ suc shard + rest.place = rest.shard_is in
          record { place = suc rest.place; answer = rest.answer; there = rest.there; shard_is = omega arith; is_in = rest.is_in }
    ]

told_in : (shard : ℕ) (answers : List HitsOfShard) (place : ℕ) (answer : HitsOfShard) (hit : Hit) → slice_get answers place ≡ Some answer → IsIn answer.hits hit
    → IsIn (told shard answers) (of_shard (shard + place) hit)
told_in shard [] place answer hit there is_in = cc
told_in shard (x ∷ answers) zero answer hit there is_in =
    in-append_front (map (of_shard shard) x.hits) (told (suc shard) answers) (of_shard (shard + zero) hit)
    (let same : shard ≡ shard + zero = omega arith in
    subst (λ (n : ℕ). IsIn (map (of_shard shard) x.hits) (of_shard n hit)) same
    (shard_in shard x.hits hit (subst (λ (a : HitsOfShard). IsIn a.hits hit) (sym (some_equal x answer there)) is_in)))
told_in shard (x ∷ answers) (suc place) answer hit there is_in =
    in-append_back (map (of_shard shard) x.hits) (told (suc shard) answers) (of_shard (shard + suc place) hit)
    (let same : suc shard + place ≡ shard + suc place = omega arith in
    subst (λ (n : ℕ). IsIn (told (suc shard) answers) (of_shard n hit)) same (told_in (suc shard) answers place answer hit there is_in))

-- ---- places

got_map : {X Y : Type 0} (f : X → Y) (xs : List X) (n : ℕ) (y : Y) → slice_get (map f xs) n ≡ Some y → (x : X) × (slice_get xs n ≡ Some x) × (f x ≡ y)
got_map f [] n y got = absurd cc
got_map f (x ∷ xs) zero y got = (x, refl, some_equal (f x) y got)
got_map f (x ∷ xs) (suc n) y got = got_map f xs n y got

at_place : {X : Type 0} (xs : List X) (n : ℕ) → n < length xs → (x : X) × (slice_get xs n ≡ Some x)
at_place [] n low = absurd (omega arith)
at_place (x ∷ xs) zero low = (x, refl)
at_place (x ∷ xs) (suc n) low = at_place xs n (omega arith)

-- ---- the law

window : {X : Type 0} (from size : ℕ) (xs ys : List X) → take (from + size) xs ≡ take (from + size) ys → take size (drop from xs) ≡ take size (drop from ys)
window from size xs ys same = sym (drop-take from size xs) ∙ ap (drop from) same ∙ drop-take from size ys

module _ (sets : ℕ → Operation → Type 0) (query : Tree) (keys : List SortKey) (answers : List HitsOfShard)
    (true_of : (shard : ℕ) (answer : HitsOfShard) → slice_get answers shard ≡ Some answer → IsAnswer (sets shard) query keys answer) where
  in_orders : AllByRecursion (λ (answer : HitsOfShard). AreInOrder keys answer.hits) answers
  in_orders = All-places (λ (answer : HitsOfShard). AreInOrder keys answer.hits) answers (λ n answer there. (true_of n answer there).ordered)

  found : (at : ShardHit) → IsIn (all_of keys answers) at → IsHitOfShard (length answers) sets query at
  found at there = elim (in_put_all (by_hit keys) (told zero answers) [] at there) [ inl none ↦ absurd none | inr here ↦ of_told (in_told zero answers at here) ]
    where
      of_told : IsTold zero answers at → IsHitOfShard (length answers) sets query at
      of_told t =
          let same : t.place ≡ at.shard = (let is : at.shard ≡ zero + t.place = t.shard_is in omega arith) in
          let got : slice_get answers at.shard ≡ Some t.answer = subst (λ (n : ℕ). slice_get answers n ≡ Some t.answer) same t.there in
          record { shard = get_within answers at.shard t.answer got; hit = ((true_of at.shard t.answer got).exact at.hit).0 t.is_in }

  finds : (at : ShardHit) → IsHitOfShard (length answers) sets query at → IsIn (all_of keys answers) at
  finds at h =
      let here = at_place answers at.shard h.shard in
      let same : zero + at.shard ≡ at.shard = omega arith in
      put_all_in (by_hit keys) (told zero answers) [] at
      (inr (subst (λ (n : ℕ). IsIn (told zero answers) (of_shard n at.hit)) same
      (told_in zero answers at.shard here.0 at.hit here.1 (((true_of at.shard here.0 here.1).exact at.hit).1 h.hit))))

  hits_are : (from size : ℕ)
      → take size (drop from (sorted_hits keys (flat_map {X = FrontOfShard} {A = Hit} (λ shard. shard.hits) (map (front_of (from + size)) answers))))
      ≡ map {A = ShardHit} {B = Hit} (λ at. at.hit) (take size (drop from (all_of keys answers)))
  hits_are from size =
      window from size (sorted_hits keys (flat_map {X = FrontOfShard} {A = Hit} (λ shard. shard.hits) (map (front_of (from + size)) answers)))
      (map (λ (at : ShardHit). at.hit) (all_of keys answers))
      (ap (take (from + size)) (sorted_put keys (flat_map {X = FrontOfShard} {A = Hit} (λ shard. shard.hits) (map (front_of (from + size)) answers))
      ∙ ap (put_all (order_of keys) []) (flat_map-map {A = HitsOfShard} {B = FrontOfShard} {C = Hit} (λ shard. shard.hits) (front_of (from + size)) answers))
      ∙ front_of_sorted {X = Hit} {Y = HitsOfShard} (order_of keys) (hit_total keys) (from + size) (λ answer. answer.hits) answers
      (All-weaker (λ (answer : HitsOfShard). AreInOrder keys answer.hits) (λ (answer : HitsOfShard). Pairwise (GoesBefore keys) answer.hits)
      (λ answer order. order_in_pairs keys answer.hits order) answers in_orders)
      ∙ ap (take (from + size)) (sym (hits_sorted keys answers)))
      ∙ ap (take size) (drop-map (λ (at : ShardHit). at.hit) from (all_of keys answers))
      ∙ take-map (λ (at : ShardHit). at.hit) size (drop from (all_of keys answers))

  total_is : (most : ℕ) → sum (map {A = FrontOfShard} {B = ℕ} (λ shard. shard.total) (map (front_of most) answers)) ≡ length (all_of keys answers)
  total_is most =
      ap sum (map-map {A = HitsOfShard} {B = FrontOfShard} {C = ℕ} (λ shard. shard.total) (front_of most) answers)
      ∙ sum-map (λ (answer : HitsOfShard). length answer.hits) answers
      ∙ sym (length-flat_map {X = HitsOfShard} {A = Hit} (λ answer. answer.hits) answers)
      ∙ sym (ap length (hits_sorted keys answers)
      ∙ length-put_all (order_of keys) (flat_map {X = HitsOfShard} {A = Hit} (λ answer. answer.hits) answers) [] ∙ none (length (flat_map {X = HitsOfShard} {A = Hit} (λ answer. answer.hits) answers)))
      ∙ length-map (all_of keys answers) (λ (at : ShardHit). at.hit)
    where
      none : (n : ℕ) → zero + n ≡ n
      none n = omega arith

  counts_of : (most shard count : ℕ) → slice_get (map {A = FrontOfShard} {B = ℕ} (λ s. s.count) (map (front_of most) answers)) shard ≡ Some count
      → (answer : HitsOfShard) × (slice_get answers shard ≡ Some answer) × (answer.count ≡ count)
  counts_of most shard count got =
      let one = got_map (λ (s : FrontOfShard). s.count) (map (front_of most) answers) shard count got in
      let two = got_map (front_of most) answers shard one.0 one.1 in
      (two.0, two.1, ap (λ (s : FrontOfShard). s.count) two.2 ∙ one.2)

  gaps_of : (most shard : ℕ) (gap : Bool) → slice_get (map {A = FrontOfShard} {B = Bool} (λ s. s.gap) (map (front_of most) answers)) shard ≡ Some gap
      → (answer : HitsOfShard) × (slice_get answers shard ≡ Some answer) × (answer.gap ≡ gap)
  gaps_of most shard gap got =
      let one = got_map (λ (s : FrontOfShard). s.gap) (map (front_of most) answers) shard gap got in
      let two = got_map (front_of most) answers shard one.0 one.1 in
      (two.0, two.1, ap (λ (s : FrontOfShard). s.gap) two.2 ∙ one.2)

  count_is : (most shard count : ℕ) → slice_get (map {A = FrontOfShard} {B = ℕ} (λ s. s.count) (map (front_of most) answers)) shard ≡ Some count → IsCount (sets shard) count
  count_is most shard count got =
      let c = counts_of most shard count got in
      subst (λ (n : ℕ). IsCount (sets shard) n) c.2 (true_of shard c.0 c.1).count

  gap_is : (most shard count : ℕ) (gap : Bool) → slice_get (map {A = FrontOfShard} {B = ℕ} (λ s. s.count) (map (front_of most) answers)) shard ≡ Some count
      → slice_get (map {A = FrontOfShard} {B = Bool} (λ s. s.gap) (map (front_of most) answers)) shard ≡ Some gap → IsTrue gap ↔ HasAbove (sets shard) count
  gap_is most shard count gap got told_gap =
      let c = counts_of most shard count got in
      let g = gaps_of most shard gap told_gap in
      let same : g.0 ≡ c.0 = some_equal g.0 c.0 (sym g.1 ∙ c.1) in
      let gap_same : c.0.gap ≡ gap = sym (ap (λ (a : HitsOfShard). a.gap) same) ∙ g.2 in
      subst (λ (n : ℕ). IsTrue gap ↔ HasAbove (sets shard) n) c.2
      (subst (λ (b : Bool). IsTrue b ↔ HasAbove (sets shard) c.0.count) gap_same (true_of shard c.0 c.1).gap)

pub fronts_join : (sets : ℕ → Operation → Type 0) → FrontsJoin sets
fronts_join sets query keys answers true_of from size = record {
  all = all_of keys answers;
  ordered = in_order keys answers (in_orders sets query keys answers true_of);
  exact = λ at. (found sets query keys answers true_of at, finds sets query keys answers true_of at);
  hits = hits_are sets query keys answers true_of from size;
  total = total_is sets query keys answers true_of (from + size);
  each = (
    length-map (map (front_of (from + size)) answers) (λ (s : FrontOfShard). s.count) ∙ length-map answers (front_of (from + size)),
    length-map (map (front_of (from + size)) answers) (λ (s : FrontOfShard). s.gap) ∙ length-map answers (front_of (from + size)),
  );
  count = count_is sets query keys answers true_of (from + size);
  gap = gap_is sets query keys answers true_of (from + size);
}

pub joins_two : JoinsTwo
joins_two = refl
