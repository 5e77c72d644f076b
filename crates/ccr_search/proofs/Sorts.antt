-- Hits that were sorted by the values beside them stand in the order of the keys and then of their ids.
use Rattle.std.specs.Cmp.{IsStrictWeakOrder}
use Rattle.std.specs.List.{AllByRecursion, IsDistinct}
use Rattle.std.specs.Str.{bytes_eq}
use Rattle.std.proofs.Common.{◌≡◌, inl, inr, ℕ, zero, suc, ◌+◌, ◌<◌, ◌≤◌, Bool, true, false, is_eq, is_lt, nat_cmp, Ordering, Less, List, [], ◌∷◌, length, map, slice_index_or, IsPermutation, IsSorted, IsSortedBy, refl, sym, ◌∙◌, ap, subst, arith}
use Rattle.std.specs.Cmp.Lexicographic.{slice_cmp}
use Rattle.std.proofs.lemmas.List.Sorted.{All-permutation, IsPermutation-map, IsPermutation-sym, ranks_by}
use Rattle.std.proofs.lemmas.List.Elements.{All-from_recursion, recursion_from_All}
use Rattle.std.proofs.lemmas.Map.Keys.{IsDistinct-IsPermutation}
use Rattle.std.proofs.lemmas.Map.Text.{is_eq-slice_cmp}
use Rattle.std.proofs.lemmas.Slice.Eq.{bytes_eq-Decides}
use Rattle.ccr_op.specs.Operation.{Operation}
use Rattle.ccr_query.specs.Queries.{Tree}
use Rattle.ccr_query.specs.declared.answers.Hit.{Hit}
use Rattle.ccr_query.specs.declared.sorting.SortKey.{SortKey}
use Rattle.ccr_model.specs.Answers.{IsIn, AreInOrder}
use Rattle.ccr_law_base.proofs.Lists.{All-in, All-weaker, All-map, All-map_back}
use Rattle.ccr_law_stores.proofs.Insertions.{Pairwise, Pairwise-map}
use Rattle.ccr_law_stores.proofs.SearchOrders.{order_of, other_first}
use Rattle.ccr_law_stores.proofs.SearchSorts.{GoesBefore, pairs_in_order, order_in_pairs}
use Rattle.ccr_search.specs.Finds.{AreFound}
use Rattle.ccr_search.specs.Ranks.{ranked_cmp, hits_in, IsRanked, AreRanked}
use Rattle.ccr_search.specs.declared.ranks.Ranked.{Ranked}
use Rattle.ccr_search.proofs.RankOrder.{ranked_total, ranked_is}

-- ---- members of a list in another order

All-itself : {X : Type 0} (xs : List X) → AllByRecursion (IsIn xs) xs
All-itself [] = tt
All-itself {X = X} (x ∷ xs) = (inl refl, All-weaker (IsIn xs) (IsIn (x ∷ xs)) (λ y there. inr there) xs (All-itself xs))

every_shuffled : {X : Type 0} (P : X → Type 0) (xs ys : List X) → IsPermutation xs ys → AllByRecursion P xs → AllByRecursion P ys
every_shuffled P xs ys moved all = recursion_from_All P ys (All-permutation P xs ys moved (All-from_recursion P xs all))

in_shuffled : {X : Type 0} (xs ys : List X) → IsPermutation xs ys → (y : X) → IsIn ys y → IsIn xs y
in_shuffled xs ys moved y at = All-in (IsIn xs) ys y (every_shuffled (IsIn xs) xs ys moved (All-itself xs)) at

-- ---- ids that differ

bytes_eq-refl : (id : List ℕ) → bytes_eq id id ≡ true
bytes_eq-refl id = (bytes_eq-Decides id id).1 refl

turned_test : (a b : List ℕ) → bytes_eq a b ≡ true → bytes_eq b a ≡ true
turned_test a b is = (bytes_eq-Decides b a).1 (sym ((bytes_eq-Decides a b).0 is))

bytes_eq-flips : (a b : List ℕ) → bytes_eq a b ≡ bytes_eq b a
bytes_eq-flips a b = by (bytes_eq a b) refl (bytes_eq b a) refl
  where
    by : (s : Bool) → bytes_eq a b ≡ s → (t : Bool) → bytes_eq b a ≡ t → s ≡ t
    by true is t other = sym (turned_test a b is) ∙ other
    by false is true other = sym is ∙ turned_test b a other
    by false is false other = refl

abbrev ids_in : List Hit → List (List ℕ)
ids_in hits = map {A = Hit} {B = List ℕ} (λ hit. hit.id) hits

other_ids : (a b : List ℕ) → slice_cmp nat_cmp a b ≡ Less → bytes_eq a b ≡ false
other_ids a b less = sym (is_eq-slice_cmp a b) ∙ ap is_eq less

distinct : (hits : List Hit) → AreInOrder [] hits → IsDistinct bytes_eq (ids_in hits)
unfolding IsDistinct
distinct [] order = tt
distinct (hit ∷ hits) order = (
  All-map (λ (id : List ℕ). bytes_eq hit.id id ≡ false) (λ (later : Hit). later.id) hits
      (All-weaker (λ (later : Hit). slice_cmp nat_cmp hit.id later.id ≡ Less) (λ (later : Hit). bytes_eq hit.id later.id ≡ false) (λ later less. other_ids hit.id later.id less) hits order.0),
  distinct hits order.1,
)

abbrev IsApart : Ranked → Ranked → Type 0
IsApart a b = bytes_eq a.hit.id b.hit.id ≡ false

apart : (all : List Ranked) → IsDistinct bytes_eq (ids_in (hits_in all)) → Pairwise IsApart all
unfolding IsDistinct
apart [] ids = tt
apart (r ∷ all) ids = (
  All-map_back (λ (hit : Hit). bytes_eq r.hit.id hit.id ≡ false) (λ (later : Ranked). later.hit) all
      (All-map_back (λ (id : List ℕ). bytes_eq r.hit.id id ≡ false) (λ (later : Hit). later.id) (hits_in all) ids.0),
  apart all ids.1,
)

-- ---- from neighbours to all pairs

sorted_rest : {X : Type 0} (lt : X → X → Bool) (x : X) (xs : List X) → IsSortedBy lt (x ∷ xs) → IsSortedBy lt xs
sorted_rest lt x xs up k d low high =
    let same : suc k + 1 ≡ suc (k + 1) = omega arith in
    subst (λ (n : ℕ). lt (slice_index_or (x ∷ xs) n d) (slice_index_or xs k d) ≡ false) same (up (suc k) d (omega arith) (omega arith))

sorted_first : {X : Type 0} (lt : X → X → Bool) → IsStrictWeakOrder lt → (x : X) (xs : List X) → IsSortedBy lt (x ∷ xs) → AllByRecursion (λ y. lt y x ≡ false) xs
sorted_first lt weak x [] up = tt
sorted_first lt weak x (y ∷ ys) up =
    let here : lt y x ≡ false = up zero x (omega arith) (omega arith) in
    (here, All-weaker (λ z. lt z y ≡ false) (λ z. lt z x ≡ false) (λ z past. weak.chain z y x past here) ys (sorted_first lt weak y ys (sorted_rest lt x (y ∷ ys) up)))

sorted_pairs : {X : Type 0} (lt : X → X → Bool) → IsStrictWeakOrder lt → (xs : List X) → IsSortedBy lt xs → Pairwise (λ x y. lt y x ≡ false) xs
sorted_pairs lt weak [] up = tt
sorted_pairs lt weak (x ∷ xs) up = (sorted_first lt weak x xs up, sorted_pairs lt weak xs (sorted_rest lt x xs up))

-- ---- the order of the hits

stands_first : (keys : List SortKey) (a b : Ranked) → IsRanked keys a → IsRanked keys b → is_lt (ranked_cmp keys b a) ≡ false → IsApart a b → GoesBefore keys a.hit b.hit
stands_first keys a b own other isnt differ =
    other_first keys b.hit a.hit (λ same. never (subst (λ (id : List ℕ). bytes_eq a.hit.id id ≡ false) same differ))
    (sym (ap is_lt (ranked_is keys b a other own)) ∙ isnt)
  where
    never : bytes_eq a.hit.id a.hit.id ≡ false → ⊥
    never isnt = let is : bytes_eq a.hit.id a.hit.id ≡ true = bytes_eq-refl a.hit.id in absurd (cc)

all_first : (keys : List SortKey) (a : Ranked) (all : List Ranked) → IsRanked keys a → AreRanked keys all
    → AllByRecursion (λ b. is_lt (ranked_cmp keys b a) ≡ false) all → AllByRecursion (IsApart a) all → AllByRecursion (λ b. GoesBefore keys a.hit b.hit) all
all_first keys a [] own ranked sorted differ = tt
all_first keys a (b ∷ all) own ranked sorted differ =
    (stands_first keys a b own ranked.0 sorted.0 differ.0, all_first keys a all own ranked.1 sorted.1 differ.1)

pairs_first : (keys : List SortKey) (all : List Ranked) → AreRanked keys all → Pairwise (λ a b. is_lt (ranked_cmp keys b a) ≡ false) all → Pairwise IsApart all
    → Pairwise (λ a b. GoesBefore keys a.hit b.hit) all
pairs_first keys [] ranked sorted differ = tt
pairs_first keys (a ∷ all) ranked sorted differ =
    (all_first keys a all ranked.0 ranked.1 sorted.0 differ.0, pairs_first keys all ranked.1 sorted.1 differ.1)

pub sorted_found : (ops : List Operation) (query : Tree) (keys : List SortKey) (all new : List Ranked) → AreRanked keys all → IsPermutation all new → IsSorted (ranked_cmp keys) new
    → AreFound ops query [] (hits_in all) → AreFound ops query keys (hits_in new)
sorted_found ops query keys all new ranked moved up found = record {
  ordered = pairs_in_order keys (hits_in new) (Pairwise-map (GoesBefore keys) (λ (r : Ranked). r.hit) new pairs);
  exact = λ hit. (λ at. (found.exact hit).0 (in_shuffled (hits_in all) (hits_in new) hits_moved hit at), λ f. in_shuffled (hits_in new) (hits_in all) back hit ((found.exact hit).1 f));
}
  where
    hits_moved : IsPermutation (hits_in all) (hits_in new)
    hits_moved = IsPermutation-map (λ (r : Ranked). r.hit) all new moved

    back : IsPermutation (hits_in new) (hits_in all)
    back = IsPermutation-sym (hits_in all) (hits_in new) hits_moved

    differ : Pairwise IsApart new
    differ = apart new (IsDistinct-IsPermutation bytes_eq bytes_eq-flips (ids_in (hits_in all)) (ids_in (hits_in new)) (IsPermutation-map (λ (hit : Hit). hit.id) (hits_in all) (hits_in new) hits_moved) (distinct (hits_in all) found.ordered))

    pairs : Pairwise (λ a b. GoesBefore keys a.hit b.hit) new
    pairs = pairs_first keys new (every_shuffled (IsRanked keys) all new moved ranked) (sorted_pairs (λ a b. is_lt (ranked_cmp keys a b)) (ranks_by (ranked_total keys) (λ r. r)) new up) differ
