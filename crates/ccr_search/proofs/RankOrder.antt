-- The order of hits by the values beside them is total, and is the order of the hits where these values are theirs.
use Rattle.std.specs.Cmp.{IsTotalOrder}
use Rattle.std.specs.Cmp.Lexicographic.{slice_cmp}
use Rattle.std.specs.Ordering.{ordering_then, on, is_ne}
use Rattle.std.proofs.Common.{◌≡◌, ℕ, zero, suc, ◌+◌, ◌<◌, nat_cmp, false, Ordering, Less, Equal, Greater, Option, List, [], ◌∷◌, length, drop, slice_index_or, refl, sym, ◌∙◌, ap, arith}
use Rattle.std.proofs.Math.Seq.{drop-cons}
use Rattle.std.proofs.lemmas.Cmp.{nat_list_cmp_total, on_total, then_total}
use Rattle.ccr_doc.specs.declared.documents.Field.{Field}
use Rattle.ccr_doc.specs.declared.scalars.Scalar.{Scalar}
use Rattle.ccr_query.specs.Sorting.{key_of, keys_cmp, hit_cmp}
use Rattle.ccr_query.specs.declared.sorting.SortKey.{SortKey}
use Rattle.ccr_law_stores.proofs.SearchOrders.{keys_total, order_of}
use Rattle.ccr_search.specs.Ranks.{values_in, first_value, later_values, rank_cmp, ranked_cmp, IsRanked}
use Rattle.ccr_search.specs.declared.ranks.Ranked.{Ranked}

-- values beside an id
abbrev Rank : Type 0
Rank = List (Option Scalar) × List ℕ

abbrev order : List SortKey → Rank → Rank → Ordering
order keys a b = rank_cmp keys a.0 a.1 b.0 b.1

order_total : (keys : List SortKey) → IsTotalOrder (order keys)
order_total [] = on_total {K = Rank} {J = List ℕ} (λ a. a.1) {R = slice_cmp nat_cmp} nat_list_cmp_total
order_total (key ∷ keys) =
    let by_key : IsTotalOrder (on {K = Rank} {J = Option Scalar} {X = Ordering} (λ a. first_value a.0) (keys_cmp key.order)) =
    on_total {K = Rank} {J = Option Scalar} (λ a. first_value a.0) {R = keys_cmp key.order} (keys_total key.order) in
    let later : IsTotalOrder (on {K = Rank} {J = Rank} {X = Ordering} (λ a. (later_values a.0, a.1)) (order keys)) =
    on_total {K = Rank} {J = Rank} (λ a. (later_values a.0, a.1)) {R = order keys} (order_total keys) in
    then_total {K = Rank} {R = on {K = Rank} {J = Option Scalar} {X = Ordering} (λ a. first_value a.0) (keys_cmp key.order)}
    {S = on {K = Rank} {J = Rank} {X = Ordering} (λ a. (later_values a.0, a.1)) (order keys)} by_key later

pub ranked_total : (keys : List SortKey) → IsTotalOrder (ranked_cmp keys)
ranked_total keys = on_total {K = Ranked} {J = Rank} (λ r. (r.values.items, r.hit.id)) {R = order keys} (order_total keys)

-- ---- the order of hits

pub rank_is : (keys : List SortKey) (a b : List ℕ) (left right : List Field) → rank_cmp keys (values_in keys left) a (values_in keys right) b ≡ hit_cmp keys a left b right
rank_is [] a b left right = refl
rank_is (key ∷ keys) a b left right =
    ap (ordering_then (keys_cmp key.order (key_of key left) (key_of key right))) (rank_is keys a b left right)

pub ranked_is : (keys : List SortKey) (a b : Ranked) → IsRanked keys a → IsRanked keys b → ranked_cmp keys a b ≡ order_of keys a.hit b.hit
ranked_is keys a b own other = rw (own, other) (rank_is keys a.hit.id b.hit.id _ _)

-- ---- a step of a comparison

later-drop : (values : List (Option Scalar)) (n : ℕ) → later_values (drop n values) ≡ drop (suc n) values
later-drop [] zero = refl
later-drop [] (suc n) = refl
later-drop (value ∷ values) zero = refl
later-drop (value ∷ values) (suc n) = later-drop values n

rank_first : (keys : List SortKey) (n : ℕ) (key : SortKey) (left right : List (Option Scalar)) (a b : List ℕ) → n < length keys
    → rank_cmp (drop n keys) (drop n left) a (drop n right) b
    ≡ ordering_then (keys_cmp (slice_index_or keys n key).order (first_value (drop n left)) (first_value (drop n right))) (rank_cmp (drop (suc n) keys) (drop (suc n) left) a (drop (suc n) right) b)
rank_first keys n key left right a b low =
    ap (λ (ks : List SortKey). rank_cmp ks (drop n left) a (drop n right) b) (drop-cons keys n key low)
    ∙ ap (λ (vs : List (Option Scalar)). ordering_then (keys_cmp (slice_index_or keys n key).order (first_value (drop n left)) (first_value (drop n right))) (rank_cmp (drop (suc n) keys) vs a (later_values (drop n right)) b)) (later-drop left n)
    ∙ ap (λ (vs : List (Option Scalar)). ordering_then (keys_cmp (slice_index_or keys n key).order (first_value (drop n left)) (first_value (drop n right))) (rank_cmp (drop (suc n) keys) (drop (suc n) left) a vs b)) (later-drop right n)

-- where the values for a key are equal, the later keys decide
pub rank_step : (keys : List SortKey) (n : ℕ) (key : SortKey) (left right : List (Option Scalar)) (a b : List ℕ) → key ≡ slice_index_or keys n key → n < length keys
    → keys_cmp key.order (first_value (drop n left)) (first_value (drop n right)) ≡ Equal
    → rank_cmp (drop n keys) (drop n left) a (drop n right) b ≡ rank_cmp (drop (n + 1) keys) (drop (n + 1) left) a (drop (n + 1) right) b
rank_step keys n key left right a b is low equal =
    let next : suc n ≡ n + 1 = omega arith in
    rank_first keys n key left right a b low
    ∙ ap (λ (k : SortKey). ordering_then (keys_cmp k.order (first_value (drop n left)) (first_value (drop n right))) (rank_cmp (drop (suc n) keys) (drop (suc n) left) a (drop (suc n) right) b)) (sym is)
    ∙ ap (λ (o : Ordering). ordering_then o (rank_cmp (drop (suc n) keys) (drop (suc n) left) a (drop (suc n) right) b)) equal
    ∙ ap (λ (m : ℕ). rank_cmp (drop m keys) (drop m left) a (drop m right) b) next

pub not_ne : (o : Ordering) → is_ne o ≡ false → o ≡ Equal
not_ne Less is = cc
not_ne Equal is = refl
not_ne Greater is = cc
