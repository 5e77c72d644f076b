-- The sorted hits are those that were given, in their order.
use Rattle.std.specs.List.{fold}
use Rattle.std.proofs.Common.{◌≡◌, inl, inr, is_lt, Less, if◌then◌else◌, List, [], ◌∷◌, refl, sym, ◌∙◌, ap, subst}
use Rattle.ccr_query.specs.declared.answers.Hit.{Hit}
use Rattle.ccr_query.specs.declared.sorting.SortKey.{SortKey}
use Rattle.ccr_model.specs.Answers.{IsIn, AreInOrder}
use Rattle.ccr_model.specs.Searches.{with_hit, sorted_hits}
use Rattle.ccr_law_stores.proofs.Insertions.{Pairwise, Pairwise-weaker, Refines, Follows, put, put_all, in_put_all, put_all_in, pairwise_all, none_before}
use Rattle.ccr_law_stores.proofs.SearchOrders.{order_of, hit_total, other_first}

-- no two hits are of one id
abbrev pub IsOther : Hit → Hit → Type 0
IsOther a b = ¬ (a.id ≡ b.id)

abbrev pub AreApart : List Hit → Type 0
AreApart hits = Pairwise IsOther hits

-- the keys, and then the ids, put it first
abbrev pub GoesBefore : List SortKey → Hit → Hit → Type 0
GoesBefore keys a b = order_of keys a b ≡ Less

pub pairs_in_order : (keys : List SortKey) (hits : List Hit) → Pairwise (GoesBefore keys) hits → AreInOrder keys hits
pairs_in_order keys [] pairs = tt
pairs_in_order keys (hit ∷ hits) pairs = (pairs.0, pairs_in_order keys hits pairs.1)

pub order_in_pairs : (keys : List SortKey) (hits : List Hit) → AreInOrder keys hits → Pairwise (GoesBefore keys) hits
order_in_pairs keys [] order = tt
order_in_pairs keys (hit ∷ hits) order = (order.0, order_in_pairs keys hits order.1)

-- ---- sorted hits are put in their places one by one

with_put : (keys : List SortKey) (hit : Hit) (hits : List Hit) → with_hit keys hit hits ≡ put (order_of keys) hit hits
with_put keys hit [] = refl
with_put keys hit (x ∷ hits) = ap (λ (rest : List Hit). if is_lt (order_of keys hit x) then hit ∷ x ∷ hits else x ∷ rest) (with_put keys hit hits)

sorted_into : (keys : List SortKey) (hits sorted : List Hit)
    → fold {A = Hit} {B = List Hit} (λ rest hit. with_hit keys hit rest) sorted hits ≡ put_all (order_of keys) sorted hits
sorted_into keys [] sorted = refl
sorted_into keys (hit ∷ hits) sorted = sorted_into keys hits (with_hit keys hit sorted) ∙ ap (λ (s : List Hit). put_all (order_of keys) s hits) (with_put keys hit sorted)

pub sorted_put : (keys : List SortKey) (hits : List Hit) → sorted_hits keys hits ≡ put_all (order_of keys) [] hits
sorted_put keys hits = sorted_into keys hits []

-- ---- members and order

pub in_sorted : (keys : List SortKey) (hits : List Hit) (y : Hit) → IsIn (sorted_hits keys hits) y → IsIn hits y
in_sorted keys hits y at =
    elim (in_put_all (order_of keys) hits [] y (subst (λ (found : List Hit). IsIn found y) (sorted_put keys hits) at)) [
      | inl none ↦ absurd none
      | inr here ↦ here
    ]

pub sorted_in : (keys : List SortKey) (hits : List Hit) (y : Hit) → IsIn hits y → IsIn (sorted_hits keys hits) y
sorted_in keys hits y at = subst (λ (found : List Hit). IsIn found y) (sym (sorted_put keys hits)) (put_all_in (order_of keys) hits [] y (inr at))

keeps_order : (keys : List SortKey) → Refines (order_of keys) (GoesBefore keys)
keeps_order keys = record { less = λ x y is. is; past = λ x y z before later. (hit_total keys).trans x y z before later }

pub ordered_hits : (keys : List SortKey) (hits : List Hit) → AreApart hits → AreInOrder keys (sorted_hits keys hits)
ordered_hits keys hits apart =
    subst (AreInOrder keys) (sym (sorted_put keys hits))
    (pairs_in_order keys (put_all (order_of keys) [] hits)
    (pairwise_all (order_of keys) (GoesBefore keys) (keeps_order keys) hits []
    (Pairwise-weaker IsOther (Follows (order_of keys) (GoesBefore keys)) (λ x y other isnt. other_first keys y x (λ same. other (sym same)) isnt) hits apart)
    (none_before (order_of keys) (GoesBefore keys) hits) tt))
