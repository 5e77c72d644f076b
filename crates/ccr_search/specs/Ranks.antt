-- The values by which a hit is sorted, and the order that they make.
use Rattle.std.specs.Prelude.{◌≡◌, ℕ, List, [], ◌∷◌, map, Option, None}
use Rattle.std.specs.List.{AllByRecursion}
use Rattle.std.specs.Ordering.{nat_cmp, ordering_then}
use Rattle.std.specs.declared.cmp.Ordering.{Ordering}
use Rattle.std.specs.Cmp.Lexicographic.{slice_cmp}
use Rattle.ccr_doc.specs.declared.documents.Field.{Field}
use Rattle.ccr_doc.specs.declared.scalars.Scalar.{Scalar}
use Rattle.ccr_query.specs.Sorting.{key_of, keys_cmp}
use Rattle.ccr_query.specs.declared.answers.Hit.{Hit}
use Rattle.ccr_query.specs.declared.sorting.SortKey.{SortKey}
use Rattle.ccr_model.specs.Searches.{fields_of_hit}
use Rattle.ccr_search.specs.declared.ranks.Ranked.{Ranked}

-- a document's value for each key
abbrev pub values_in : List SortKey → List Field → List (Option Scalar)
values_in keys fields = map {A = SortKey} {B = Option Scalar} (λ key. key_of key fields) keys

abbrev pub first_value : List (Option Scalar) → Option Scalar
first_value [] = None
first_value (value ∷ values) = value

abbrev pub later_values : List (Option Scalar) → List (Option Scalar)
later_values [] = []
later_values (value ∷ values) = values

-- the first key whose values differ decides, and else the bytes of the ids
abbrev pub rank_cmp : List SortKey → List (Option Scalar) → List ℕ → List (Option Scalar) → List ℕ → Ordering
rank_cmp [] left left_id right right_id = slice_cmp nat_cmp left_id right_id
rank_cmp (key ∷ keys) left left_id right right_id =
    ordering_then (keys_cmp key.order (first_value left) (first_value right)) (rank_cmp keys (later_values left) left_id (later_values right) right_id)

-- the order of hits by the values beside them
abbrev pub ranked_cmp : List SortKey → Ranked → Ranked → Ordering
ranked_cmp keys a b = rank_cmp keys a.values.items a.hit.id b.values.items b.hit.id

-- the values beside a hit are its own
abbrev pub IsRanked : List SortKey → Ranked → Type 0
IsRanked keys ranked = ranked.values.items ≡ values_in keys (fields_of_hit ranked.hit)

-- the hits alone
abbrev pub hits_in : List Ranked → List Hit
hits_in all = map {A = Ranked} {B = Hit} (λ ranked. ranked.hit) all

abbrev pub AreRanked : List SortKey → List Ranked → Type 0
AreRanked keys all = AllByRecursion (IsRanked keys) all
