-- The order of documents in a search's answer.
use Rattle.std.specs.Prelude.{ℕ, List, [], ◌∷◌, if◌then◌else◌, Option, Some, None}
use Rattle.std.specs.List.{fold}
use Rattle.std.specs.Ordering.{is_lt, nat_cmp, ordering_then}
use Rattle.std.specs.declared.cmp.Ordering.{Ordering}
use Rattle.std.specs.declared.cmp.Ordering.TheVariants.{Less, Equal, Greater}
use Rattle.std.specs.Cmp.Lexicographic.{slice_cmp}
use Rattle.std.specs.Str.{bytes_eq}
use Rattle.ccr_doc.specs.Scalars.{scalar_cmp}
use Rattle.ccr_doc.specs.declared.documents.Field.{Field}
use Rattle.ccr_doc.specs.declared.scalars.Scalar.{Scalar}
use Rattle.ccr_query.specs.declared.sorting.SortOrder.{SortOrder}
use Rattle.ccr_query.specs.declared.sorting.SortOrder.TheVariants.{Asc, Desc}
use Rattle.ccr_query.specs.declared.sorting.SortKey.{SortKey}

abbrev pub value_cmp : SortOrder → Scalar → Scalar → Ordering
value_cmp Asc left right = scalar_cmp left right
value_cmp Desc left right = scalar_cmp right left

abbrev pub earlier : SortOrder → Option Scalar → Scalar → Scalar
earlier order None value = value
earlier order (Some first) value = if is_lt (value_cmp order value first) then value else first

abbrev pub with_field : SortKey → Option Scalar → Field → Option Scalar
with_field key first at = if bytes_eq at.name key.field then Some (earlier key.order first at.value) else first

-- the first of the field's values in the key's order
abbrev pub key_of : SortKey → List Field → Option Scalar
key_of key document = fold (with_field key) None document

-- no value comes last
abbrev pub keys_cmp : SortOrder → Option Scalar → Option Scalar → Ordering
keys_cmp order (Some left) (Some right) = value_cmp order left right
keys_cmp order (Some left) None = Less
keys_cmp order None (Some right) = Greater
keys_cmp order None None = Equal

abbrev pub key_cmp : SortKey → List Field → List Field → Ordering
key_cmp key left right = keys_cmp key.order (key_of key left) (key_of key right)

-- the first key that tells two documents apart decides, and else the bytes of their ids
abbrev pub hit_cmp : List SortKey → List ℕ → List Field → List ℕ → List Field → Ordering
hit_cmp [] left_id left right_id right = slice_cmp nat_cmp left_id right_id
hit_cmp (key ∷ keys) left_id left right_id right = ordering_then (key_cmp key left right) (hit_cmp keys left_id left right_id right)
