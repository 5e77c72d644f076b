-- The keys of a sort that a JSON value is.
use Rattle.std.specs.Prelude.{List, [], ◌∷◌, ℕ, codes, if◌then◌else◌, Option, Some, None, option_map, option_and_then}
use Rattle.std.specs.Str.{bytes_eq}
use Rattle.serde_json.specs.Data.{Data, Items, no_items, item}
use Rattle.serde_json.specs.Find.{as_array, as_str}
use Rattle.ccr_query.specs.Reading.{only}
use Rattle.ccr_query.specs.declared.sorting.SortOrder.{SortOrder}
use Rattle.ccr_query.specs.declared.sorting.SortOrder.TheVariants.{Asc, Desc}
use Rattle.ccr_query.specs.declared.sorting.SortKey.{SortKey}

abbrev pub order_named : List ℕ → Option SortOrder
order_named name = if bytes_eq name (codes "asc") then Some Asc else (if bytes_eq name (codes "desc") then Some Desc else None)

abbrev pub order_of : Data → Option SortOrder
order_of d = option_and_then order_named (as_str d)

abbrev pub key_of_member : Option (List ℕ × Data) → Option SortKey
key_of_member None = None
key_of_member (Some m) = option_map (λ order. record { field = m.0; order = order }) (order_of m.1)

-- an object with one member: the field, and in which order
abbrev pub key_of_value : Data → Option SortKey
key_of_value d = key_of_member (only d)

-- what each item is, where each is something
abbrev pub each_of : {A : Type 0} → (Data → Option A) → Items → Option (List A)
each_of f no_items = Some []
each_of f (item d ds) = option_and_then (λ a. option_map (λ rest. a ∷ rest) (each_of f ds)) (f d)

-- a list of such objects
abbrev pub keys_of_value : Data → Option (List SortKey)
keys_of_value d = option_and_then (each_of key_of_value) (as_array d)
