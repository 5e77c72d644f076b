-- The fields of a JSON value.
use Rattle.std.specs.Prelude.{ℕ, List, [], ◌∷◌, ◌++◌, option_map, unwrap_or}
use Rattle.std.specs.Option.{option_to_list}
use Rattle.serde_json.specs.Data.{Data, null, boolean, number, string, array, object, Items, no_items, item, Members, no_members, member}
use Rattle.serde_json.specs.Find.{as_i64, as_object}
use Rattle.ccr_doc.specs.declared.scalars.Scalar.{Scalar}
use Rattle.ccr_doc.specs.declared.scalars.Scalar.TheVariants.{Text, Number, Truth}
use Rattle.ccr_doc.specs.declared.documents.Field.{Field}

abbrev pub field_at : List ℕ → Scalar → Field
field_at name value = record { name = name; value = value }

-- The fields of what stands at a name: a scalar is one, null is none, a list has those of all its values in order,
-- and the members of an object stand behind the name and a dot.
abbrev mutual
  pub fields_at : List ℕ → Data → List Field
  fields_at name null = []
  fields_at name (boolean b) = field_at name (Truth b) ∷ []
  fields_at name (number n) = option_to_list (option_map (λ z. field_at name (Number z)) (as_i64 n))
  fields_at name (string s) = field_at name (Text s) ∷ []
  fields_at name (array ds) = items_fields name ds
  fields_at name (object ms) = members_fields (name ++ 46 ∷ []) ms

  pub items_fields : List ℕ → Items → List Field
  items_fields name no_items = []
  items_fields name (item d ds) = fields_at name d ++ items_fields name ds

  pub members_fields : List ℕ → Members → List Field
  members_fields prefix no_members = []
  members_fields prefix (member k d ms) = fields_at (prefix ++ k) d ++ members_fields prefix ms

-- the fields of a source: the names of its own members stand alone
abbrev pub fields_of : Data → List Field
fields_of d = members_fields [] (unwrap_or (as_object d) no_members)
