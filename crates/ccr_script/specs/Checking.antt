-- Whether an object has the fields of a command.
use Rattle.std.specs.Prelude.{ℕ, ◌&&◌, ◌||◌, Bool, true, false, nat_le, if◌then◌else◌, List, [], ◌∷◌, codes, is_some}
use Rattle.std.specs.Option.{option_map_or}
use Rattle.std.specs.List.{list_all}
use Rattle.std.specs.Str.{bytes_eq}
use Rattle.serde_json.specs.Data.{Data, Members, no_members, member}
use Rattle.serde_json.specs.Find.{get, as_object}
use Rattle.serde_json.specs.Events.{members_len}
use Rattle.ccr_script.specs.declared.fields.Field.{Field}
use Rattle.ccr_script.specs.Grammar.{Fields, name_of, kind_of}
use Rattle.ccr_script.specs.Kinds.{is_of_kind}

abbrev pub is_there : Field → Data → Bool
is_there f d = is_some (get (name_of f) d)

abbrev pub are_there : List Field → Data → Bool
are_there fields d = list_all (λ f. is_there f d) fields

-- the name is that of one of the fields, and the value is of its kind
abbrev pub fits_one : List Field → List ℕ → Data → Bool
fits_one [] name d = false
fits_one (f ∷ fs) name d = if bytes_eq name (name_of f) then is_of_kind (kind_of f) d else fits_one fs name d

abbrev pub fits : List Field → List Field → List ℕ → Data → Bool
fits needed allowed name d = (bytes_eq name (codes "op") || fits_one needed name d) || fits_one allowed name d

abbrev pub members_fit : List Field → List Field → Members → Bool
members_fit needed allowed no_members = true
members_fit needed allowed (member name d ms) = fits needed allowed name d && members_fit needed allowed ms

abbrev pub all_members_fit : List Field → List Field → Data → Bool
all_members_fit needed allowed d = option_map_or (members_fit needed allowed) (as_object d) false

-- an object with all fields that are needed, and with no member but fields, of which each has a value of its kind
abbrev pub has_fields : Fields → Data → Bool
has_fields fields d = are_there fields.needed d && all_members_fit fields.needed fields.allowed d

-- an object with no more members
abbrev pub has_at_most : ℕ → Data → Bool
has_at_most most d = option_map_or (λ ms. nat_le (members_len ms) most) (as_object d) false
