-- What the values of a field's kind are.
use Rattle.std.specs.Prelude.{ℕ, ◌^◌, ◌==◌, ◌&&◌, ◌||◌, Bool, true, false, nat_lt, nat_le, if◌then◌else◌, List, [], ◌∷◌, length, Option, Some, None, is_some, option_and_then}
use Rattle.std.specs.Option.{option_map_or}
use Rattle.std.specs.List.{list_all, before_first, after_first}
use Rattle.serde_json.specs.Data.{Data}
use Rattle.serde_json.specs.Find.{as_str, as_bool, as_number, as_object, as_array, as_u64}
use Rattle.ccr_script.specs.declared.fields.Kind.{Kind}
use Rattle.ccr_script.specs.declared.fields.Kind.TheVariants as kind

-- a whole number from 0 to 2^53 - 1
unfoldable pub small : ℕ → Option ℕ
small n = if nat_lt n (2 ^ 53) then Some n else None

abbrev pub number_of : Data → Option ℕ
number_of d = option_and_then small (option_and_then as_u64 (as_number d))

-- a-z, 0-9 and the dot
abbrev pub is_first_byte : ℕ → Bool
is_first_byte b = ((nat_le 97 b && nat_le b 122) || (nat_le 48 b && nat_le b 57)) || (b == 46)

-- these, and _ and -
abbrev pub is_name_byte : ℕ → Bool
is_name_byte b = (is_first_byte b || (b == 95)) || (b == 45)

abbrev pub starts_a_name : List ℕ → Bool
starts_a_name [] = false
starts_a_name (b ∷ bs) = is_first_byte b

-- 1 to 64 of the characters of names
unfoldable pub is_name : List ℕ → Bool
is_name text = (nat_le (length text) 64 && starts_a_name text) && list_all is_name_byte text

abbrev pub is_slash : ℕ → Bool
is_slash b = b == 47

-- two names with a slash between them; a name has no slash
abbrev pub is_index_name : List ℕ → Bool
is_index_name text = is_name (before_first is_slash text) && is_name (after_first is_slash text)

-- 1 to 512 bytes
unfoldable pub is_id : List ℕ → Bool
is_id text = nat_le 1 (length text) && nat_le (length text) 512

abbrev pub is_of_kind : Kind → Data → Bool
is_of_kind kind.Number d = is_some (number_of d)
is_of_kind kind.Truth d = is_some (as_bool d)
is_of_kind kind.Text d = is_some (as_str d)
is_of_kind kind.Name d = option_map_or is_name (as_str d) false
is_of_kind kind.Index d = option_map_or is_index_name (as_str d) false
is_of_kind kind.Id d = option_map_or is_id (as_str d) false
is_of_kind kind.List d = is_some (as_array d)
is_of_kind kind.Object d = is_some (as_object d)
is_of_kind kind.Any d = true
