-- The query that a JSON value is, or its first refusal: values are read from the front, and the members of an object in
-- ascending order of their names.
use Rattle.std.specs.Prelude.{ℕ, ◌+◌, List, Bool, true, false, not, ◌&&◌, ◌||◌, ◌==◌, codes, if◌then◌else◌, Option, Some, None, option_map, Result, Ok, Err}
use Rattle.std.specs.Str.{bytes_eq}
use Rattle.serde_json.specs.Data.{Data, null, boolean, number, string, array, object, Members, no_members, member}
use Rattle.serde_json.specs.Events.{members_len}
use Rattle.serde_json.specs.Find.{as_i64, as_str, get}
use Rattle.ccr_doc.specs.declared.scalars.Scalar.{Scalar}
use Rattle.ccr_doc.specs.declared.scalars.Scalar.TheVariants.{Text, Number, Truth}
use Rattle.ccr_query.specs.declared.conditions.Condition.{Condition}
use Rattle.ccr_query.specs.declared.conditions.Condition.TheVariants.{MatchAll, Term, Range, Match, Prefix, Exists}
use Rattle.ccr_query.specs.declared.reading.BadQuery.{BadQuery}
use Rattle.ccr_query.specs.declared.reading.BadQuery.TheVariants.{UnknownClause, BadValue}

-- a text, a whole number of 64 bits with a sign, or a truth value
abbrev pub scalar_of : Data → Option Scalar
scalar_of null = None
scalar_of (boolean b) = Some (Truth b)
scalar_of (number n) = option_map Number (as_i64 n)
scalar_of (string s) = Some (Text s)
scalar_of (array ds) = None
scalar_of (object ms) = None

-- the member of an object that has one
abbrev pub only_member : Members → Option (List ℕ × Data)
only_member no_members = None
only_member (member k d no_members) = Some (k, d)
only_member (member k d (member l e ms)) = None

abbrev pub only : Data → Option (List ℕ × Data)
only null = None
only (boolean b) = None
only (number n) = None
only (string s) = None
only (array ds) = None
only (object ms) = only_member ms

abbrev pub match_all_of : Data → Option Condition
match_all_of null = None
match_all_of (boolean b) = None
match_all_of (number n) = None
match_all_of (string s) = None
match_all_of (array ds) = None
match_all_of (object ms) = if members_len ms == 0 then Some MatchAll else None

abbrev pub term_of : Option (List ℕ × Data) → Option Condition
term_of None = None
term_of (Some p) = option_map (Term p.0) (scalar_of p.1)

abbrev pub text_of : (List ℕ → List ℕ → Condition) → Option (List ℕ × Data) → Option Condition
text_of make None = None
text_of make (Some p) = option_map (make p.0) (as_str p.1)

abbrev pub exists_of : Option (List ℕ × Data) → Option Condition
exists_of None = None
exists_of (Some p) = if bytes_eq p.0 (codes "field") then option_map Exists (as_str p.1) else None

-- a bound that need not be there, or a value that is no bound
abbrev pub bound_of : Option Data → Option (Option Scalar)
bound_of None = Some None
bound_of (Some d) = option_map Some (scalar_of d)

abbrev pub given : Option Scalar → ℕ
given None = 0
given (Some value) = 1

abbrev pub is_text_bound : Option Scalar → Bool
is_text_bound None = true
is_text_bound (Some (Text s)) = true
is_text_bound (Some (Number n)) = false
is_text_bound (Some (Truth b)) = false

abbrev pub is_number_bound : Option Scalar → Bool
is_number_bound None = true
is_number_bound (Some (Text s)) = false
is_number_bound (Some (Number n)) = true
is_number_bound (Some (Truth b)) = false

abbrev pub are_texts : Option Scalar → Option Scalar → Option Scalar → Option Scalar → Bool
are_texts gte gt lte lt = ((is_text_bound gte && is_text_bound gt) && is_text_bound lte) && is_text_bound lt

abbrev pub are_numbers : Option Scalar → Option Scalar → Option Scalar → Option Scalar → Bool
are_numbers gte gt lte lt = ((is_number_bound gte && is_number_bound gt) && is_number_bound lte) && is_number_bound lt

-- all are texts or all are numbers, and they are the members of an object that is not empty
abbrev pub are_bounds : ℕ → Option Scalar → Option Scalar → Option Scalar → Option Scalar → Bool
are_bounds members gte gt lte lt =
    (are_texts gte gt lte lt || are_numbers gte gt lte lt) && (not (members == 0) && (given gte + given gt + given lte + given lt == members))

abbrev pub range_from : List ℕ → ℕ → Option (Option Scalar) → Option (Option Scalar) → Option (Option Scalar) → Option (Option Scalar) → Option Condition
range_from field members (Some gte) (Some gt) (Some lte) (Some lt) = if are_bounds members gte gt lte lt then Some (Range field gte gt lte lt) else None
range_from field members _ _ _ _ = None

abbrev pub members_in : Data → ℕ
members_in null = 0
members_in (boolean b) = 0
members_in (number n) = 0
members_in (string s) = 0
members_in (array ds) = 0
members_in (object ms) = members_len ms

abbrev pub bounds_of : List ℕ → Data → Option Condition
bounds_of field d = range_from field (members_in d) (bound_of (get (codes "gte") d)) (bound_of (get (codes "gt") d)) (bound_of (get (codes "lte") d)) (bound_of (get (codes "lt") d))

abbrev pub range_of : Option (List ℕ × Data) → Option Condition
range_of None = None
range_of (Some p) = bounds_of p.0 p.1

abbrev pub or_bad_value : {A : Type 0} → Option A → Result A BadQuery
or_bad_value None = Err BadValue
or_bad_value (Some a) = Ok a

abbrev pub condition_of : List ℕ → Data → Result Condition BadQuery
condition_of name d =
    if bytes_eq name (codes "match_all") then or_bad_value (match_all_of d)
    else (if bytes_eq name (codes "term") then or_bad_value (term_of (only d))
    else (if bytes_eq name (codes "range") then or_bad_value (range_of (only d))
    else (if bytes_eq name (codes "match") then or_bad_value (text_of Match (only d))
    else (if bytes_eq name (codes "prefix") then or_bad_value (text_of Prefix (only d))
    else (if bytes_eq name (codes "exists") then or_bad_value (exists_of (only d))
    else Err UnknownClause)))))
