-- When a document meets a condition.
use Rattle.std.specs.Prelude.{ℕ, List, Bool, true, false, ◌&&◌, ◌||◌, is_some, Option, Some, None}
use Rattle.std.specs.List.{list_any, starts_with}
use Rattle.std.specs.Ordering.{is_eq, is_ge, is_gt, is_le, is_lt}
use Rattle.std.specs.declared.cmp.Ordering.{Ordering}
use Rattle.std.specs.Str.{bytes_eq}
use Rattle.std.specs.Bool.{nat_eq}
use Rattle.ccr_doc.specs.Scalars.{scalar_cmp}
use Rattle.ccr_doc.specs.Words.{have_common_token}
use Rattle.ccr_doc.specs.declared.documents.Field.{Field}
use Rattle.ccr_doc.specs.declared.scalars.Scalar.{Scalar}
use Rattle.ccr_doc.specs.declared.scalars.Scalar.TheVariants.{Text, Number, Truth}
use Rattle.ccr_query.specs.declared.conditions.Condition.{Condition}
use Rattle.ccr_query.specs.declared.conditions.Condition.TheVariants.{MatchAll, Term, Range, Match, Prefix, Exists}

-- some value of the field passes the test
abbrev pub any_value : List ℕ → (Scalar → Bool) → List Field → Bool
any_value field test document = list_any (λ at. bytes_eq at.name field && test at.value) document

-- both are numbers, or both are texts
abbrev pub are_comparable : Scalar → Scalar → Bool
are_comparable (Text a) (Text b) = true
are_comparable (Text a) (Number b) = false
are_comparable (Text a) (Truth b) = false
are_comparable (Number a) (Number b) = true
are_comparable (Number a) (Text b) = false
are_comparable (Number a) (Truth b) = false
are_comparable (Truth a) (Text b) = false
are_comparable (Truth a) (Number b) = false
are_comparable (Truth a) (Truth b) = false

-- a bound that is there is of the value's kind, and the value's order to it passes
abbrev pub meets_bound : (Ordering → Bool) → Scalar → Option Scalar → Bool
meets_bound passes value None = true
meets_bound passes value (Some bound) = are_comparable value bound && passes (scalar_cmp value bound)

-- there is a bound, and the value meets all
abbrev pub is_within : Option Scalar → Option Scalar → Option Scalar → Option Scalar → Scalar → Bool
is_within gte gt lte lt value =
    (is_some gte || is_some gt || is_some lte || is_some lt)
    && meets_bound is_ge value gte && meets_bound is_gt value gt && meets_bound is_le value lte && meets_bound is_lt value lt

abbrev pub has_token_of : List ℕ → Scalar → Bool
has_token_of text (Text value) = have_common_token text value
has_token_of text (Number n) = false
has_token_of text (Truth b) = false

abbrev pub has_prefix : List ℕ → Scalar → Bool
has_prefix text (Text value) = starts_with nat_eq value text
has_prefix text (Number n) = false
has_prefix text (Truth b) = false

abbrev pub meets : Condition → List Field → Bool
meets MatchAll document = true
meets (Term field value) document = any_value field (λ found. is_eq (scalar_cmp found value)) document
meets (Range field gte gt lte lt) document = any_value field (is_within gte gt lte lt) document
meets (Match field text) document = any_value field (has_token_of text) document
meets (Prefix field text) document = any_value field (has_prefix text) document
meets (Exists field) document = any_value field (λ _. true) document
