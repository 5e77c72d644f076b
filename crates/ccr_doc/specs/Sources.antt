-- What a source is, or why it is refused.
use Rattle.std.specs.Prelude.{ℕ, List, length, Bool, false, ◌||◌, not, nat_lt, is_some, is_none, if◌then◌else◌, Option, Some, None, Result, Ok, Err}
use Rattle.std.specs.Str.{is_utf8}
use Rattle.serde_json.specs.Data.{Data, null, boolean, number, string, array, object, Items, no_items, item, Members, no_members, member, depth}
use Rattle.serde_json.specs.Find.{as_i64, as_object}
use Rattle.serde_json.specs.Read.{read}
use Rattle.serde_json.specs.Written.{compact_text}
use Rattle.ccr_op.specs.Operation.{most_source_bytes}
use Rattle.ccr_doc.specs.declared.documents.Field.{Field}
use Rattle.ccr_doc.specs.declared.sources.BadSource.{BadSource}
use Rattle.ccr_doc.specs.declared.sources.BadSource.TheVariants.{NotObject, Number, Nested, TooLarge, NotJson}
use Rattle.ccr_doc.specs.Fields.{fields_of}

-- whether some number is not a whole number of 64 bits with a sign
abbrev mutual
  pub has_other_number : Data → Bool
  has_other_number null = false
  has_other_number (boolean b) = false
  has_other_number (number n) = is_none (as_i64 n)
  has_other_number (string s) = false
  has_other_number (array ds) = items_have_other_number ds
  has_other_number (object ms) = members_have_other_number ms

  pub items_have_other_number : Items → Bool
  items_have_other_number no_items = false
  items_have_other_number (item d ds) = has_other_number d || items_have_other_number ds

  pub members_have_other_number : Members → Bool
  members_have_other_number no_members = false
  members_have_other_number (member k d ms) = has_other_number d || members_have_other_number ms

-- the value of a text in UTF-8
unfoldable pub value_of : List ℕ → Option Data
value_of text = if is_utf8 text then read text else None

-- the first refusal, or the value
abbrev pub judged : Option Data → Result Data BadSource
judged None = Err NotJson
judged (Some d) = if not (is_some (as_object d)) then Err NotObject
    else (if nat_lt 20 (depth d) then Err Nested
    else (if has_other_number d then Err Number
    else (if nat_lt most_source_bytes (length (compact_text d)) then Err TooLarge
    else Ok d)))

abbrev pub source_of : List ℕ → Result Data BadSource
source_of text = judged (value_of text)

abbrev pub result_map : {A B E : Type 0} → (A → B) → Result A E → Result B E
result_map f (Ok a) = Ok (f a)
result_map f (Err e) = Err e

-- a source's document
abbrev pub document_of : List ℕ → Result (List Field) BadSource
document_of text = result_map fields_of (source_of text)

-- a source's text with no space, and each object's members in ascending order of their names
abbrev pub compact_of : List ℕ → Result (List ℕ) BadSource
compact_of text = result_map compact_text (source_of text)
