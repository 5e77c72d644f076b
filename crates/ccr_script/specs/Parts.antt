-- The parts of commands in a JSON object.
use Rattle.std.specs.Prelude.{ℕ, Bool, false, if◌then◌else◌, List, [], Option, Some, None, option_map, option_and_then, unwrap_or, Ok, Err, Result}
use Rattle.std.specs.List.{before_first, after_first}
use Rattle.serde_json.specs.Data.{Data}
use Rattle.serde_json.specs.Find.{get, as_str, as_bool, as_array}
use Rattle.ccr_op.specs.declared.index_name.IndexName.{IndexName}
use Rattle.ccr_query.specs.declared.conditions.Condition.TheVariants.{MatchAll}
use Rattle.ccr_query.specs.declared.reading.BadQuery.{BadQuery}
use Rattle.ccr_query.specs.declared.sorting.SortKey.{SortKey}
use Rattle.ccr_query.specs.Queries.{Tree, condition}
use Rattle.ccr_query.specs.Bools.{query_of}
use Rattle.ccr_query.specs.Keys.{each_of, keys_of_value}
use Rattle.ccr_script.specs.declared.fields.Field.{Field}
use Rattle.ccr_script.specs.declared.fields.Field.TheVariants as field
use Rattle.ccr_script.specs.Grammar.{name_of}
use Rattle.ccr_script.specs.Kinds.{number_of, is_id, is_slash}

abbrev pub at : Field → Data → Option Data
at f d = get (name_of f) d

abbrev pub text_in : Field → Data → List ℕ
text_in f d = unwrap_or (option_and_then as_str (at f d)) []

-- what stands before and behind the slash
abbrev pub index_of_text : List ℕ → IndexName
index_of_text text = record { cluster = before_first is_slash text; index = after_first is_slash text }

abbrev pub index_in : Field → Data → IndexName
index_in f d = index_of_text (text_in f d)

abbrev pub number_at : Field → Data → Option ℕ
number_at f d = option_and_then number_of (at f d)

-- the default stands first
abbrev pub number_or : ℕ → Field → Data → ℕ
number_or default f d = unwrap_or (number_at f d) default

abbrev pub truth_in : Field → Data → Bool
truth_in f d = unwrap_or (option_and_then as_bool (at f d)) false

abbrev pub id_of : List ℕ → Option (List ℕ)
id_of text = if is_id text then Some text else None

abbrev pub id_at : Field → Data → Option (List ℕ)
id_at f d = option_and_then id_of (option_and_then as_str (at f d))

abbrev pub names_from : Option Data → Option (List (List ℕ))
names_from None = Some []
names_from (Some d) = option_and_then (each_of as_str) (as_array d)

-- a list of texts, which is empty where the field is absent
abbrev pub names_in : Field → Data → Option (List (List ℕ))
names_in f d = names_from (at f d)

abbrev pub both_or_none : Option ℕ → Option ℕ → Option (Option (ℕ × ℕ))
both_or_none (Some seq) (Some term) = Some (Some (seq, term))
both_or_none None None = Some None
both_or_none (Some seq) None = None
both_or_none None (Some term) = None

-- the number and the term that a write expects
abbrev pub expect_in : Data → Option (Option (ℕ × ℕ))
expect_in d = both_or_none (number_at field.IfSeqNo d) (number_at field.IfPrimaryTerm d)

abbrev pub keys_from : Option Data → Option (List SortKey)
keys_from None = Some []
keys_from (Some d) = keys_of_value d

abbrev pub keys_in : Data → Option (List SortKey)
keys_in d = keys_from (at field.Sort d)

abbrev pub if_ok : {A : Type 0} → Result A BadQuery → Option A
if_ok (Ok a) = Some a
if_ok (Err e) = None

abbrev pub query_from : Option Data → Option Tree
query_from None = Some (condition MatchAll)
query_from (Some d) = if_ok (query_of 32 d)

-- the query, which is `match_all` where the field is absent
abbrev pub query_in : Data → Option Tree
query_in d = query_from (at field.Query d)
