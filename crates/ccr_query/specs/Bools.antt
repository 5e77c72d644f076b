-- A query with lists of queries, of which at most 32 stand inside one another.
use Rattle.std.specs.Prelude.{ℕ, zero, suc, List, Bool, ◌||◌, codes, if◌then◌else◌, Option, Some, None, Result, Ok, Err}
use Rattle.std.specs.Str.{bytes_eq}
use Rattle.serde_json.specs.Data.{Data, null, boolean, number, string, array, object, Items, no_items, item, Members, no_members, member}
use Rattle.ccr_doc.specs.Sources.{value_of}
use Rattle.ccr_query.specs.declared.reading.BadQuery.{BadQuery}
use Rattle.ccr_query.specs.declared.reading.BadQuery.TheVariants.{BadValue, Depth, NotJson}
use Rattle.ccr_query.specs.Queries.{Tree, condition, bool, Trees, no_trees, tree}
use Rattle.ccr_query.specs.Reading.{condition_of}

abbrev pub after : {A B : Type 0} → Result A BadQuery → (A → Result B BadQuery) → Result B BadQuery
after (Ok a) next = next a
after (Err e) next = Err e

pub record Lists : Type 0 where
  pub must : Trees
  pub filter : Trees
  pub should : Trees
  pub must_not : Trees

abbrev pub tree_of_lists : Lists → Tree
tree_of_lists l = bool l.must l.filter l.should l.must_not

abbrev pub no_lists : Lists
no_lists = record { must = no_trees; filter = no_trees; should = no_trees; must_not = no_trees }

abbrev pub is_list_name : List ℕ → Bool
is_list_name name = ((bytes_eq name (codes "must") || bytes_eq name (codes "filter")) || bytes_eq name (codes "should")) || bytes_eq name (codes "must_not")

abbrev pub with_list : List ℕ → Trees → Lists → Lists
with_list name queries lists =
    if bytes_eq name (codes "must") then record lists { must = queries }
    else (if bytes_eq name (codes "filter") then record lists { filter = queries }
    else (if bytes_eq name (codes "should") then record lists { should = queries }
    else record lists { must_not = queries }))

-- `levels` is how many more of these may stand inside one another.
abbrev mutual
  pub query_of : ℕ → Data → Result Tree BadQuery
  query_of levels null = Err BadValue
  query_of levels (boolean b) = Err BadValue
  query_of levels (number n) = Err BadValue
  query_of levels (string s) = Err BadValue
  query_of levels (array ds) = Err BadValue
  query_of levels (object ms) = member_query_of levels ms

  pub member_query_of : ℕ → Members → Result Tree BadQuery
  member_query_of levels no_members = Err BadValue
  member_query_of levels (member k d no_members) = if bytes_eq k (codes "bool") then bool_of levels d else after (condition_of k d) (λ c. Ok (condition c))
  member_query_of levels (member k d (member l e ms)) = Err BadValue

  pub bool_of : ℕ → Data → Result Tree BadQuery
  bool_of zero d = Err Depth
  bool_of (suc levels) null = Err BadValue
  bool_of (suc levels) (boolean b) = Err BadValue
  bool_of (suc levels) (number n) = Err BadValue
  bool_of (suc levels) (string s) = Err BadValue
  bool_of (suc levels) (array ds) = Err BadValue
  bool_of (suc levels) (object ms) = after (lists_of levels ms no_lists) (λ lists. Ok (tree_of_lists lists))

  pub lists_of : ℕ → Members → Lists → Result Lists BadQuery
  lists_of levels no_members lists = Ok lists
  lists_of levels (member k d ms) lists = if is_list_name k then after (list_of levels d) (λ queries. lists_of levels ms (with_list k queries lists)) else Err BadValue

  pub list_of : ℕ → Data → Result Trees BadQuery
  list_of levels null = Err BadValue
  list_of levels (boolean b) = Err BadValue
  list_of levels (number n) = Err BadValue
  list_of levels (string s) = Err BadValue
  list_of levels (array ds) = queries_of levels ds
  list_of levels (object ms) = Err BadValue

  pub queries_of : ℕ → Items → Result Trees BadQuery
  queries_of levels no_items = Ok no_trees
  queries_of levels (item d ds) = after (query_of levels d) (λ q. after (queries_of levels ds) (λ qs. Ok (tree q qs)))

-- the query of a text in UTF-8
abbrev pub read_from : Option Data → Result Tree BadQuery
read_from None = Err NotJson
read_from (Some d) = query_of 32 d

abbrev pub query_from : List ℕ → Result Tree BadQuery
query_from text = read_from (value_of text)
