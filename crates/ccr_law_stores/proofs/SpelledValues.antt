-- The value that a text of UTF-8 is read as has strings and keys of UTF-8.
use Rattle.std.specs.List.{AllByRecursion}
use Rattle.std.specs.Prelude.{option_map, option_and_then}
use Rattle.std.specs.Ordering.{nat_cmp, match_ordering}
use Rattle.std.specs.Cmp.Lexicographic.{slice_cmp}
use Rattle.std.specs.declared.cmp.Ordering.{Ordering}
use Rattle.std.specs.declared.cmp.Ordering.TheVariants.{Less, Equal, Greater}
use Rattle.std.specs.Str.{IsUtf8}
use Rattle.std.proofs.Common.{◌≡◌, ℕ, zero, suc, Option, Some, None, List, [], ◌∷◌, length, refl, subst}
use Rattle.json.specs.Token.{Token}
use Rattle.json.specs.Lex.{tokens}
use Rattle.json.specs.Json as json
use Rattle.serde_json.specs.Data.{Data, null, boolean, number, string, array, object, Items, no_items, item, Members, no_members, member, put}
use Rattle.serde_json.specs.Read.{number_of, of_json, of_items, of_members, read, max_depth}
use Rattle.ccr_law_stores.proofs.SpelledTokens.{IsTextToken, tokens_text}
use Rattle.ccr_law_base.proofs.Lists.{some_equal}

abbrev AreTexts : List Token → Type 0
AreTexts ts = AllByRecursion IsTextToken ts

-- ---- JSON

abbrev mutual
  pub IsTextJson : json.Json → Type 0
  IsTextJson json.null = Unit {0}
  IsTextJson (json.boolean b) = Unit {0}
  IsTextJson (json.number s) = Unit {0}
  IsTextJson (json.string s) = IsUtf8 s
  IsTextJson (json.array js) = AreTextItems js
  IsTextJson (json.object ms) = AreTextMembers ms

  pub AreTextItems : json.Items → Type 0
  AreTextItems json.no_items = Unit {0}
  AreTextItems (json.item j js) = IsTextJson j × AreTextItems js

  pub AreTextMembers : json.Members → Type 0
  AreTextMembers json.no_members = Unit {0}
  AreTextMembers (json.member k j ms) = IsUtf8 k × IsTextJson j × AreTextMembers ms

-- what was read is of texts, and so is what is left
abbrev Gives : {A : Type 0} → (A → Type 0) → Option (A × List Token) → Type 0
Gives P None = Unit {0}
Gives P (Some p) = P p.0 × AreTexts p.1

abbrev Parses : {A : Type 0} → (A → Type 0) → json.Parse A → Type 0
Parses P parse = (ts : List Token) → AreTexts ts → Gives P (parse ts)

mapped : {A B : Type 0} (P : A → Type 0) (Q : B → Type 0) (f : A → B) → ((a : A) → P a → Q (f a)) → (o : Option (A × List Token)) → Gives P o → Gives Q (json.parse_map f o)
mapped P Q f step None given = tt
mapped P Q f step (Some p) given = (step p.0 given.0, given.1)

closed : (ts : List Token) → AreTexts ts → (rest : List Token) → json.after_end_array ts ≡ Some rest → AreTexts rest
closed [] all rest e = cc
closed (Token.begin_object ∷ ts) all rest e = cc
closed (Token.end_object ∷ ts) all rest e = cc
closed (Token.begin_array ∷ ts) all rest e = cc
closed (Token.end_array ∷ ts) all rest e = subst AreTexts (some_equal ts rest e) all.1
closed (Token.key s ∷ ts) all rest e = cc
closed (Token.string s ∷ ts) all rest e = cc
closed (Token.number s ∷ ts) all rest e = cc
closed (Token.boolean b ∷ ts) all rest e = cc
closed (Token.null ∷ ts) all rest e = cc
closed (Token.bad ∷ ts) all rest e = cc

abbrev IsTextKey : Option (List ℕ) → Type 0
IsTextKey None = Unit {0}
IsTextKey (Some k) = IsUtf8 k

key_text : Parses IsTextKey json.read_key
key_text [] all = tt
key_text (Token.begin_object ∷ ts) all = tt
key_text (Token.end_object ∷ ts) all = (tt, all.1)
key_text (Token.begin_array ∷ ts) all = tt
key_text (Token.end_array ∷ ts) all = tt
key_text (Token.key s ∷ ts) all = (all.0, all.1)
key_text (Token.string s ∷ ts) all = tt
key_text (Token.number s ∷ ts) all = tt
key_text (Token.boolean b ∷ ts) all = tt
key_text (Token.null ∷ ts) all = tt
key_text (Token.bad ∷ ts) all = tt

item_text : (more : json.Parse json.Items) → Parses AreTextItems more → (o : Option (json.Json × List Token)) → Gives IsTextJson o
    → Gives AreTextItems (option_and_then (λ p. json.parse_map (json.item p.0) (more p.1)) o)
item_text more rest None given = tt
item_text more rest (Some p) given = mapped AreTextItems AreTextItems (json.item p.0) (λ js ok. (given.0, ok)) (more p.1) (rest p.1 given.1)

items_step_text : (value : json.Parse json.Json) (more : json.Parse json.Items) → Parses IsTextJson value → Parses AreTextItems more
    → (ts : List Token) → AreTexts ts → (o : Option (List Token)) → json.after_end_array ts ≡ o → Gives AreTextItems (json.items_step value more ts o)
items_step_text value more one rest ts all (Some left) is = (tt, closed ts all left is)
items_step_text value more one rest ts all None is = item_text more rest (value ts) (one ts all)

items_text : (value : json.Parse json.Json) → Parses IsTextJson value → (n : ℕ) → Parses AreTextItems (json.items value n)
unfolding json.items
items_text value one zero ts all = tt
items_text value one (suc n) ts all = items_step_text value (json.items value n) one (items_text value one n) ts all (json.after_end_array ts) refl

member_text : (k : List ℕ) (more : json.Parse json.Members) → IsUtf8 k → Parses AreTextMembers more → (o : Option (json.Json × List Token)) → Gives IsTextJson o
    → Gives AreTextMembers (option_and_then (λ p. json.parse_map (json.member k p.0) (more p.1)) o)
member_text k more key rest None given = tt
member_text k more key rest (Some p) given = mapped AreTextMembers AreTextMembers (json.member k p.0) (λ ms ok. (key, given.0, ok)) (more p.1) (rest p.1 given.1)

members_step_text : (value : json.Parse json.Json) (more : json.Parse json.Members) → Parses IsTextJson value → Parses AreTextMembers more
    → (k : Option (List ℕ)) → IsTextKey k → Parses AreTextMembers (json.members_step value more k)
members_step_text value more one rest None key ts all = (tt, all)
members_step_text value more one rest (Some k) key ts all = member_text k more key rest (value ts) (one ts all)

keyed_text : (value : json.Parse json.Json) (more : json.Parse json.Members) → Parses IsTextJson value → Parses AreTextMembers more
    → (o : Option (Option (List ℕ) × List Token)) → Gives IsTextKey o → Gives AreTextMembers (option_and_then (λ p. json.members_step value more p.0 p.1) o)
keyed_text value more one rest None given = tt
keyed_text value more one rest (Some p) given = members_step_text value more one rest p.0 given.0 p.1 given.1

members_text : (value : json.Parse json.Json) → Parses IsTextJson value → (n : ℕ) → Parses AreTextMembers (json.members value n)
unfolding json.members
members_text value one zero ts all = tt
members_text value one (suc n) ts all = keyed_text value (json.members value n) one (members_text value one n) (json.read_key ts) (key_text ts all)

with_text : (a : json.Parse json.Items) (o : json.Parse json.Members) → Parses AreTextItems a → Parses AreTextMembers o → Parses IsTextJson (json.value_with a o)
with_text a o items members [] all = tt
with_text a o items members (Token.begin_object ∷ ts) all = mapped AreTextMembers IsTextJson json.object (λ ms ok. ok) (o ts) (members ts all.1)
with_text a o items members (Token.end_object ∷ ts) all = tt
with_text a o items members (Token.begin_array ∷ ts) all = mapped AreTextItems IsTextJson json.array (λ js ok. ok) (a ts) (items ts all.1)
with_text a o items members (Token.end_array ∷ ts) all = tt
with_text a o items members (Token.key s ∷ ts) all = tt
with_text a o items members (Token.string s ∷ ts) all = (all.0, all.1)
with_text a o items members (Token.number s ∷ ts) all = (tt, all.1)
with_text a o items members (Token.boolean b ∷ ts) all = (tt, all.1)
with_text a o items members (Token.null ∷ ts) all = (tt, all.1)
with_text a o items members (Token.bad ∷ ts) all = tt

value_text : (depth : ℕ) → Parses IsTextJson (json.value depth)
unfolding json.value
value_text zero = with_text (λ ts. None) (λ ts. None) (λ ts all. tt) (λ ts all. tt)
value_text (suc depth) =
    with_text (λ ts. json.items (json.value depth) (length ts) ts) (λ ts. json.members (json.value depth) (length ts) ts)
    (λ ts all. items_text (json.value depth) (value_text depth) (length ts) ts all) (λ ts all. members_text (json.value depth) (value_text depth) (length ts) ts all)

-- ---- values

abbrev mutual
  pub IsTextData : Data → Type 0
  IsTextData null = Unit {0}
  IsTextData (boolean b) = Unit {0}
  IsTextData (number n) = Unit {0}
  IsTextData (string s) = IsUtf8 s
  IsTextData (array ds) = AreTextElements ds
  IsTextData (object ms) = AreTextFields ms

  pub AreTextElements : Items → Type 0
  AreTextElements no_items = Unit {0}
  AreTextElements (item d ds) = IsTextData d × AreTextElements ds

  pub AreTextFields : Members → Type 0
  AreTextFields no_members = Unit {0}
  AreTextFields (member k d ms) = IsUtf8 k × IsTextData d × AreTextFields ms

put_text : (k : List ℕ) (d : Data) (ms : Members) → IsUtf8 k → IsTextData d → AreTextFields ms → AreTextFields (put k d ms)
put_text k d no_members key own rest = (key, own, tt)
put_text k d (member l e ms) key own rest = by_order (slice_cmp nat_cmp k l) (put_text k d ms key own rest.2)
  where
    by_order : (o : Ordering) → AreTextFields (put k d ms)
        → AreTextFields (match_ordering o (member k d (member l e ms)) (member l d ms) (member l e (put k d ms)))
    by_order Less later = (key, own, rest)
    by_order Equal later = (rest.0, own, rest.2)
    by_order Greater later = (rest.0, rest.1, later)

abbrev Makes : {A : Type 0} → (A → Type 0) → Option A → Type 0
Makes P None = Unit {0}
Makes P (Some a) = P a

made : {A B : Type 0} (P : A → Type 0) (Q : B → Type 0) (f : A → B) → ((a : A) → P a → Q (f a)) → (o : Option A) → Makes P o → Makes Q (option_map f o)
made P Q f step None given = tt
made P Q f step (Some a) given = step a given

then_made : {A B : Type 0} (P : A → Type 0) (Q : B → Type 0) (f : A → Option B) → ((a : A) → P a → Makes Q (f a)) → (o : Option A) → Makes P o → Makes Q (option_and_then f o)
then_made P Q f step None given = tt
then_made P Q f step (Some a) given = step a given

mutual
  json_data : (j : json.Json) → IsTextJson j → Makes IsTextData (of_json j)
  json_data json.null own = tt
  json_data (json.boolean b) own = tt
  json_data (json.number s) own = made (λ n. Unit {0}) IsTextData number (λ n any. tt) (number_of s) (any_made (number_of s))
    where
      any_made : {A : Type 0} → (o : Option A) → Makes (λ a. Unit {0}) o
      any_made None = tt
      any_made (Some a) = tt
  json_data (json.string s) own = own
  json_data (json.array js) own = made AreTextElements IsTextData array (λ ds ok. ok) (of_items js) (items_data js own)
  json_data (json.object ms) own = made AreTextFields IsTextData object (λ fields ok. ok) (of_members ms no_members) (members_data ms no_members own tt)

  items_data : (js : json.Items) → AreTextItems js → Makes AreTextElements (of_items js)
  items_data json.no_items all = tt
  items_data (json.item j js) all =
      then_made IsTextData AreTextElements (λ d. option_map (item d) (of_items js))
      (λ d own. made AreTextElements AreTextElements (item d) (λ ds rest. (own, rest)) (of_items js) (items_data js all.1)) (of_json j) (json_data j all.0)

  members_data : (ms : json.Members) (found : Members) → AreTextMembers ms → AreTextFields found → Makes AreTextFields (of_members ms found)
  members_data json.no_members found all rest = rest
  members_data (json.member k j ms) found all rest =
      then_made IsTextData AreTextFields (λ d. of_members ms (put k d found))
      (λ d own. members_data ms (put k d found) all.2 (put_text k d found all.0 own rest)) (of_json j) (json_data j all.1)

whole_text : (o : Option (json.Json × List Token)) → Gives IsTextJson o → Makes IsTextJson (option_and_then (λ p. json.if_last p.0 p.1) o)
whole_text None given = tt
whole_text (Some p) given = last p.0 p.1 given.0
  where
    last : (j : json.Json) (ts : List Token) → IsTextJson j → Makes IsTextJson (json.if_last j ts)
    last j [] own = own
    last j (t ∷ ts) own = tt

-- what a text of UTF-8 is read as
pub read_text : (text : List ℕ) (d : Data) → IsUtf8 text → read text ≡ Some d → IsTextData d
read_text text d utf8 e =
    subst (Makes IsTextData) e
    (then_made IsTextJson IsTextData of_json json_data (option_and_then (λ p. json.if_last p.0 p.1) (json.value max_depth (tokens text)))
    (whole_text (json.value max_depth (tokens text)) (value_text max_depth (tokens text) (tokens_text text utf8))))
