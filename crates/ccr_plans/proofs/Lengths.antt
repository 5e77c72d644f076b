-- The id of a follower's lease is short enough to be one.
use Rattle.std.proofs.Common.{◌≡◌, ℕ, ◌+◌, ◌≤◌, true, List, [], ◌∷◌, ◌++◌, length, length-append, refl, subst, sym, arith}
use Rattle.std.specs.Prelude.{codes, nat_le, ◌&&◌}
use Rattle.std.specs.List.{list_all}
use Rattle.std.specs.Str.{IsUtf8}
use Rattle.std.proofs.lemmas.Bool.{and_parts, leb-true}
use Rattle.uuid.specs.Text.{hyphenated_text, lower}
use Rattle.uuid.proofs.TextLemmas.{by_index_length}
use Rattle.ccr_op.specs.Ids.{IsIdText}
use Rattle.ccr_op.specs.declared.index_name.IndexName.{IndexName}
use Rattle.ccr_meta.specs.Names.{index_uuid, is_first_byte, is_index_name, is_name, is_name_byte}
use Rattle.ccr_plans.specs.Made.{index_text, lease_id, named_text}

name_length : (text : List ℕ) → is_name text ≡ true → length text ≤ 64
name_length [] h = omega arith
name_length (c ∷ text) h =
    let parts = and_parts (is_first_byte c) (list_all is_name_byte text && nat_le (length text) 63) h in
    let few = leb-true (length text) 63 (and_parts (list_all is_name_byte text) (nat_le (length text) 63) parts.1).1 in
    omega arith

-- a text of these pieces, round a slash
slash_length : (a b : List ℕ) → length (a ++ (codes "/" ++ b)) ≡ length a + length b + 1
slash_length a b = let slash : length (codes "/") ≡ 1 = refl in omega (arith, slash, length-append a (codes "/" ++ b), length-append (codes "/") b)

named_length : (index : IndexName) → is_index_name index ≡ true → length (named_text index) ≤ 166
named_length index named =
    let parts = and_parts (is_name index.cluster) (is_name index.index) named in
    let cluster = name_length index.cluster parts.0 in
    let name = name_length index.index parts.1 in
    let uuid : length (hyphenated_text lower (index_uuid index)) ≡ 36 = by_index_length 36 _ in
    let front = slash_length index.cluster index.index in
    let whole = slash_length (index_text index) (hyphenated_text lower (index_uuid index)) in
    omega arith

lease_length : (a b : List ℕ) → length a ≤ 166 → length b ≤ 166 → length (a ++ (codes "-following-" ++ b)) ≤ 512
lease_length a b first second =
    let word : length (codes "-following-") ≡ 11 = refl in
    omega (arith, word, length-append a (codes "-following-" ++ b), length-append (codes "-following-") b)

lease_some : (a b : List ℕ) → 1 ≤ length (a ++ (codes "-following-" ++ b))
lease_some a b =
    let word : length (codes "-following-") ≡ 11 = refl in
    omega (arith, word, length-append a (codes "-following-" ++ b), length-append (codes "-following-") b)

-- the text is the id of a lease
pub IsIdText-lease : (index leader : IndexName) (text : List ℕ) → is_index_name index ≡ true → is_index_name leader ≡ true → text ≡ lease_id index leader → IsUtf8 text
    → IsIdText text
IsIdText-lease index leader text named other is utf8 =
    record {
      some = rw is (lease_some (named_text index) (named_text leader));
      few = rw is (lease_length (named_text index) (named_text leader) (named_length index named) (named_length leader other));
      text = utf8;
    }

pub IsUtf8-same : (text other : List ℕ) → other ≡ text → IsUtf8 text → IsUtf8 other
IsUtf8-same text other same utf8 = subst IsUtf8 (sym same) utf8
