-- What a text is read as, and what a value without other numbers is not.
use Rattle.std.proofs.Common.{◌≡◌, List, ℕ, Bool, true, false, ◌||◌, Some, None, is_none, refl, true≢false}
use Rattle.std.specs.Str.{IsUtf8, is_utf8}
use Rattle.std.proofs.lemmas.Str.{is_utf8-from_IsUtf8, IsUtf8-from_is_utf8}
use Rattle.serde_json.specs.Data.{Num, unsigned, negative, float, Data, null, boolean, number, string, array, object, Items, no_items, item, Members, no_members, member}
use Rattle.serde_json.specs.Find.{as_i64, is_float}
use Rattle.serde_json.specs.Read.{read}
use Rattle.serde_json.specs.Written.{has_float, items_have_float, members_have_float}
use Rattle.ccr_doc.specs.Sources.{value_of, has_other_number, items_have_other_number, members_have_other_number}

pub value_of_read : (text : List ℕ) (d : Data) → IsUtf8 text → read text ≡ Some d → value_of text ≡ Some d
unfolding value_of
value_of_read text d u e = rw (is_utf8-from_IsUtf8 text u) e

none_at : (text : List ℕ) (b : Bool) → is_utf8 text ≡ b → (IsUtf8 text → read text ≡ None) → value_of text ≡ None
unfolding value_of
none_at text true e h = rw e (h (IsUtf8-from_is_utf8 text e))
none_at text false e h = rw e refl

pub value_of_none : (text : List ℕ) → (IsUtf8 text → read text ≡ None) → value_of text ≡ None
value_of_none text h = none_at text (is_utf8 text) refl h

both_false : (a b c d : Bool) → a || b ≡ false → (a ≡ false → c ≡ false) → (b ≡ false → d ≡ false) → c || d ≡ false
both_false true b c d e f g = absurd (true≢false e)
both_false false b c d e f g = rw (f refl) (g e)

whole_number : (n : Num) → is_none (as_i64 n) ≡ false → is_float n ≡ false
whole_number (unsigned n) e = refl
whole_number (negative z) e = refl
whole_number (float x) e = absurd (true≢false e)

mutual
  pub no_float : (d : Data) → has_other_number d ≡ false → has_float d ≡ false
  no_float null e = refl
  no_float (boolean b) e = refl
  no_float (number n) e = whole_number n e
  no_float (string s) e = refl
  no_float (array ds) e = items_no_float ds e
  no_float (object ms) e = members_no_float ms e

  items_no_float : (ds : Items) → items_have_other_number ds ≡ false → items_have_float ds ≡ false
  items_no_float no_items e = refl
  items_no_float (item d ds) e = both_false _ _ (has_float d) (items_have_float ds) e (no_float d) (items_no_float ds)

  members_no_float : (ms : Members) → members_have_other_number ms ≡ false → members_have_float ms ≡ false
  members_no_float no_members e = refl
  members_no_float (member k d ms) e = both_false _ _ (has_float d) (members_have_float ms) e (no_float d) (members_no_float ms)
