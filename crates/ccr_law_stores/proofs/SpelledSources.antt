-- The compact text of a source is a text of 2 to 524,288 bytes of UTF-8.
use Rattle.std.specs.Prelude.{ℤ, pos, negsuc, Result, decimal, ◌/◌, ◌%◌, ◌==◌}
use Rattle.std.specs.Fmt.{signed_decimal, digits, digits_onto, digit_glyph}
use Rattle.std.specs.Str.{IsUtf8, is_utf8}
use Rattle.std.proofs.Common.{◌≡◌, ℕ, zero, suc, ◌+◌, ◌<◌, ◌≤◌, Bool, true, false, not, nat_lt, Option, Some, None, is_some, is_none, List, [], ◌∷◌, ◌++◌, length, Ok, Err, refl, ap, ◌∙◌, subst, arith}
use Rattle.std.proofs.lemmas.Bool.Decides.{nat_tests}
use Rattle.std.proofs.lemmas.Str.{IsUtf8-append, IsUtf8-nil, IsUtf8-from_is_utf8}
use Rattle.ccr_op.specs.Operation.{IsSourceText}
use Rattle.json.specs.Print.{quoted}
use Rattle.json.proofs.Printed.Utf8.{IsUtf8-quoted, IsUtf8-boolean, IsUtf8-are_ascii}
use Rattle.serde_json.specs.Data.{Num, unsigned, negative, float, Data, null, boolean, number, string, array, object, Items, no_items, item, Members, no_members, member, depth}
use Rattle.serde_json.specs.Find.{as_i64, as_object}
use Rattle.serde_json.specs.Read.{read}
use Rattle.serde_json.specs.Written.{number_text, comma_if, compact_text, items_text, members_text}
use Rattle.ccr_doc.specs.Sources.{has_other_number, items_have_other_number, members_have_other_number, value_of, judged, result_map, compact_of}
use Rattle.ccr_doc.specs.declared.sources.BadSource.{BadSource}
use Rattle.ccr_doc.specs.declared.sources.BadSource.TheVariants.{NotObject, Number, Nested, TooLarge}
use Rattle.ccr_law_base.proofs.Cases.{on_if}
use Rattle.ccr_law_stores.proofs.SpelledContents.{one_ascii}
use Rattle.ccr_law_stores.proofs.SpelledValues.{IsTextData, AreTextElements, AreTextFields, read_text}
use Rattle.std.proofs.lemmas.Bool.{or_parts}

-- ---- what is written is UTF-8

-- digits in base ten are ASCII, however many there are
digits_text : (k n : ℕ) (acc : List ℕ) → IsUtf8 acc → IsUtf8 (digits_onto k 10 false n acc)
digits_text zero n acc ok = ok
digits_text (suc k) n acc ok =
    let more : IsUtf8 (digit_glyph false (n % 10) ∷ acc) = IsUtf8-append (digit_glyph false (n % 10) ∷ []) acc (one_ascii (digit_glyph false (n % 10)) (glyph_low (n % 10) (omega arith))) ok in
    on_if IsUtf8 (n / 10 == 0) (digit_glyph false (n % 10) ∷ acc) (digits_onto k 10 false (n / 10) (digit_glyph false (n % 10) ∷ acc))
    (λ is. more) (λ isnt. digits_text k (n / 10) (digit_glyph false (n % 10) ∷ acc) more)
  where
    glyph_low : (d : ℕ) → d < 10 → digit_glyph false d < 128
    glyph_low d low = on_if (λ (g : ℕ). g < 128) (nat_lt d 10) (48 + d) (87 + d) (λ is. omega arith) (λ isnt. omega arith)

decimal_text : (n : ℕ) → IsUtf8 (decimal n)
unfolding digits
decimal_text n = digits_text 64 n [] IsUtf8-nil

whole_text : (n : Num) → is_none (as_i64 n) ≡ false → IsUtf8 (number_text n)
whole_text (unsigned n) e = decimal_text n
whole_text (negative z) e = signed_text z
  where
    signed_text : (z : ℤ) → IsUtf8 (signed_decimal z)
    signed_text (pos n) = decimal_text n
    signed_text (negsuc n) = IsUtf8-append (45 ∷ []) (decimal (suc n)) (one_ascii 45 (omega arith)) (decimal_text (suc n))
whole_text (float x) e = cc

comma_text : (later : Bool) (text : List ℕ) → IsUtf8 text → IsUtf8 (comma_if later ++ text)
comma_text true text ok = IsUtf8-append (44 ∷ []) text (IsUtf8-are_ascii (44 ∷ []) refl) ok
comma_text false text ok = ok

mutual
  written_text : (d : Data) → IsTextData d → has_other_number d ≡ false → IsUtf8 (compact_text d)
  written_text null own whole = IsUtf8-are_ascii _ refl
  written_text (boolean b) own whole = IsUtf8-boolean b
  written_text (number n) own whole = whole_text n whole
  written_text (string s) own whole = IsUtf8-quoted s own
  written_text (array ds) own whole = IsUtf8-append (91 ∷ []) (items_text false ds) (IsUtf8-are_ascii (91 ∷ []) refl) (items_written false ds own whole)
  written_text (object ms) own whole = IsUtf8-append (123 ∷ []) (members_text false ms) (IsUtf8-are_ascii (123 ∷ []) refl) (members_written false ms own whole)

  items_written : (later : Bool) (ds : Items) → AreTextElements ds → items_have_other_number ds ≡ false → IsUtf8 (items_text later ds)
  items_written later no_items own whole = IsUtf8-are_ascii (93 ∷ []) refl
  items_written later (item d ds) own whole =
      let both = or_parts (has_other_number d) (items_have_other_number ds) whole in
      comma_text later (compact_text d ++ items_text true ds)
      (IsUtf8-append (compact_text d) (items_text true ds) (written_text d own.0 both.0) (items_written true ds own.1 both.1))

  members_written : (later : Bool) (ms : Members) → AreTextFields ms → members_have_other_number ms ≡ false → IsUtf8 (members_text later ms)
  members_written later no_members own whole = IsUtf8-are_ascii (125 ∷ []) refl
  members_written later (member k d ms) own whole =
      let both = or_parts (has_other_number d) (members_have_other_number ms) whole in
      comma_text later (quoted k ++ 58 ∷ (compact_text d ++ members_text true ms))
      (IsUtf8-append (quoted k) (58 ∷ (compact_text d ++ members_text true ms)) (IsUtf8-quoted k own.0)
      (IsUtf8-append (58 ∷ []) (compact_text d ++ members_text true ms) (IsUtf8-are_ascii (58 ∷ []) refl)
      (IsUtf8-append (compact_text d) (members_text true ms) (written_text d own.1 both.0) (members_written true ms own.2 both.1))))

-- ---- the length

some_members : (ms : Members) → 1 ≤ length (members_text false ms)
some_members no_members = omega arith
some_members (member k d ms) = omega arith

object_long : (d : Data) → not (is_some (as_object d)) ≡ false → 2 ≤ length (compact_text d)
object_long null e = cc
object_long (boolean b) e = cc
object_long (number n) e = cc
object_long (string s) e = cc
object_long (array ds) e = cc
object_long (object ms) e = let some : 1 ≤ length (members_text false ms) = some_members ms in omega arith

-- ---- sources

pub record IsJudged (d : Data) : Type 0 where
  pub is_object : not (is_some (as_object d)) ≡ false
  pub whole : has_other_number d ≡ false
  pub few : nat_lt 524288 (length (compact_text d)) ≡ false

judged_is : (d e : Data) → judged (Some d) ≡ Ok e → (d ≡ e) × IsJudged d
judged_is d e =
    on_if (λ r. r ≡ Ok e → (d ≡ e) × IsJudged d) (not (is_some (as_object d))) (Err NotObject) _ (λ is h. cc)
    (λ object. on_if (λ r. r ≡ Ok e → (d ≡ e) × IsJudged d) (nat_lt 20 (depth d)) (Err Nested) _ (λ is h. cc)
    (λ low. on_if (λ r. r ≡ Ok e → (d ≡ e) × IsJudged d) (has_other_number d) (Err Number) _ (λ is h. cc)
    (λ whole. on_if (λ r. r ≡ Ok e → (d ≡ e) × IsJudged d) (nat_lt 524288 (length (compact_text d))) (Err TooLarge) (Ok d) (λ is h. cc)
    (λ few h. (cc, record { is_object = object; whole = whole; few = few })))))

value_read : (text : List ℕ) (d : Data) → value_of text ≡ Some d → IsUtf8 text × (read text ≡ Some d)
unfolding value_of
value_read text d =
    on_if (λ (o : Option Data). o ≡ Some d → IsUtf8 text × (read text ≡ Some d)) (is_utf8 text) (read text) None
    (λ is e. (IsUtf8-from_is_utf8 text is, e)) (λ isnt e. cc)

pub source_fits : (body text : List ℕ) → compact_of body ≡ Ok text → IsSourceText text
source_fits body text = by_value (value_of body) refl
  where
    by_value : (o : Option Data) → value_of body ≡ o → result_map compact_text (judged o) ≡ Ok text → IsSourceText text
    by_value None is e = cc
    by_value (Some d) is e =
        let made : (f : Data) × (judged (Some d) ≡ Ok f) × (compact_text f ≡ text) = by_result (judged (Some d)) refl e in
        let own : (d ≡ made.0) × IsJudged d = judged_is d made.0 made.1 in
        let from : IsUtf8 body × (read body ≡ Some d) = value_read body d is in
        subst IsSourceText (same_text d made.0 own.0 made.2) record {
          some = object_long d own.1.is_object;
          few = let test : nat_lt 524288 (length (compact_text d)) ≡ false = own.1.few in at_most (length (compact_text d)) test;
          text = written_text d (read_text body d from.0 from.1) own.1.whole;
        }
      where
        same_text : (d f : Data) → d ≡ f → compact_text f ≡ text → compact_text d ≡ text
        same_text d f same is = ap compact_text same ∙ is

        at_most : (n : ℕ) → nat_lt 524288 n ≡ false → n ≤ 524288
        at_most n test = grind (arith, nat_tests)

        by_result : (r : Result Data BadSource) → judged (Some d) ≡ r → result_map compact_text r ≡ Ok text → (f : Data) × (judged (Some d) ≡ Ok f) × (compact_text f ≡ text)
        by_result (Ok f) same e = (f, same, cc)
        by_result (Err why) same e = cc
