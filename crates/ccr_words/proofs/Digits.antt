-- numbers in words
use Rattle.std.proofs.Common.{◌≡◌, ◌≢◌, ◌∙◌, ℕ, ◌^◌, ◌<◌, ◌≤◌, Bool, true, false, List, [], ◌∷◌, length, refl, ap, sym, arith}
use Rattle.std.specs.Prelude.{◌&&◌, nat_lt, nat_le, if◌then◌else◌, Result, Some, None}
use Rattle.std.specs.Result.{result_ok}
use Rattle.std.specs.Char.{is_ascii_digit}
use Rattle.std.specs.List.{list_all}
use Rattle.std.specs.Str.{all_ascii_digits}
use Rattle.std.specs.Str.Parse.{digits_value, ParsesUnsigned}
use Rattle.std.proofs.lemmas.Bool.{and_parts, and_left, and_right, and_from, ltb-true, leb-true, lt-ltb, lt-leb, le-leb}
use Rattle.std.proofs.lemmas.Str.Parse.{IsNumeralModel, numerals_by_value, tells_all_ascii_digits, parse_gives, digits_value_short}
use Rattle.ccr_words.specs.Numbers.{is_number, number_in}

digits_are : (ds : List ℕ) → list_all is_ascii_digit ds ≡ all_ascii_digits ds
digits_are [] = refl
digits_are (d ∷ ds) = ap (λ b. is_ascii_digit d && b) (digits_are ds)

numerals : IsNumeralModel (λ ds. all_ascii_digits ds ≡ true) (digits_value 10)
numerals = numerals_by_value (λ ds. all_ascii_digits ds ≡ true) tells_all_ascii_digits

-- a word of 1 to 9 digits is read as the number that they write
pub read_number : {E : Type 0} (word : List ℕ) (r : Result ℕ E) → ParsesUnsigned 32 10 word r → is_number word ≡ true → result_ok r ≡ number_in word
read_number word r parses is =
    let parts = and_parts (nat_lt 0 (length word) && nat_le (length word) 9) (list_all is_ascii_digit word) is in
    let sizes = and_parts (nat_lt 0 (length word)) (nat_le (length word) 9) parts.0 in
    let digits : all_ascii_digits word ≡ true = sym (digits_are word) ∙ parts.1 in
    let some : 0 < length word = ltb-true 0 (length word) sizes.0 in
    let short : digits_value 10 word < 10 ^ 9 = digits_value_short numerals word 9 digits (leb-true (length word) 9 sizes.1) in
    let fits : digits_value 10 word < 2 ^ 32 = omega arith in
    ap result_ok (parse_gives numerals 32 word r parses digits some fits) ∙ sym (ap (λ b. if b then Some (digits_value 10 word) else None) is)

pub none_is_no_number : (word : List ℕ) → length word ≡ 0 → false ≡ is_number word
none_is_no_number [] e = refl
none_is_no_number (c ∷ word) e = absurd (omega (arith, e))

pub long_is_no_number : (word : List ℕ) → 9 < length word → false ≡ is_number word
long_is_no_number word long =
    sym (and_left (nat_lt 0 (length word) && nat_le (length word) 9) (list_all is_ascii_digit word) (and_right (nat_lt 0 (length word)) (nat_le (length word) 9) (lt-leb (length word) 9 long)))

-- a word of 1 to 9 bytes is a number exactly where these are digits
pub is_number_by_digits : (word : List ℕ) (b : Bool) → length word ≢ 0 → length word ≤ 9 → b ≡ list_all is_ascii_digit word → b ≡ is_number word
is_number_by_digits word b some short is =
    is ∙ sym (ap (λ t. t && list_all is_ascii_digit word) (and_from (nat_lt 0 (length word)) (nat_le (length word) 9) (lt-ltb 0 (length word) (omega (arith, some))) (le-leb (length word) 9 short)))

pub ruleset telling = (none_is_no_number, long_is_no_number, is_number_by_digits)
