-- The content of a string in a text of UTF-8 is UTF-8.
use Rattle.std.specs.Char.{digit_value, is_digit, encode_utf8, IsScalar}
use Rattle.std.specs.Str.{IsUtf8}
use Rattle.std.specs.Prelude.{option_and_then}
use Rattle.std.proofs.Common.{◌≡◌, ℕ, suc, ◌+◌, ◌-◌, ◌*◌, ◌<◌, ◌≤◌, ◌==◌, ◌&&◌, ◌||◌, Bool, true, false, cond, nat_lt, nat_le, Option, Some, None, List, [], ◌∷◌, ◌++◌, length, take, drop, get_or, refl, sym, ap, ◌∙◌, subst, arith, append_assoc, append-nil}
use Rattle.std.proofs.lemmas.Bool.Decides.{nat_tests}
use Rattle.std.proofs.lemmas.Str.{IsUtf8-append, IsUtf8-encode, IsUtf8-take, IsUtf8-drop, IsCharBoundary-before_ascii, IsCharBoundary-after_ascii, encode_ascii}
use Rattle.json.specs.Text.{code_unit, short_escape, is_high_surrogate, is_low_surrogate, surrogate_pair, Within, plain, after_backslash, after_u, after_high, prepend, content}
use Rattle.std.proofs.lemmas.Bool.{and_parts, ltb-true}
use Rattle.ccr_law_base.proofs.Lists.{some_equal}

-- ---- texts and ASCII

get_seam : (qs : List ℕ) (x : ℕ) (xs : List ℕ) → get_or (qs ++ x ∷ xs) (length qs) 0 ≡ x
get_seam [] x xs = refl
get_seam (q ∷ qs) x xs = get_seam qs x xs

take_seam : (qs xs : List ℕ) → take (length qs) (qs ++ xs) ≡ qs
take_seam [] [] = refl
take_seam [] (x ∷ xs) = refl
take_seam (q ∷ qs) xs = ap (λ (l : List ℕ). q ∷ l) (take_seam qs xs)

drop_seam : (qs : List ℕ) (x : ℕ) (xs : List ℕ) → drop (length qs + 1) (qs ++ x ∷ xs) ≡ xs
drop_seam [] x xs = refl
drop_seam (q ∷ qs) x xs =
    let more : suc (length qs) + 1 ≡ suc (length qs + 1) = omega arith in
    subst (λ (k : ℕ). drop k (q ∷ (qs ++ x ∷ xs)) ≡ xs) (sym more) (drop_seam qs x xs)

length_seam : (qs : List ℕ) (x : ℕ) (xs : List ℕ) → length qs < length (qs ++ x ∷ xs)
length_seam [] x xs = omega arith
length_seam (q ∷ qs) x xs = let rest : length qs < length (qs ++ x ∷ xs) = length_seam qs x xs in omega arith

-- before a byte of ASCII a text may be cut, and after it
pub before_ascii : (qs : List ℕ) (x : ℕ) (xs : List ℕ) → x < 128 → IsUtf8 (qs ++ x ∷ xs) → IsUtf8 qs
before_ascii qs x xs small text =
    subst IsUtf8 (take_seam qs (x ∷ xs))
    (IsUtf8-take (qs ++ x ∷ xs) (length qs) text
    (IsCharBoundary-before_ascii (qs ++ x ∷ xs) (length qs) (length_seam qs x xs) (subst (λ (k : ℕ). k < 128) (sym (get_seam qs x xs)) small)))

pub after_ascii : (qs : List ℕ) (x : ℕ) (xs : List ℕ) → x < 128 → IsUtf8 (qs ++ x ∷ xs) → IsUtf8 xs
after_ascii qs x xs small text =
    subst IsUtf8 (drop_seam qs x xs)
    (IsUtf8-drop (qs ++ x ∷ xs) (length qs + 1) text
    (IsCharBoundary-after_ascii (qs ++ x ∷ xs) (length qs) text (length_seam qs x xs) (subst (λ (k : ℕ). k < 128) (sym (get_seam qs x xs)) small)))

pub one_ascii : (x : ℕ) → x < 128 → IsUtf8 (x ∷ [])
one_ascii x small =
    let low : IsScalar x = grind (arith, nat_tests) in
    subst IsUtf8 (encode_ascii x small) (IsUtf8-encode x low)

-- ---- choices

pub on_cond : {X : Type 0} (P : X → Type 0) (b : Bool) (x y : X) → (b ≡ true → P x) → (b ≡ false → P y) → P (cond b x y)
on_cond P b x y holds fails = (elim b as (λ c. b ≡ c → P (cond c x y)) [ true ↦ holds | false ↦ fails ]) refl

-- ---- escapes

-- a byte with a short escape, and what that stands for, are ASCII
escaped_ascii : (x c : ℕ) → short_escape x ≡ Some c → (x < 128) × (c < 128)
unfolding short_escape
escaped_ascii x c =
    on_cond P ((x == 34) || (x == 92) || (x == 47)) (Some x) _
    (λ is e. let same : x ≡ c = some_equal x c e in let low : x < 128 = grind (arith, nat_tests) in (low, omega arith))
    (λ isnt. at 98 8 _ (omega arith) (omega arith) (at 102 12 _ (omega arith) (omega arith) (at 110 10 _ (omega arith) (omega arith)
    (at 114 13 _ (omega arith) (omega arith) (at 116 9 None (omega arith) (omega arith) (λ e. cc))))))
  where
    P : Option ℕ → Type 0
    P o = o ≡ Some c → (x < 128) × (c < 128)

    at : (letter code : ℕ) (rest : Option ℕ) → letter < 128 → code < 128 → P rest → P (cond (x == letter) (Some code) rest)
    at letter code rest low small others =
        on_cond P (x == letter) (Some code) rest
        (λ is e. let same : code ≡ c = some_equal code c e in let own : x ≡ letter = grind (arith, nat_tests) in (omega arith, omega arith)) (λ isnt. others)

digit_ascii : (x : ℕ) → is_digit x 16 ≡ true → x < 128
digit_ascii x =
    on_cond P (nat_lt x 48) 36 _ (λ is e. cc)
    (λ a. on_cond P (nat_lt x 58) (x - 48) _ (λ is e. grind (arith, nat_tests))
    (λ b. on_cond P (nat_lt x 65) 36 _ (λ is e. cc)
    (λ c. on_cond P (nat_lt x 91) (x - 55) _ (λ is e. grind (arith, nat_tests))
    (λ d. on_cond P (nat_lt x 97) 36 _ (λ is e. cc)
    (λ f. on_cond P (nat_lt x 123) (x - 87) 36 (λ is e. grind (arith, nat_tests)) (λ g e. cc))))))
  where
    P : ℕ → Type 0
    P v = nat_lt v 16 ≡ true → x < 128

pub record IsUnit (a b c d u : ℕ) : Type 0 where
  pub first : a < 128
  pub second : b < 128
  pub third : c < 128
  pub fourth : d < 128
  pub low : u < 65536

-- four hex digits spell a number below 65,536
unit_small : (a b c d u : ℕ) → code_unit a b c d ≡ Some u → IsUnit a b c d u
unfolding code_unit
unit_small a b c d u =
    on_cond P (is_digit a 16 && is_digit b 16 && is_digit c 16 && is_digit d 16) (Some (digit_value a * 4096 + digit_value b * 256 + digit_value c * 16 + digit_value d)) None
    (λ is e.
    let three = and_parts (is_digit a 16 && is_digit b 16 && is_digit c 16) (is_digit d 16) is in
    let two = and_parts (is_digit a 16 && is_digit b 16) (is_digit c 16) three.0 in
    let one = and_parts (is_digit a 16) (is_digit b 16) two.0 in
    record {
      first = digit_ascii a one.0;
      second = digit_ascii b one.1;
      third = digit_ascii c two.1;
      fourth = digit_ascii d three.1;
      low =
          let same : digit_value a * 4096 + digit_value b * 256 + digit_value c * 16 + digit_value d ≡ u = some_equal _ u e in
          let va : digit_value a < 16 = below (digit_value a) one.0 in
          let vb : digit_value b < 16 = below (digit_value b) one.1 in
          let vc : digit_value c < 16 = below (digit_value c) two.1 in
          let vd : digit_value d < 16 = below (digit_value d) three.1 in
          summed (digit_value a) (digit_value b) (digit_value c) (digit_value d) u va vb vc vd same;
    })
    (λ isnt e. cc)
  where
    P : Option ℕ → Type 0
    P o = o ≡ Some u → IsUnit a b c d u

    below : (v : ℕ) → nat_lt v 16 ≡ true → v < 16
    below v is = grind (arith, nat_tests)

    summed : (va vb vc vd u : ℕ) → va < 16 → vb < 16 → vc < 16 → vd < 16 → va * 4096 + vb * 256 + vc * 16 + vd ≡ u → u < 65536
    summed va vb vc vd u a b c d same = omega arith

-- ---- the content

-- what the reading of a string has passed, before what is left of it
abbrev pub Passed : Within → List ℕ → List ℕ → Type 0
Passed plain qs xs = IsUtf8 (qs ++ xs)
Passed after_backslash qs xs = IsUtf8 qs × IsUtf8 xs
Passed after_u qs xs = IsUtf8 qs × IsUtf8 xs
Passed (after_high h) qs xs = (IsUtf8 qs × IsUtf8 xs) × (is_high_surrogate h ≡ true)

abbrev Reads : List ℕ → List ℕ → Option (List ℕ) → Type 0
Reads qs s o = o ≡ Some s → IsUtf8 (qs ++ s)

prepended : (bytes : List ℕ) (o : Option (List ℕ)) (s : List ℕ) → prepend bytes o ≡ Some s → (rest : List ℕ) × (o ≡ Some rest) × (bytes ++ rest ≡ s)
prepended bytes None s e = cc
prepended bytes (Some rest) s e = (rest, refl, some_equal (bytes ++ rest) s e)

scalar_of : (u : ℕ) → u < 65536 → is_high_surrogate u ≡ false → is_low_surrogate u ≡ false → IsScalar u
scalar_of u low high surrogate = grind (arith, nat_tests)

pair_of : (h l : ℕ) → is_high_surrogate h ≡ true → is_low_surrogate l ≡ true → IsScalar (surrogate_pair h l)
pair_of h l high low =
    let hs = and_parts (nat_le 0xd800 h) (nat_lt h 0xdc00) high in
    let ls = and_parts (nat_le 0xdc00 l) (nat_lt l 0xe000) low in
    scalar_in (surrogate_pair h l) (summed h l (least h 0xd800 hs.0) (ltb-true h 0xdc00 hs.1) (least l 0xdc00 ls.0) (ltb-true l 0xe000 ls.1)).0
    (summed h l (least h 0xd800 hs.0) (ltb-true h 0xdc00 hs.1) (least l 0xdc00 ls.0) (ltb-true l 0xe000 ls.1)).1
  where
    least : (x k : ℕ) → nat_le k x ≡ true → k ≤ x
    least x k is = grind (arith, nat_tests)

    scalar_in : (v : ℕ) → 57344 ≤ v → v < 1114112 → IsScalar v
    scalar_in v low high = grind (arith, nat_tests)

    summed : (h l : ℕ) → 0xd800 ≤ h → h < 0xdc00 → 0xdc00 ≤ l → l < 0xe000 → (57344 ≤ surrogate_pair h l) × (surrogate_pair h l < 1114112)
    summed h l a b c d = (omega arith, omega arith)

content_text : (w : Within) (xs qs s : List ℕ) → Passed w qs xs → Reads qs s (content w xs)
unfolding content
content_text plain [] qs s passed = λ e. cc
content_text plain (x ∷ xs) qs s passed =
    on_cond (Reads qs s) (x == 34) (Some []) _
    (λ is e.
    let own : x ≡ 34 = grind (arith, nat_tests) in
    subst (λ (l : List ℕ). IsUtf8 (qs ++ l)) (some_equal [] s e) (subst IsUtf8 (sym (append-nil qs)) (before_ascii qs x xs (omega arith) passed)))
    (λ isnt. on_cond (Reads qs s) (x == 92) (content after_backslash xs) _
    (λ is. let own : x ≡ 92 = grind (arith, nat_tests) in content_text after_backslash xs qs s (before_ascii qs x xs (omega arith) passed, after_ascii qs x xs (omega arith) passed))
    (λ other. on_cond (Reads qs s) (nat_lt x 32) None _ (λ control e. cc)
    (λ text e.
    let more : (rest : List ℕ) × (content plain xs ≡ Some rest) × (x ∷ [] ++ rest ≡ s) = prepended (x ∷ []) (content plain xs) s e in
    subst IsUtf8 (append_assoc qs (x ∷ []) more.0 ∙ ap (λ (l : List ℕ). qs ++ l) more.2)
    (content_text plain xs (qs ++ x ∷ []) more.0 (subst IsUtf8 (sym (append_assoc qs (x ∷ []) xs)) passed) more.1))))
content_text after_backslash [] qs s passed = λ e. cc
content_text after_backslash (x ∷ xs) qs s passed =
    on_cond (Reads qs s) (x == 117) (content after_u xs) _
    (λ is. let own : x ≡ 117 = grind (arith, nat_tests) in content_text after_u xs qs s (passed.0, after_ascii [] x xs (omega arith) passed.1))
    (λ isnt. by_escape (λ left rest. content_text plain xs [] rest left) (short_escape x) (escaped_ascii x))
  where
    by_escape : (IsUtf8 xs → (rest : List ℕ) → content plain xs ≡ Some rest → IsUtf8 rest) → (o : Option ℕ) → ((c : ℕ) → o ≡ Some c → (x < 128) × (c < 128)) → Reads qs s (option_and_then (λ c. prepend (c ∷ []) (content plain xs)) o)
    by_escape go None small e = cc
    by_escape go (Some c) small e =
        let low : (x < 128) × (c < 128) = small c refl in
        let more : (rest : List ℕ) × (content plain xs ≡ Some rest) × (c ∷ [] ++ rest ≡ s) = prepended (c ∷ []) (content plain xs) s e in
        IsUtf8-append qs s passed.0 (subst IsUtf8 more.2 (IsUtf8-append (c ∷ []) more.0 (one_ascii c low.1)
        (go (after_ascii [] x xs low.0 passed.1) more.0 more.1)))
content_text after_u [] qs s passed = λ e. cc
content_text after_u (a ∷ []) qs s passed = λ e. cc
content_text after_u (a ∷ b ∷ []) qs s passed = λ e. cc
content_text after_u (a ∷ b ∷ c ∷ []) qs s passed = λ e. cc
content_text after_u (a ∷ b ∷ c ∷ d ∷ xs) qs s passed =
    by_unit (λ left rest. content_text plain xs [] rest left) (λ u left high. content_text (after_high u) xs qs s ((passed.0, left), high)) (code_unit a b c d) (unit_small a b c d)
  where
    by_unit : (IsUtf8 xs → (rest : List ℕ) → content plain xs ≡ Some rest → IsUtf8 rest)
        → ((u : ℕ) → IsUtf8 xs → is_high_surrogate u ≡ true → Reads qs s (content (after_high u) xs)) → (o : Option ℕ) → ((u : ℕ) → o ≡ Some u → IsUnit a b c d u)
        → Reads qs s (option_and_then (λ u. cond (is_high_surrogate u) (content (after_high u) xs) (cond (is_low_surrogate u) None (prepend (encode_utf8 u) (content plain xs)))) o)
    by_unit go pair None small = λ e. cc
    by_unit go pair (Some u) small =
        let fits : IsUnit a b c d u = small u refl in
        let left : IsUtf8 xs = after_ascii [] d xs fits.fourth (after_ascii [] c (d ∷ xs) fits.third (after_ascii [] b (c ∷ d ∷ xs) fits.second (after_ascii [] a (b ∷ c ∷ d ∷ xs) fits.first passed.1))) in
        on_cond (Reads qs s) (is_high_surrogate u) (content (after_high u) xs) _
        (λ high. pair u left high)
        (λ flat. on_cond (Reads qs s) (is_low_surrogate u) None _ (λ low e. cc)
        (λ own e.
        let more : (rest : List ℕ) × (content plain xs ≡ Some rest) × (encode_utf8 u ++ rest ≡ s) = prepended (encode_utf8 u) (content plain xs) s e in
        IsUtf8-append qs s passed.0 (subst IsUtf8 more.2 (IsUtf8-append (encode_utf8 u) more.0 (IsUtf8-encode u (scalar_of u fits.low flat own))
        (go left more.0 more.1)))))
content_text (after_high h) [] qs s passed = λ e. cc
content_text (after_high h) (p ∷ []) qs s passed = λ e. cc
content_text (after_high h) (p ∷ v ∷ []) qs s passed = λ e. cc
content_text (after_high h) (p ∷ v ∷ a ∷ []) qs s passed = λ e. cc
content_text (after_high h) (p ∷ v ∷ a ∷ b ∷ []) qs s passed = λ e. cc
content_text (after_high h) (p ∷ v ∷ a ∷ b ∷ c ∷ []) qs s passed = λ e. cc
content_text (after_high h) (p ∷ v ∷ a ∷ b ∷ c ∷ d ∷ xs) qs s passed =
    on_cond (Reads qs s) ((p == 92) && (v == 117)) _ None
    (λ is. by_unit (λ left rest. content_text plain xs [] rest left) is (code_unit a b c d) (unit_small a b c d)) (λ isnt e. cc)
  where
    at_most : (x k : ℕ) → (x == k) ≡ true → k < 128 → x < 128
    at_most x k is low = grind (arith, nat_tests)

    by_unit : (IsUtf8 xs → (rest : List ℕ) → content plain xs ≡ Some rest → IsUtf8 rest) → ((p == 92) && (v == 117)) ≡ true → (o : Option ℕ) → ((u : ℕ) → o ≡ Some u → IsUnit a b c d u)
        → Reads qs s (option_and_then (λ l. cond (is_low_surrogate l) (prepend (encode_utf8 (surrogate_pair h l)) (content plain xs)) None) o)
    by_unit go is None small = λ e. cc
    by_unit go is (Some l) small =
        let fits : IsUnit a b c d l = small l refl in
        let begins = and_parts (p == 92) (v == 117) is in
        let first : p < 128 = at_most p 92 begins.0 (omega arith) in
        let second : v < 128 = at_most v 117 begins.1 (omega arith) in
        let left : IsUtf8 xs = after_ascii [] d xs fits.fourth (after_ascii [] c (d ∷ xs) fits.third (after_ascii [] b (c ∷ d ∷ xs) fits.second (after_ascii [] a (b ∷ c ∷ d ∷ xs) fits.first
        (after_ascii [] v (a ∷ b ∷ c ∷ d ∷ xs) second (after_ascii [] p (v ∷ a ∷ b ∷ c ∷ d ∷ xs) first passed.0.1))))) in
        on_cond (Reads qs s) (is_low_surrogate l) _ None
        (λ low e.
        let more : (rest : List ℕ) × (content plain xs ≡ Some rest) × (encode_utf8 (surrogate_pair h l) ++ rest ≡ s)
        = prepended (encode_utf8 (surrogate_pair h l)) (content plain xs) s e in
        IsUtf8-append qs s passed.0.0 (subst IsUtf8 more.2 (IsUtf8-append (encode_utf8 (surrogate_pair h l)) more.0 (IsUtf8-encode (surrogate_pair h l) (pair_of h l passed.1 low))
        (go left more.0 more.1))))
        (λ isnt e. cc)

-- the content of a string is UTF-8 where what begins with it is
pub content_utf8 : (xs s : List ℕ) → IsUtf8 xs → content plain xs ≡ Some s → IsUtf8 s
content_utf8 xs s text e = content_text plain xs [] s text e
